use Rattle.std.proofs.Common.{ℕ, List, ◌<◌, ◌^◌, ap, subst, ◌∙◌}
use Rattle.tau_block.specs.declared.content.Content.{Content}
use Rattle.tau_scan.specs.Contents.{bytes_in}
use Rattle.tau_begin.specs.Given.{next_epoch}
use Rattle.tau_begin.proofs.Beginning.{none_before}
use Rattle.tau_begin.proofs.Giving.{if_ok_then}
use Rattle.tau_begin.proofs.open.starts_on.Goals as goal

pub starts_of-requires-clause-fresh : goal.starts_of-requires-clause-fresh
starts_of-requires-clause-fresh c none =
    none_before c.args.contents.items c.args.log.now c.in_ok-epoch.epoch (c.in_ok-epoch.ensures.is ∙ ap (λ (xs : List Content). next_epoch (bytes_in xs) c.args.log.now) c.deref.ensures.value) none

pub returns-clause-small : goal.returns-clause-small
returns-clause-small c =
    if_ok_then _ _ c.starts_of.result c.starts_of.ensures (λ starts are. subst (λ (k : ℕ). k < 2 ^ 32) (c.in_ok-epoch.ensures.is ∙ ap (λ (xs : List Content). next_epoch (bytes_in xs) c.args.log.now) c.deref.ensures.value) c.in_ok-epoch.ensures.small)
