-- From the beginning of each stream all taken records are kept.
use Rattle.std.proofs.Common.{ℕ, List, ◌≡◌, ap, subst, ◌∙◌}
use Rattle.std.specs.Prelude.{IfOk}
use Rattle.tau_scan.specs.Epochs.{judge_of}
use Rattle.tau_pool.specs.Item.{Item}
use Rattle.tau_pool.specs.Items.{items_from, items_after}
use Rattle.tau_pool.proofs.After.{zeros_after}
use Rattle.tau_pool.proofs.pools.Pools.new.Goals as goal

pub returns-clause-items : goal.returns-clause-items
returns-clause-items c =
    let log = c.args.log.now in
    let xs = items_from (judge_of log) 0 log.streams in
    let is : items_after c.zero.result (judge_of log) log.streams ≡ xs = ap (λ (from : List ℕ). items_after from (judge_of log) log.streams) c.zero.ensures ∙ zeros_after c.width.result xs in
    subst (λ (ys : List Item). IfOk c.behind.result (λ p. p.items ≡ ys)) is c.behind.ensures.items
