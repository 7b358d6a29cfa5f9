use Rattle.std.proofs.Common.{◌≡◌, ℕ, false, Bool, ap, subst, ◌∙◌}
use Rattle.std.specs.Prelude.{IfSome, IfNone}
use Rattle.tau_shard.specs.Shard.{at}
use Rattle.tau_shard.specs.Read.{bits, entry_of}
use Rattle.tau_shard.specs.Blocks.{blocks, IsLeast}
use Rattle.tau_shard.proofs.Masks.{blocks_by}
use Rattle.tau_shard.proofs.entry.blocker.Goals as goal

pub returns-clause-found : goal.returns-clause-found
returns-clause-found c =
    let is : bits c.without.result ≡ blocks (entry_of c.args.entry.now) c.args.worker c.args.mode =
    c.without.ensures ∙ ap (λ (f : ℕ → Bool). at c.args.worker false f) c.conflicting.ensures ∙ blocks_by (entry_of c.args.entry.now) c.args.worker c.args.mode in
    subst (λ (f : ℕ → Bool). IfSome c.lowest.result (λ u. IsLeast f u)) is c.lowest.ensures.found

pub returns-clause-free : goal.returns-clause-free
returns-clause-free c =
    let is : bits c.without.result ≡ blocks (entry_of c.args.entry.now) c.args.worker c.args.mode =
    c.without.ensures ∙ ap (λ (f : ℕ → Bool). at c.args.worker false f) c.conflicting.ensures ∙ blocks_by (entry_of c.args.entry.now) c.args.worker c.args.mode in
    subst (λ (f : ℕ → Bool). IfNone c.lowest.result ((u : ℕ) → f u ≡ false)) is c.lowest.ensures.none
