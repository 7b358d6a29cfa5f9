-- The lists change nothing that contracts see.
use Rattle.std.proofs.Common.{◌≡◌, ◌∙◌, true, subst}
use Rattle.std.specs.Prelude.{IfSome, IsNone}
use Rattle.tau_pool.specs.Passing.{is_ready}
use Rattle.tau_pool.specs.Pooled.{Pooled, NoneReady}
use Rattle.tau_pool.proofs.pools.Pools.next_ready.Goals as goal

pub returns-clause-same : goal.returns-clause-same
returns-clause-same c = c.next_listed.ensures.same ∙ c.list.ensures

pub returns-clause-found : goal.returns-clause-found
returns-clause-found c = subst (λ (p : Pooled). IfSome c.next_listed.result (λ i. is_ready p.items p.rlv i ≡ true)) c.list.ensures c.next_listed.ensures.found

pub returns-clause-none : goal.returns-clause-none
returns-clause-none c = subst (λ (p : Pooled). IsNone c.next_listed.result → NoneReady p) c.list.ensures c.next_listed.ensures.none
