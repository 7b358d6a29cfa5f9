-- Nothing waits, and what is kept of each stream says how far it is recovered.
use Rattle.std.proofs.Common.{rules, subst}
use Rattle.tau_pool.specs.Pooled.{Pooled, IsRecovered, IsDone}
use Rattle.tau_pool.proofs.Counts.{none_waiting}
use Rattle.tau_pool.proofs.Firsts.{recovered}
use Rattle.tau_pool.proofs.pools.Pools.all_started.Goals as goal

pub returns-clause-done : goal.returns-clause-done
returns-clause-done c e = subst (λ (p : Pooled). IsDone p) c.self.view_is (λ i x. none_waiting c.self.inside.items (search rules) i x)

pub returns-clause-recovered : goal.returns-clause-recovered
returns-clause-recovered c =
    let k = c.self.invariant in
    subst (λ (p : Pooled). IsRecovered p.ends p.rlv p.items) c.self.view_is
    (recovered c.self.inside.ends c.self.inside.rlv c.self.inside.items c.self.inside.nexts.items k.wide k.ordered k.within k.reached)
