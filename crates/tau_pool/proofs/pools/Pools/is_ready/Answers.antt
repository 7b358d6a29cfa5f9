-- What is kept of each stream says how far it is recovered.
use Rattle.std.proofs.Common.{subst}
use Rattle.tau_pool.specs.Pooled.{Pooled, IsRecovered}
use Rattle.tau_pool.proofs.Firsts.{recovered}
use Rattle.tau_pool.proofs.pools.Pools.is_ready.Goals as goal

pub returns-clause-recovered : goal.returns-clause-recovered
returns-clause-recovered c =
    let k = c.self.invariant in
    subst (λ (p : Pooled). IsRecovered p.ends p.rlv p.items) c.self.view_is
    (recovered c.self.inside.ends c.self.inside.rlv c.self.inside.items c.self.inside.nexts.items k.wide k.ordered k.within k.reached)
