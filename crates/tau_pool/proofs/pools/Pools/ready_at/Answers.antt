-- A ready record is there.
use Rattle.std.proofs.Common.{◌≡◌, ◌∙◌, true, sym, subst}
use Rattle.tau_pool.specs.Passing.{is_ready}
use Rattle.tau_pool.specs.Pooled.{Pooled}
use Rattle.tau_pool.proofs.Passes.{ready_inv}
use Rattle.tau_pool.proofs.pools.Pools.ready_at.Goals as goal
use Rattle.tau_base.proofs.Lists.{got_within}

pub job-requires : goal.job-requires
job-requires c =
    let on : is_ready c.self.inside.items c.self.inside.rlv c.args.place ≡ true = subst (λ (p : Pooled). is_ready p.items p.rlv c.args.place ≡ true) (sym c.self.view_is) (sym c.is_ready.ensures.same ∙ c.if-not-is_ready.false) in
    let (x, there, waits, covered) = ready_inv c.self.inside.items c.self.inside.rlv c.args.place on in
    got_within c.self.inside.items c.args.place x there
