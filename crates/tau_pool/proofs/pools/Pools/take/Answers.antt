-- What was in flight stays there.
use Rattle.std.proofs.Common.{◌≡◌, ◌≢◌, subst}
use Rattle.tau_pool.specs.declared.item.Job.{Job}
use Rattle.tau_pool.specs.declared.pools.Next.TheVariants.{Taken}
use Rattle.tau_pool.specs.Pooled.{IsFlying}
use Rattle.tau_pool.proofs.Flights.{flying_new, flying_fresh, flying_kept, same_flying}
use Rattle.tau_pool.proofs.pools.Pools.take.Goals as goal

same_job : (a b : Job) → Taken a ≡ Taken b → a ≡ b
same_job a b e = cc

pub returns-in-Some-clause-flying : goal.returns-in-Some-clause-flying
returns-in-Some-clause-flying c job e = subst (λ (j : Job). IsFlying c.start.new.self j) (same_job c.start.result job e) (flying_new c.next_ready.new.self c.start.result c.start.new.self c.start.ensures.started)

pub returns-in-Some-clause-fresh : goal.returns-in-Some-clause-fresh
returns-in-Some-clause-fresh c job other e f =
    subst (λ (j : Job). other.place ≢ j.place) (same_job c.start.result job e) (flying_fresh c.next_ready.new.self c.start.result other c.start.new.self c.start.ensures.started
    (same_flying c.args.self.now c.next_ready.new.self other c.next_ready.ensures.same f))

pub returns-in-Some-clause-kept : goal.returns-in-Some-clause-kept
returns-in-Some-clause-kept c other f =
    flying_kept c.next_ready.new.self c.start.result other c.start.new.self c.start.ensures.started (same_flying c.args.self.now c.next_ready.new.self other c.next_ready.ensures.same f)
