-- Nothing waits, or something does.
use Rattle.std.proofs.Common.{ℕ, ◌≡◌, subst, arith}
use Rattle.std.specs.Prelude.{Some, true, slice_get}
use Rattle.tau_pool.specs.Item.{Item}
use Rattle.tau_pool.specs.Items.{is_waiting}
use Rattle.tau_pool.specs.Pooled.{Pooled, IsDone}
use Rattle.tau_pool.proofs.Counts.{none_waiting, some_waiting}
use Rattle.tau_pool.proofs.pools.Pools.none_ready.Goals as goal

pub returns-then-self-eq0-clause-done : goal.returns-then-self-eq0-clause-done
returns-then-self-eq0-clause-done c e = subst (λ (p : Pooled). IsDone p) c.self.view_is (λ i x. none_waiting c.self.inside.items (omega (arith, c.self.invariant.unstarted, c.if-self-eq0.true)) i x)

pub returns-clause-not_yet : goal.returns-clause-not_yet
returns-clause-not_yet c e =
    let some = some_waiting c.self.inside.items (omega (arith, c.self.invariant.unstarted, c.if-self-eq0.false)) in
    record { some = subst (λ (p : Pooled). (i : ℕ) × (x : Item) × (slice_get p.items i ≡ Some x) × (is_waiting x.stage ≡ true)) c.self.view_is some; none_ready = c.requires }
