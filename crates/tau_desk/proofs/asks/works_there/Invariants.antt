use Rattle.std.proofs.Common.{ℕ, ◌<◌, ◌≡◌}
use Rattle.std.specs.Prelude.{Some, None, slice_get}
use Rattle.tau_desk.proofs.asks.works_there.Given as goal

abbrev pub invariant-loop-worker : goal.invariant-loop-worker
invariant-loop-worker l = (i : ℕ) → i < l.worker → slice_get l.works.items i ≡ Some None → ⊥
