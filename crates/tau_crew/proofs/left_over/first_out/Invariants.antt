-- Those before it are there.
use Rattle.std.proofs.Common.{ℕ, ◌<◌, ◌≡◌}
use Rattle.std.specs.Prelude.{Some, slice_get}
use Rattle.tau_desk.specs.Shares.{PlainWork}
use Rattle.tau_crew.proofs.left_over.first_out.Given as goal

abbrev pub invariant-loop-worker : goal.invariant-loop-worker
invariant-loop-worker l = (u : ℕ) → u < l.worker → (work : PlainWork) × (slice_get l.head.workers u ≡ Some (Some work))
