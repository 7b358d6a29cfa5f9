use Rattle.std.proofs.Common.{ℕ, ◌<◌, ◌≡◌}
use Rattle.std.specs.Prelude.{Some, slice_get}
use Rattle.tau_core.specs.Plain.{PlainSeat}
use Rattle.tau_core.specs.LeftOvers.{RestsSeat}
use Rattle.tau_core.proofs.resume.all_rest.Given as goal

abbrev pub invariant-loop-worker : goal.invariant-loop-worker
invariant-loop-worker l = (w : ℕ) → w < l.worker → (s : PlainSeat) → slice_get l.state.seats.items w ≡ Some s → RestsSeat l.state.load s
