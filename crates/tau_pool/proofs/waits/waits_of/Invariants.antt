-- The streams so far.
use Rattle.std.proofs.Common.{ℕ, ◌≡◌, ◌<◌, length, slice_index, Some}
use Rattle.std.specs.Prelude.{slice_get}
use Rattle.tau_model.specs.Reported.{ascending}
use Rattle.tau_pool.specs.Passing.{waits_at, wait_at}
use Rattle.tau_pool.proofs.waits.waits_of.Given as goal

abbrev pub invariant-loop-k : goal.invariant-loop-k
invariant-loop-k l = record {
  many : length l.waits.items ≡ l.k;
  each : (i : ℕ) → i < l.k → slice_get l.waits.items i ≡ Some (ascending wait_at (waits_at i (slice_index l.rlv i) 0 l.items));
}
