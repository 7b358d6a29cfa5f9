-- The first vector that covers the dep is from `low` to `high`.
use Rattle.std.proofs.Common.{ℕ, ◌-◌, ◌<◌, ◌≤◌, ◌≡◌, true, false, [], length}
use Rattle.std.specs.Prelude.{slice_index_or}
use Rattle.tau_base.specs.Vectors.{covers}
use Rattle.tau_model.proofs.report.slot_of.Given as goal

abbrev pub invariant-loop-low : goal.invariant-loop-low
invariant-loop-low l = record {
  within : l.high ≤ length l.reached;
  between : l.low ≤ l.high;
  before : (k : ℕ) → k < l.low → covers (slice_index_or l.reached k []) l.dep ≡ false;
  behind : (k : ℕ) → l.high ≤ k → k < length l.reached → covers (slice_index_or l.reached k []) l.dep ≡ true;
}

abbrev pub decreases-loop-low : goal.decreases-loop-low
decreases-loop-low l = l.high - l.low
