-- No stream so far has a covered record next.
use Rattle.std.proofs.Common.{ℕ, ◌<◌, ◌≡◌, false, [], map}
use Rattle.std.specs.Prelude.{slice_index_or}
use Rattle.std.specs.VecDeque.{deque_items}
use Rattle.tau_model.specs.Listing.{covered_by, first_passes}
use Rattle.tau_model.proofs.report.next_stream.Given as goal

abbrev pub invariant-loop-j : goal.invariant-loop-j
invariant-loop-j l = (k : ℕ) → k < l.j → first_passes (covered_by l.reach) (slice_index_or (map deque_items l.streams) k []) ≡ false
