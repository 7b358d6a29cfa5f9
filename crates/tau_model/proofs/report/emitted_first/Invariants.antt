-- What is emitted for the streams so far.
use Rattle.std.proofs.Common.{ℕ, ◌<◌, ◌≡◌, map, length}
use Rattle.std.specs.Prelude.{slice_index}
use Rattle.std.specs.VecDeque.{deque_items}
use Rattle.tau_model.specs.Reported.{emitted}
use Rattle.tau_model.specs.Listing.{entry_place}
use Rattle.tau_model.proofs.report.emitted_first.Given as goal

abbrev pub invariant-loop-j : goal.invariant-loop-j
invariant-loop-j l = record {
  wide : length l.emitted ≡ length l.ends;
  done : (k : ℕ) → k < l.j → slice_index l.emitted k ≡ slice_index (emitted entry_place (map deque_items l.streams) l.ends) k;
}
