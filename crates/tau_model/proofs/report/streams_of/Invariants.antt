-- The streams so far.
use Rattle.std.proofs.Common.{◌≡◌, map}
use Rattle.std.specs.List.{filter}
use Rattle.std.specs.VecDeque.{deque_items}
use Rattle.tau_model.specs.Reported.{ascending, each, in_stream}
use Rattle.tau_model.specs.Committed.{has_record, place_of}
use Rattle.tau_model.specs.Listing.{entry_of, entry_start}
use Rattle.tau_model.proofs.report.streams_of.Given as goal

abbrev pub invariant-loop-j : goal.invariant-loop-j
invariant-loop-j l = map deque_items l.streams.items ≡ each l.j (λ j. ascending entry_start (map entry_of (filter (in_stream place_of has_record j) l.list.items)))
