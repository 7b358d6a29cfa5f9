-- The records of the stream so far.
use Rattle.std.proofs.Common.{◌≡◌, map, take}
use Rattle.std.specs.List.{filter}
use Rattle.tau_model.specs.Reported.{in_stream}
use Rattle.tau_model.specs.Committed.{has_record, place_of}
use Rattle.tau_model.specs.Listing.{entry_of}
use Rattle.tau_model.proofs.report.records_of.Given as goal

abbrev pub invariant-loop-i : goal.invariant-loop-i
invariant-loop-i l = l.records.items ≡ map entry_of (filter (in_stream place_of has_record l.stream) (take l.i l.list.items))
