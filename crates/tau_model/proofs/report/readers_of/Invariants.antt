-- The read-only calls so far.
use Rattle.std.proofs.Common.{◌≡◌, map, take}
use Rattle.std.specs.Prelude.{not}
use Rattle.std.specs.List.{filter}
use Rattle.tau_model.specs.Committed.{has_record}
use Rattle.tau_model.specs.Listing.{entry_of}
use Rattle.tau_model.proofs.report.readers_of.Given as goal

abbrev pub invariant-loop-i : goal.invariant-loop-i
invariant-loop-i l = l.readers.items ≡ map entry_of (filter (λ c. not (has_record c)) (take l.i l.list.items))
