-- Each bucket has the numbers of the readers so far with its slot.
use Rattle.std.proofs.Common.{◌≡◌, map, take, length}
use Rattle.std.specs.Vec.{vec_items}
use Rattle.tau_model.specs.Reported.{each}
use Rattle.tau_model.specs.Listing.{bucket}
use Rattle.tau_model.proofs.report.buckets_of.Given as goal

abbrev pub invariant-loop-entry : goal.invariant-loop-entry
invariant-loop-entry l = map vec_items l.buckets.items ≡ each (length l.reached) (bucket l.reached (take l.entry-index l.readers))
