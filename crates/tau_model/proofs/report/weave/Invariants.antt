-- What is written and what is left to write are the whole.
use Rattle.std.proofs.Common.{◌≡◌, ◌++◌, map, drop}
use Rattle.std.specs.Vec.{vec_items}
use Rattle.tau_model.specs.Listing.{woven}
use Rattle.tau_model.proofs.report.weave.Given as goal

abbrev pub invariant-loop-k : goal.invariant-loop-k
invariant-loop-k l = l.out.items ++ woven (drop l.k (map vec_items l.buckets)) (drop l.k l.numbers) ≡ woven (map vec_items l.buckets) l.numbers
