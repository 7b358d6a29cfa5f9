-- The buckets so far.
use Rattle.std.proofs.Common.{◌≡◌, [], map}
use Rattle.std.specs.Vec.{vec_items}
use Rattle.tau_model.specs.Reported.{each}
use Rattle.tau_model.proofs.report.empty_buckets.Given as goal

abbrev pub invariant-loop : goal.invariant-loop
invariant-loop l = map vec_items l.buckets.items ≡ each l.counter (λ k. [])
