-- None of those before is stopped.
use Rattle.std.proofs.Common.{ℕ, ◌<◌, ◌≡◌, List}
use Rattle.std.specs.Prelude.{None}
use Rattle.tau_crew_facts.specs.Ends.{stops_of}
use Rattle.tau_crew.proofs.ending.lowest_failed.Given as goal

abbrev pub invariant-loop-stream : goal.invariant-loop-stream
invariant-loop-stream g l = (plv : List ℕ) (i : ℕ) → i < l.stream → stops_of l.writers.items plv i ≡ None
