-- Those before have gathered all, and the head is as it was.
use Rattle.std.proofs.Common.{◌≡◌}
use Rattle.tau_crew.specs.EndLeft.{HaveGathered}
use Rattle.tau_crew.proofs.ending_done.are_flushed.Given as goal

abbrev pub invariant-loop-stream : goal.invariant-loop-stream
invariant-loop-stream g l = (l.head ≡ l.initial.head) × HaveGathered l.desk.table.shared.key.value l.initial.head l.jobs.items l.stream
