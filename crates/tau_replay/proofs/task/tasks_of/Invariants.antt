-- So many empty hands.
use Rattle.std.proofs.Common.{◌≡◌, replicate}
use Rattle.tau_replay.proofs.task.tasks_of.Given as goal

abbrev pub invariant-loop : goal.invariant-loop
invariant-loop l = l.tasks.items ≡ replicate l.counter l.log
