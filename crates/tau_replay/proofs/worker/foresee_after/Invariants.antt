-- The tasks stay as they are.
use Rattle.std.proofs.Common.{◌≡◌}
use Rattle.tau_replay.proofs.worker.foresee_after.Given as goal

abbrev pub invariant-loop-i : goal.invariant-loop-i
invariant-loop-i l = l.tasks.items ≡ l.initial.tasks.items
