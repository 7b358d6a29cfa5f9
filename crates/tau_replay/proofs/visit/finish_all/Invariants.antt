-- Only what the hands so far have in flight may have changed.
use Rattle.std.proofs.Common.{◌≡◌}
use Rattle.tau_replay.specs.Sound.{AreWorking}
use Rattle.tau_replay.specs.Working.{RestStays}
use Rattle.tau_replay.proofs.visit.finish_all.Given as goal

abbrev pub invariant-loop-i : goal.invariant-loop-i
invariant-loop-i l = record {
  working : AreWorking l.log l.part.replay;
  rest : RestStays l.first l.i l.initial.part.replay.hands.items l.part.replay.hands.items;
  tasks : l.tasks.items ≡ l.initial.tasks.items;
}
