-- Of the workers before all is told.
use Rattle.tau_crew.specs.EndLeft.{AreTold}
use Rattle.tau_crew.proofs.ending_done.all_told.Given as goal

abbrev pub invariant-loop-worker : goal.invariant-loop-worker
invariant-loop-worker l = AreTold l.desk.load.workers l.positions l.head l.clerk.told.acks l.worker
