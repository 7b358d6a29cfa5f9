use Rattle.std.proofs.Common.{◌≡◌}
use Rattle.std.specs.Prelude.{None}
use Rattle.tau_crew.specs.Clerking.{Acknowledges}
use Rattle.tau_crew.proofs.clerk.ack_worker.Given as goal

abbrev pub invariant-loop-call : goal.invariant-loop-call
invariant-loop-call g l = Acknowledges l.desk.load l.initial.seat l.seat l.initial.told l.told × (l.told.missing ≡ None)
