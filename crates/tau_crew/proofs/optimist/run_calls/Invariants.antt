use Rattle.std.proofs.Common.{◌≡◌}
use Rattle.std.specs.Prelude.{None}
use Rattle.tau_crew.specs.Working.{WorksOn}
use Rattle.tau_crew.proofs.optimist.run_calls.Given as goal

abbrev pub invariant-loop : goal.invariant-loop
invariant-loop g l = record { works : WorksOn l.initial.seat l.seat; hand : l.seat.work.txn.hand ≡ None }
