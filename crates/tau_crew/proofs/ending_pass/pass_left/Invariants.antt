-- Managers and the clerk went on, and the head is as it was.
use Rattle.std.proofs.Common.{◌≡◌}
use Rattle.tau_crew.specs.EndLeft.{GoesOn}
use Rattle.tau_crew.proofs.ending_pass.pass_left.Given as goal

abbrev pub invariant-loop : goal.invariant-loop
invariant-loop g l = (l.head ≡ l.initial.head) × GoesOn l.desk.table.shared.key.value l.desk.table.shared.table_id g.K.Sink.tells (g.K.Sink.held l.initial.sink) (g.K.Sink.held l.sink) (g.K.Sink.faults l.initial.sink) (g.K.Sink.faults l.sink) l.initial.jobs.items l.jobs.items l.initial.clerk l.clerk
