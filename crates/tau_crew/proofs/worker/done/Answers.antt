use Rattle.std.proofs.Common.{sym, ◌∙◌}
use Rattle.tau_crew.proofs.WorkSteps.{works_ended, works_ended_reading}
use Rattle.tau_crew.proofs.worker.done.Goals as goal

pub returns-then-has_joined : goal.returns-then-has_joined
returns-then-has_joined g c = works_ended c.args.desk.now.table.shared.key.value c.args.seat.now c.done.new.self c.agrees.ensures c.requires.opened c.done.ensures.seat (sym c.has_joined.ensures ∙ c.if-has_joined.true) c.done.ensures.step

pub returns : goal.returns
returns g c = works_ended_reading c.args.desk.now.table.shared.key.value c.args.seat.now c.done_reading.new.self c.agrees.ensures c.requires.opened c.done_reading.ensures.seat (sym c.has_joined.ensures ∙ c.if-has_joined.false) c.done_reading.ensures.step
