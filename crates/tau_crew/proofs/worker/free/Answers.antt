use Rattle.std.proofs.Common.{sym, ◌∙◌}
use Rattle.tau_crew.proofs.WorkSteps.{works_first_freed, works_freed}
use Rattle.tau_crew.proofs.worker.free.Goals as goal

pub returns-then-has_joined : goal.returns-then-has_joined
returns-then-has_joined g c = works_freed c.args.desk.now.table.shared.key.value c.args.seat.now c.free-acted.new.self c.agrees.ensures c.requires.opened c.free-acted.ensures.seat c.free-acted.result (sym c.has_joined.ensures ∙ c.if-has_joined.true) c.free-acted.ensures.step

pub returns : goal.returns
returns g c = works_first_freed c.args.desk.now.table.shared.key.value c.args.seat.now c.first_free-acted.new.self c.agrees.ensures c.requires.opened c.first_free-acted.ensures.seat c.first_free-acted.result (sym c.has_joined.ensures ∙ c.if-has_joined.false) c.first_free-acted.ensures.step
