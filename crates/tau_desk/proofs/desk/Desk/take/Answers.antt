use Rattle.tau_rule.proofs.Gives.{took_has}
use Rattle.tau_desk.proofs.desk.Desk.take.Goals as goal

pub lift-requires-clause-has : goal.lift-requires-clause-has
lift-requires-clause-has g c = took_has c.args.self.now.table.shared.key.value c.args.number c.args.seat.now.me c.try_take.new.seat.me (c.try_take.ensures.took c.if-try_take.true)
