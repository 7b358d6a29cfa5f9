use Rattle.tau_rule.proofs.Gives.{took_has}
use Rattle.tau_desk.proofs.desk.Desk.take_later.Goals as goal

pub lift-requires-clause-has : goal.lift-requires-clause-has
lift-requires-clause-has g c = took_has c.args.self.now.table.shared.key.value c.args.number c.args.seat.now.me c.look_for.new.seat.me (c.look_for.ensures.took c.if-look_for.true)

pub lift-requires-2-clause-has : goal.lift-requires-2-clause-has
lift-requires-2-clause-has g c = took_has c.args.self.now.table.shared.key.value c.args.number c.look_for.new.seat.me c.wait_for.new.seat.me c.wait_for.ensures.took
