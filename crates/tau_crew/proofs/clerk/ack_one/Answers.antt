use Rattle.std.proofs.Common.{◌<◌, subst, sym}
use Rattle.tau_core.specs.declared.state.Load.{Load}
use Rattle.tau_crew.specs.Clerking.{Acknowledges}
use Rattle.tau_crew.proofs.Clerking.{acknowledges_missing, acknowledges_none, acknowledges_put}
use Rattle.tau_crew.proofs.clerk.ack_one.Goals as goal

pub returns-clause-goes : goal.returns-clause-goes
returns-clause-goes g c =
    subst (λ (l : Load). Acknowledges l c.args.seat.now c.ack.new.self c.args.told.now c.put.new.self) (sym c.args.desk.now.same_load)
    (acknowledges_put c.args.desk.now.table.shared.key.value c.args.seat.now c.ack.new.self c.args.worker c.ack.new.call c.args.told.now c.put.new.self c.agrees.ensures c.requires.opened (subst (λ (l : Load). c.args.worker < l.workers) c.args.desk.now.same_load c.requires.there)
    (c.ack.ensures.acked c.if-not-ack.false) c.requires.none c.in_ok-put.ensures.acks.0 c.in_ok-put.ensures.acks.1 c.in_ok-put.ensures.lines c.put.ensures.sink)

pub returns-in_err-put-clause-goes : goal.returns-in_err-put-clause-goes
returns-in_err-put-clause-goes g c =
    subst (λ (l : Load). Acknowledges l c.args.seat.now c.ack.new.self c.args.told.now c.put.new.self) (sym c.args.desk.now.same_load)
    (acknowledges_missing c.args.desk.now.table.shared.key.value c.args.seat.now c.ack.new.self c.args.worker c.ack.new.call c.args.told.now c.put.new.self c.agrees.ensures c.requires.opened (subst (λ (l : Load). c.args.worker < l.workers) c.args.desk.now.same_load c.requires.there)
    (c.ack.ensures.acked c.if-not-ack.false) c.requires.none c.in_err-put.ensures.missing.0 c.in_err-put.ensures.missing.1 c.in_err-put.ensures.same c.put.ensures.sink)

pub returns-then-not-ack-clause-goes : goal.returns-then-not-ack-clause-goes
returns-then-not-ack-clause-goes g c = acknowledges_none c.args.desk.now.load c.args.seat.now c.ack.new.self c.args.told.now (c.ack.ensures.none c.if-not-ack.true).after
