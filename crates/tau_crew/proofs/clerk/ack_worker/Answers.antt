use Rattle.std.proofs.Common.{◌∙◌, refl}
use Rattle.tau_crew.proofs.Clerking.{acknowledges_none, acknowledges_on}
use Rattle.tau_crew.proofs.clerk.ack_worker.Goals as goal

pub loop-call-init : goal.loop-call-init
loop-call-init g c = (acknowledges_none c.args.desk.now.load c.args.seat.now c.args.seat.now c.args.told.now refl, c.requires.none)

pub ack_one-requires-clause-own : goal.ack_one-requires-clause-own
ack_one-requires-clause-own g c = c.loop-call.invariant.0.same.table ∙ c.requires.own

pub ack_one-requires-clause-opened : goal.ack_one-requires-clause-opened
ack_one-requires-clause-opened g c = c.loop-call.invariant.0.same.opened ∙ c.requires.opened

pub ack_one-requires-clause-none : goal.ack_one-requires-clause-none
ack_one-requires-clause-none g c = c.loop-call.invariant.1

pub returns-then-not-branch-clause-goes : goal.returns-then-not-branch-clause-goes
returns-then-not-branch-clause-goes g c = acknowledges_on c.args.desk.now.load c.args.seat.now c.loop-call.seat c.ack_one.new.seat c.args.told.now c.loop-call.told c.ack_one.new.told c.loop-call.invariant.0 c.ack_one.ensures.goes

pub returns-in_err-ack_one-clause-goes : goal.returns-in_err-ack_one-clause-goes
returns-in_err-ack_one-clause-goes g c = acknowledges_on c.args.desk.now.load c.args.seat.now c.loop-call.seat c.ack_one.new.seat c.args.told.now c.loop-call.told c.ack_one.new.told c.loop-call.invariant.0 c.ack_one.ensures.goes

pub loop-call-preserved : goal.loop-call-preserved
loop-call-preserved g c = (
  acknowledges_on c.args.desk.now.load c.args.seat.now c.loop-call.seat c.ack_one.new.seat c.args.told.now c.loop-call.told c.ack_one.new.told c.loop-call.invariant.0 c.ack_one.ensures.goes,
  c.in_ok-ack_one.ensures.none,
)
