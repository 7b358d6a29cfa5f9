use Rattle.std.proofs.Common.{◌∙◌, refl}
use Rattle.tau_crew.proofs.Clerking.{acknowledges_none, acknowledges_on}
use Rattle.tau_crew.proofs.clerk.ack_all.Goals as goal

pub loop-worker-init : goal.loop-worker-init
loop-worker-init g c = (acknowledges_none c.args.desk.now.load c.args.seat.now c.args.seat.now c.args.told.now refl, c.requires.none)

pub ack_worker-requires-clause-own : goal.ack_worker-requires-clause-own
ack_worker-requires-clause-own g c = c.loop-worker.invariant.0.same.table ∙ c.requires.own

pub ack_worker-requires-clause-opened : goal.ack_worker-requires-clause-opened
ack_worker-requires-clause-opened g c = c.loop-worker.invariant.0.same.opened ∙ c.requires.opened

pub ack_worker-requires-clause-none : goal.ack_worker-requires-clause-none
ack_worker-requires-clause-none g c = c.loop-worker.invariant.1

pub returns-in_err-ack_worker-clause-goes : goal.returns-in_err-ack_worker-clause-goes
returns-in_err-ack_worker-clause-goes g c = acknowledges_on c.args.desk.now.load c.args.seat.now c.loop-worker.seat c.ack_worker.new.seat c.args.told.now c.loop-worker.told c.ack_worker.new.told c.loop-worker.invariant.0 c.ack_worker.ensures.goes

pub loop-worker-preserved : goal.loop-worker-preserved
loop-worker-preserved g c = (
  acknowledges_on c.args.desk.now.load c.args.seat.now c.loop-worker.seat c.ack_worker.new.seat c.args.told.now c.loop-worker.told c.ack_worker.new.told c.loop-worker.invariant.0 c.ack_worker.ensures.goes,
  c.in_ok-ack_worker.ensures.none,
)
