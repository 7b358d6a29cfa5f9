use Rattle.tau_crew.proofs.WorkSteps.{works_none, works_roomy}
use Rattle.tau_crew.proofs.worker.make_ready.Goals as goal

pub returns-then-is_roomy-clause-works : goal.returns-then-is_roomy-clause-works
returns-then-is_roomy-clause-works g c = works_none c.args.seat.now

pub returns-then-make_room-clause-works : goal.returns-then-make_room-clause-works
returns-then-make_room-clause-works g c = works_roomy c.args.seat.now c.make_room.new.self c.make_room.ensures.made

pub returns-clause-works : goal.returns-clause-works
returns-clause-works g c = works_roomy c.args.seat.now c.make_room.new.self c.make_room.ensures.made
