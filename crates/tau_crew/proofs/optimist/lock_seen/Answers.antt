use Rattle.std.proofs.Common.{ap}
use Rattle.tau_desk.specs.Seats.{PlainWorkerSeat}
use Rattle.tau_crew.proofs.WorkSteps.{is_before, unjoined_before, unjoined_same}
use Rattle.tau_crew.proofs.LockSeen.{works_seen}
use Rattle.tau_crew.proofs.optimist.lock_seen.Goals as goal

pub returns-in-Went-clause-works : goal.returns-in-Went-clause-works
returns-in-Went-clause-works g c = works_seen c.args.desk.now.table.shared.key.value c.args.peeker.now.seen c.args.seat.now c.lock_seen.new.self c.agrees.ensures c.requires.opened c.lock_seen.ensures.seat c.lock_seen.result c.lock_seen.ensures.step

pub returns-in-Busy-clause-works : goal.returns-in-Busy-clause-works
returns-in-Busy-clause-works g c = works_seen c.args.desk.now.table.shared.key.value c.args.peeker.now.seen c.args.seat.now c.lock_seen.new.self c.agrees.ensures c.requires.opened c.lock_seen.ensures.seat c.lock_seen.result c.lock_seen.ensures.step

pub returns-in-Other-clause-works : goal.returns-in-Other-clause-works
returns-in-Other-clause-works g c = works_seen c.args.desk.now.table.shared.key.value c.args.peeker.now.seen c.args.seat.now c.lock_seen.new.self c.agrees.ensures c.requires.opened c.lock_seen.ensures.seat c.lock_seen.result c.lock_seen.ensures.step

pub returns-in-NoMemory-clause-works : goal.returns-in-NoMemory-clause-works
returns-in-NoMemory-clause-works g c = works_seen c.args.desk.now.table.shared.key.value c.args.peeker.now.seen c.args.seat.now c.lock_seen.new.self c.agrees.ensures c.requires.opened c.lock_seen.ensures.seat c.lock_seen.result c.lock_seen.ensures.step

pub returns-in-NoMemory-clause-short : goal.returns-in-NoMemory-clause-short
returns-in-NoMemory-clause-short g c = unjoined_same c.args.seat.now.work.txn c.lock_seen.new.self.work.txn (ap (λ (x : PlainWorkerSeat). x.work.txn) c.in-NoMemory.ensures.step) (unjoined_before c.args.seat.now.work.txn (ap is_before c.requires.next))
