use Rattle.std.proofs.Common.{ap}
use Rattle.tau_desk.specs.Seats.{PlainWorkerSeat}
use Rattle.tau_crew.proofs.LockSeen.{lock_in_hand, on_err}
use Rattle.tau_crew.proofs.WorkSteps.{is_before, unjoined_before, unjoined_same, works_unchanged}
use Rattle.tau_crew.proofs.optimist.peek.Goals as goal

pub peek-value-requires-clause-hand : goal.peek-value-requires-clause-hand
peek-value-requires-clause-hand g c = lock_in_hand c.args.seat.now.work.txn c.requires.next

pub returns-clause-works : goal.returns-clause-works
returns-clause-works g c = works_unchanged c.args.seat.now c.peek-value.new.self c.peek-value.ensures.same

pub returns-clause-short : goal.returns-clause-short
returns-clause-short g c = on_err c.saw.result (unjoined_same c.args.seat.now.work.txn c.peek-value.new.self.work.txn (ap (λ (x : PlainWorkerSeat). x.work.txn) c.peek-value.ensures.same) (unjoined_before c.args.seat.now.work.txn (ap is_before c.requires.next)))
