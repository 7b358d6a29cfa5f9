use Rattle.tau_crew.proofs.LockSeen.{lock_in_hand}
use Rattle.tau_crew.proofs.optimist.begin_first.Goals as goal

pub begin_peeking-requires-clause-hand : goal.begin_peeking-requires-clause-hand
begin_peeking-requires-clause-hand c = lock_in_hand c.args.seat.now.work.txn c.requires.next
