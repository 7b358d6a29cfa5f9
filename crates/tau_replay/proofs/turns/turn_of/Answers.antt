-- Of no worker nothing changes.
use Rattle.std.proofs.Common.{arith}
use Rattle.tau_model.specs.Store.{database}
use Rattle.tau_replay.proofs.Following.{follow_none, past_hands}
use Rattle.tau_replay.proofs.turns.turn_of.Goals as goal

pub returns-else-from-lt-MAX_RECOVERY_WORKERS-clause-followed : goal.returns-else-from-lt-MAX_RECOVERY_WORKERS-clause-followed
returns-else-from-lt-MAX_RECOVERY_WORKERS-clause-followed g c turns f =
    let hands = c.args.replay.now.hands.items in
    follow_none c.args.log.now g.course turns c.args.worker c.args.replay.now.pools hands (database c.args.replay.now.store) f (past_hands hands c.args.worker (omega (arith, c.requires.sixteen, c.if-from-lt-MAX_RECOVERY_WORKERS.false)))
