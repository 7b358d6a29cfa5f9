-- The workers are on their way.
use Rattle.std.proofs.Common.{take}
use Rattle.tau_replay.specs.Course.{whole}
use Rattle.tau_replay.specs.Followed.{Followed}
use Rattle.tau_replay.specs.Way.{IsOnWay}
use Rattle.tau_replay.proofs.replay.replay_turns.Given as goal

abbrev pub invariant-loop-worker : goal.invariant-loop-worker
invariant-loop-worker l = record { going : IsOnWay l.log l.replay; followed : Followed l.log (take l.worker-index l.turns) l.replay }

abbrev pub ghost-turn_of : goal.ghost-turn_of
ghost-turn_of a = whole a.log.now

abbrev pub ghost-end : goal.ghost-end
ghost-end a = whole a.log.now
