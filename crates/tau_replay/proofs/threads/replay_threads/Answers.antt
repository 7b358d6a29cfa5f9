-- The turns that led to what was under the lock.
use Rattle.tau_replay.specs.Followed.{IsRedoneBy}
use Rattle.tau_replay.proofs.Crews.{ok_some}
use Rattle.tau_replay.proofs.threads.replay_threads.Goals as goal

pub returns-clause-followed : goal.returns-clause-followed
returns-clause-followed g c =
    let sound = c.in-Ok-run.ensures.sound in
    ok_some c.end.result (IsRedoneBy c.args.log.now) sound.turns (c.end.ensures.followed sound.turns sound.followed)
