-- The course is the whole log.
use Rattle.tau_replay.specs.Course.{whole}
use Rattle.tau_replay.proofs.threads.replay_threads.Given as goal

abbrev pub ghost-end : goal.ghost-end
ghost-end g a = whole a.log.now
