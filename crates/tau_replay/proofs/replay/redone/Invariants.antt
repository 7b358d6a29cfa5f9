-- The course goes on.
use Rattle.tau_replay.proofs.replay.redone.Given as goal

abbrev pub ghost-run_out : goal.ghost-run_out
ghost-run_out g a = g.course
