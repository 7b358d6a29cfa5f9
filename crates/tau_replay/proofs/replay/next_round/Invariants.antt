-- The course goes on.
use Rattle.tau_replay.proofs.replay.next_round.Given as goal

abbrev pub ghost-round : goal.ghost-round
ghost-round g a = g.course

abbrev pub ghost-start : goal.ghost-start
ghost-start g a = g.course

abbrev pub ghost-tangled : goal.ghost-tangled
ghost-tangled g a = g.course
