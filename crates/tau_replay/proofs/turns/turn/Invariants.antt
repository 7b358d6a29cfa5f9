-- The course goes on.
use Rattle.tau_replay.proofs.turns.turn.Given as goal

abbrev pub ghost-start : goal.ghost-start
ghost-start g a = g.course

abbrev pub ghost-finish : goal.ghost-finish
ghost-finish g a = g.course
