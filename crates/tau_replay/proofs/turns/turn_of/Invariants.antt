-- The course goes on.
use Rattle.tau_replay.proofs.turns.turn_of.Given as goal

abbrev pub ghost-turn : goal.ghost-turn
ghost-turn g a = g.course
