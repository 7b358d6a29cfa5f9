-- The course goes on.
use Rattle.tau_replay.proofs.behind.redo_course.Given as goal

abbrev pub ghost-end : goal.ghost-end
ghost-end g a = g.course
