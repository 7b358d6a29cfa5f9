-- The records after the places, on the rows.
use Rattle.tau_model.specs.Tables.{db_of_rows}
use Rattle.tau_replay.specs.Course.{after}
use Rattle.tau_replay.proofs.behind.redo_behind.Given as goal

abbrev pub ghost-redo_course : goal.ghost-redo_course
ghost-redo_course a = after a.log.now a.from.now (db_of_rows a.rows.now)
