-- The laws are lemmas.
use Rattle.tau_follow_laws.proofs.Lasting.{only_taken, never_late}
use Rattle.tau_follow_laws.proofs.laws.only_taken.Goals as goal

pub returns-clause-taken : goal.returns-clause-taken
returns-clause-taken c = only_taken

pub returns-clause-late : goal.returns-clause-late
returns-clause-late c = never_late
