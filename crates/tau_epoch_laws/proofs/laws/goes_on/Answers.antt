-- The laws are lemmas.
use Rattle.tau_epoch_laws.proofs.Chain.{goes_on, steps_go_on, judged_for_good}
use Rattle.tau_epoch_laws.proofs.laws.goes_on.Goals as goal

pub returns-clause-two : goal.returns-clause-two
returns-clause-two c = goes_on

pub returns-clause-many : goal.returns-clause-many
returns-clause-many c = steps_go_on

pub returns-clause-judged : goal.returns-clause-judged
returns-clause-judged c = judged_for_good
