-- The laws are lemmas.
use Rattle.tau_epoch_laws.proofs.Taken.{old_taken}
use Rattle.tau_epoch_laws.proofs.Judged.{old_judged}
use Rattle.tau_epoch_laws.proofs.laws.old_taken.Goals as goal

pub returns-clause-parts : goal.returns-clause-parts
returns-clause-parts c = old_taken

pub returns-clause-each : goal.returns-clause-each
returns-clause-each c = old_judged
