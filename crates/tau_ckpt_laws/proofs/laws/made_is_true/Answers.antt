-- The laws are lemmas.
use Rattle.tau_ckpt_laws.proofs.Goes.{made_is_true, true_fits}
use Rattle.tau_ckpt_laws.proofs.laws.made_is_true.Goals as goal

pub returns-clause-made : goal.returns-clause-made
returns-clause-made c = made_is_true

pub returns-clause-fits : goal.returns-clause-fits
returns-clause-fits c = true_fits
