-- The laws are lemmas.
use Rattle.tau_ckpt_laws.proofs.Held.{taken_is_true}
use Rattle.tau_ckpt_laws.proofs.Restored.{not_tangled, restored_is_recovered}
use Rattle.tau_ckpt_laws.proofs.laws.restored_is_recovered.Goals as goal

pub returns-clause-rows : goal.returns-clause-rows
returns-clause-rows c = restored_is_recovered

pub returns-clause-order : goal.returns-clause-order
returns-clause-order c = not_tangled

pub returns-clause-held : goal.returns-clause-held
returns-clause-held c = taken_is_true
