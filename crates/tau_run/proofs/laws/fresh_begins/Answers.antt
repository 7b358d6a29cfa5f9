use Rattle.tau_epoch_laws.proofs.Fresh.{fresh_sound}
use Rattle.tau_run.proofs.Fresh.{fresh_begins, fresh_olds, fresh_opened}
use Rattle.tau_run.proofs.laws.fresh_begins.Goals as goal

pub returns : goal.returns
returns c = λ f n load. (fresh_begins f n load, fresh_sound f n, λ j i. fresh_olds n i j, λ j i. fresh_opened n load i j)
