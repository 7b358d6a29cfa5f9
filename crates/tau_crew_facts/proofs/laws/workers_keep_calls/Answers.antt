use Rattle.tau_run.proofs.Keeping.{own_keeps}
use Rattle.tau_crew_facts.proofs.laws.workers_keep_calls.Goals as goal

pub returns : goal.returns
returns c = λ w set. own_keeps w set
