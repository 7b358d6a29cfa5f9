use Rattle.tau_run.proofs.Optimistic.{peeked_law}
use Rattle.tau_run.proofs.schedule.commits_what_it_peeked.Goals as goal

pub returns : goal.returns
returns c = peeked_law
