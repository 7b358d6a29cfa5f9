use Rattle.tau_crew.proofs.PeekedCalls.{peeked_law}
use Rattle.tau_crew.proofs.laws.commits_what_it_peeked.Goals as goal

pub returns : goal.returns
returns c = peeked_law
