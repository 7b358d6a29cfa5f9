use Rattle.tau_engine.proofs.Committed.{peeked_committed}
use Rattle.tau_engine.proofs.laws.commits_what_it_peeked.Goals as goal

pub returns : goal.returns
returns c = peeked_committed
