use Rattle.tau_run.proofs.Results.{contents_law}
use Rattle.tau_run.proofs.laws.contents_are_records.Goals as goal

pub returns : goal.returns
returns c = contents_law
