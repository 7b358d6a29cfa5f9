use Rattle.tau_record.proofs.Appending.{empty_content}
use Rattle.tau_record.proofs.laws.empty_content.Goals as goal

pub returns : goal.returns
returns c = empty_content
