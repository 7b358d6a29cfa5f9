use Rattle.tau_record.proofs.Appending.{appended_content}
use Rattle.tau_record.proofs.laws.appended_content.Goals as goal

pub returns : goal.returns
returns c = appended_content
