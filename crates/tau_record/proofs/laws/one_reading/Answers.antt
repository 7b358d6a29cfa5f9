use Rattle.tau_record.proofs.ContentLaws.{content_once}
use Rattle.tau_record.proofs.laws.one_reading.Goals as goal

pub returns : goal.returns
returns c = content_once
