use Rattle.tau_text.proofs.Names.{same_from}
use Rattle.tau_text.proofs.spelled.is_same.Goals as goal

pub returns : goal.returns
returns c = same_from c.args.name.now c.args.word.now c.same_bytes.result c.same_bytes.ensures
