-- The law is a lemma.
use Rattle.tau_commands.proofs.Same.{one_text}
use Rattle.tau_commands.proofs.laws.one_text.Goals as goal

pub returns : goal.returns
returns c = one_text
