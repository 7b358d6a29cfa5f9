-- The law is a lemma.
use Rattle.tau_commands.proofs.Same.{runs_have_one_text}
use Rattle.tau_commands.proofs.laws.runs_have_one_text.Goals as goal

pub returns : goal.returns
returns c = runs_have_one_text
