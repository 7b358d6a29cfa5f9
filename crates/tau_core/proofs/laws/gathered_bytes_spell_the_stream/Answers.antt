use Rattle.tau_core.proofs.Promises.{spelling_law}
use Rattle.tau_core.proofs.laws.gathered_bytes_spell_the_stream.Goals as goal

pub returns : goal.returns
returns c = spelling_law
