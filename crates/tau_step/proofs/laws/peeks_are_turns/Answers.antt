use Rattle.tau_step.proofs.PeekTurns.{peeks_law}
use Rattle.tau_step.proofs.laws.peeks_are_turns.Goals as goal

pub returns : goal.returns
returns c = peeks_law
