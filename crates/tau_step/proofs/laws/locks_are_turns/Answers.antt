use Rattle.tau_step.proofs.PeekTurns.{locks_law}
use Rattle.tau_step.proofs.laws.locks_are_turns.Goals as goal

pub returns : goal.returns
returns c = locks_law
