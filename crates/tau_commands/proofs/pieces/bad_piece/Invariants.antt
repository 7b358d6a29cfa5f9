use Rattle.std.proofs.Common.{length, ◌-◌}
use Rattle.tau_commands.proofs.Spelled.{Pieced}
use Rattle.tau_commands.proofs.pieces.bad_piece.Given as goal

abbrev pub invariant-loop-at : goal.invariant-loop-at
invariant-loop-at l = Pieced l.streams l.text l.at

abbrev pub decreases-loop-at : goal.decreases-loop-at
decreases-loop-at l = length l.text - l.at
