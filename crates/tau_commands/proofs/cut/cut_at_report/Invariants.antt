use Rattle.std.proofs.Common.{◌-◌, length}
use Rattle.tau_commands.proofs.Cutting.{IsPassed}
use Rattle.tau_commands.proofs.cut.cut_at_report.Given as goal

abbrev pub invariant-loop-end : goal.invariant-loop-end
invariant-loop-end l = IsPassed l.text l.at

abbrev pub decreases-loop-end : goal.decreases-loop-end
decreases-loop-end l = length l.text - l.at
