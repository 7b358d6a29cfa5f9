use Rattle.std.proofs.Common.{◌≡◌}
use Rattle.tau_crew.proofs.anchor.sweep.Given as goal

abbrev pub invariant-loop-number : goal.invariant-loop-number
invariant-loop-number g l = l.seat ≡ l.initial.seat
