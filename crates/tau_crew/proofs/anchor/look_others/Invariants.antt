use Rattle.std.proofs.Common.{◌≡◌}
use Rattle.tau_crew.specs.Driving.{KeepsSeat}
use Rattle.tau_crew.proofs.anchor.look_others.Given as goal

abbrev pub invariant-loop-other : goal.invariant-loop-other
invariant-loop-other l = KeepsSeat l.initial.seat l.seat × (l.seat.stock ≡ l.initial.seat.stock)
