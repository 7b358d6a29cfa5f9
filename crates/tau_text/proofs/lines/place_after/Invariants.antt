use Rattle.std.proofs.Common.{◌≤◌, ◌-◌, length}
use Rattle.tau_text.specs.Places.{HasNone}
use Rattle.tau_text.proofs.lines.place_after.Given as goal

abbrev pub invariant-loop-i : goal.invariant-loop-i
invariant-loop-i l = record { within : l.i ≤ length l.bytes; none : HasNone l.wanted l.i l.bytes }

abbrev pub decreases-loop-i : goal.decreases-loop-i
decreases-loop-i l = length l.bytes - l.i
