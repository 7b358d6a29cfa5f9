-- The byte is not among the first ones.
use Rattle.std.proofs.Common.{◌≡◌, ◌≤◌, ◌-◌, length, take, true}
use Rattle.tau_inspect.specs.Parts.{lacks}
use Rattle.tau_inspect.proofs.parts.cut_at.Given as goal

abbrev pub invariant-loop-i : goal.invariant-loop-i
invariant-loop-i l = record { within : l.i ≤ length l.text; none : lacks l.byte (take l.i l.text) ≡ true }

abbrev pub decreases-loop-i : goal.decreases-loop-i
decreases-loop-i l = length l.text - l.i
