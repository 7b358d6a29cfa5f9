-- The first elements are the same.
use Rattle.std.proofs.Common.{◌≡◌, take}
use Rattle.tau_inspect.proofs.same.same_values.Given as goal

abbrev pub invariant-loop-i : goal.invariant-loop-i
invariant-loop-i l = take l.i l.values ≡ take l.i l.other
