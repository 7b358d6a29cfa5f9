-- The first elements are the same.
use Rattle.std.proofs.Common.{◌≡◌, take, map}
use Rattle.tau_base.specs.declared.value.Value.TheVariants.{Int}
use Rattle.tau_inspect.proofs.same.same_numbers.Given as goal

abbrev pub invariant-loop-i : goal.invariant-loop-i
invariant-loop-i l = take l.i (map (λ r. (r.0, Int r.1)) l.rows) ≡ take l.i l.other
