-- Those of the first records.
use Rattle.std.proofs.Common.{◌≡◌, take, map}
use Rattle.tau_inspect.proofs.stages.all_numbers.Given as goal

abbrev pub invariant-loop-i : goal.invariant-loop-i
invariant-loop-i l = l.numbers.items ≡ map (λ r. r.number) (take l.i l.all)
