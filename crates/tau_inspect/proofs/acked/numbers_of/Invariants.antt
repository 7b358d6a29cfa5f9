-- The first numbers.
use Rattle.std.proofs.Common.{◌≡◌, take, map}
use Rattle.tau_inspect.proofs.acked.numbers_of.Given as goal

abbrev pub invariant-loop-i : goal.invariant-loop-i
invariant-loop-i l = l.numbers.items ≡ map (λ a. a.0) (take l.i l.acks)
