use Rattle.std.proofs.Common.{◌≡◌, take}
use Rattle.tau_base.proofs.calls.copied_numbers.Given as goal

abbrev pub invariant-loop-number : goal.invariant-loop-number
invariant-loop-number l = l.copy.items ≡ take l.number-index l.numbers
