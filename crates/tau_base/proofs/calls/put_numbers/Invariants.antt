use Rattle.std.proofs.Common.{◌≡◌, take, map}
use Rattle.tau_base.specs.declared.value.Value.TheVariants.{Int}
use Rattle.tau_base.proofs.calls.put_numbers.Given as goal

abbrev pub invariant-loop-number : goal.invariant-loop-number
invariant-loop-number l = l.args.items ≡ map Int (take l.number-index l.numbers)
