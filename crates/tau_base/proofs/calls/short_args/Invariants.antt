use Rattle.std.proofs.Common.{◌≡◌, take, map}
use Rattle.tau_base.specs.declared.value.Value.TheVariants.{Int}
use Rattle.tau_base.proofs.calls.short_args.Given as goal

abbrev pub invariant-loop-arg : goal.invariant-loop-arg
invariant-loop-arg l = map Int l.numbers.items ≡ take l.arg-index l.args
