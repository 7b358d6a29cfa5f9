use Rattle.std.proofs.Common.{◌≡◌}
use Rattle.tau_gen.specs.Generated.{calls_of}
use Rattle.tau_gen.proofs.calls.calls_of.Given as goal

abbrev pub invariant-loop-i : goal.invariant-loop-i
invariant-loop-i l = l.calls ≡ calls_of l.start l.i
