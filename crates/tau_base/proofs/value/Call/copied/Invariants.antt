use Rattle.std.proofs.Common.{◌≡◌, take}
use Rattle.tau_base.proofs.value.Call.copied.Given as goal

abbrev pub invariant-loop-arg : goal.invariant-loop-arg
invariant-loop-arg l = (l.copy.proc ≡ l.self.proc) × (l.copy.args.items ≡ take l.arg-index l.self.args.items)
