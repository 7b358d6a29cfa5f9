use Rattle.std.proofs.Common.{◌≡◌, take}
use Rattle.tau_base.proofs.value.Call.set_to.Given as goal

abbrev pub invariant-loop-arg : goal.invariant-loop-arg
invariant-loop-arg l = (l.self.proc ≡ l.other.proc) × (l.self.args.items ≡ take l.arg-index l.other.args.items)
