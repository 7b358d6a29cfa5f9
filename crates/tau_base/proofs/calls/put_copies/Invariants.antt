use Rattle.std.proofs.Common.{◌≡◌, take}
use Rattle.tau_base.proofs.calls.put_copies.Given as goal

abbrev pub invariant-loop-call : goal.invariant-loop-call
invariant-loop-call l = l.kept.items ≡ take l.call-index l.calls
