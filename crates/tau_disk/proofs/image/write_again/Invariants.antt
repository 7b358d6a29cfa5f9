use Rattle.std.proofs.Common.{◌≡◌, take}
use Rattle.tau_disk.specs.Tear.{rewritten}
use Rattle.tau_disk.proofs.image.write_again.Given as goal

abbrev pub invariant-loop-call : goal.invariant-loop-call
invariant-loop-call l = l.image.items ≡ rewritten l.fn.image.items (take l.call-index l.calls)
