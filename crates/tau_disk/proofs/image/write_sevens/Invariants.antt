use Rattle.std.proofs.Common.{◌≡◌, take}
use Rattle.tau_disk.specs.Tear.{sevened}
use Rattle.tau_disk.proofs.image.write_sevens.Given as goal

abbrev pub invariant-loop-call : goal.invariant-loop-call
invariant-loop-call l = l.image.items ≡ sevened l.fn.image.items (take l.call-index l.calls)
