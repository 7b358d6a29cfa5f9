use Rattle.std.proofs.Common.{take}
use Rattle.tau_disk.specs.Tear.{EndsAtSync}
use Rattle.tau_disk.proofs.image.last_sync.Given as goal

abbrev pub invariant-loop-k : goal.invariant-loop-k
invariant-loop-k l = EndsAtSync (take l.k l.calls) l.last
