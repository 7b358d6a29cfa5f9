use Rattle.std.proofs.Common.{◌≡◌, take}
use Rattle.tau_engine.specs.Drill.{calls_of}
use Rattle.tau_engine.proofs.drill.calls_of.Given as goal

abbrev pub invariant-loop-disk : goal.invariant-loop-disk
invariant-loop-disk l = l.count ≡ calls_of (take l.disk-index l.disks)
