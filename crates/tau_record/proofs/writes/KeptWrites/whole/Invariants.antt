use Rattle.std.proofs.Common.{◌≡◌, take}
use Rattle.tau_record.proofs.writes.KeptWrites.whole.Given as goal

abbrev pub invariant-loop-write : goal.invariant-loop-write
invariant-loop-write l = l.rows ≡ take l.write-index l.writes
