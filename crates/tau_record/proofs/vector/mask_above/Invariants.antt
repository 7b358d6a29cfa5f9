use Rattle.std.proofs.Common.{◌≡◌, ◌-◌, length, drop}
use Rattle.tau_record.specs.Vector.{mask_of}
use Rattle.tau_record.proofs.vector.mask_above.Given as goal

abbrev pub invariant-loop-k : goal.invariant-loop-k
invariant-loop-k l = l.mask ≡ mask_of (drop (length l.base - l.k) l.base) (drop (length l.base - l.k) l.dep)
