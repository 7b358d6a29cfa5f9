use Rattle.std.proofs.Common.{◌≡◌, take}
use Rattle.tau_record.proofs.dep.short_of.Given as goal

abbrev pub invariant-loop-position : goal.invariant-loop-position
invariant-loop-position l = l.short.items ≡ take l.position-index l.positions
