use Rattle.std.proofs.Common.{◌≡◌, length, replicate, take}
use Rattle.tau_base.specs.declared.limits.TheConstants.{REGISTERS}
use Rattle.tau_base.specs.declared.value.Value.TheVariants.{Absent}
use Rattle.tau_proc.proofs.running.make_absent.Given as goal

abbrev pub invariant-loop-at : goal.invariant-loop-at
invariant-loop-at l = (length l.registers ≡ REGISTERS) × (take l.at l.registers ≡ replicate l.at Absent)
