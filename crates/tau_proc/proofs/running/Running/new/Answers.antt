use Rattle.std.proofs.Common.{◌≡◌, replicate, refl}
use Rattle.tau_base.specs.declared.value.Value.TheVariants.{Absent}
use Rattle.tau_proc.proofs.Blank.{all_absent}
use Rattle.tau_proc.proofs.running.Running.new.Goals as goal

pub invariant_of-result : goal.invariant_of-result
invariant_of-result c = (c.default.ensures.long, rw c.new.ensures refl, all_absent c.default.result 16 c.default.ensures.long c.default.ensures.at)

pub returns : goal.returns
returns c =
    let blank : c.default.result ≡ replicate 16 Absent = all_absent c.default.result 16 c.default.ensures.long c.default.ensures.at in
    λ i. record { registers = blank i; writes = c.new.ensures i; reply = Absent; skips = 0 }
