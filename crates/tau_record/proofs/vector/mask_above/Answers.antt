use Rattle.std.proofs.Common.{◌≤◌, ◌≡◌, ℕ, ◌-◌, ◌<◌, ◌^◌, List, length, drop, arith}
use Rattle.std.specs.Prelude.{nat_lt, if◌then◌else◌}
use Rattle.tau_base.specs.declared.limits.TheConstants.{MAX_STREAMS}
use Rattle.tau_record.specs.Vector.{mask_of}
use Rattle.tau_record.specs.Format.{Two}
use Rattle.tau_record.proofs.VectorLaws.{mask_room}
use Rattle.tau_record.proofs.vector.mask_above.Goals as goal

room : (base dep : List ℕ) (mask j : ℕ) → length base ≤ MAX_STREAMS → mask ≡ mask_of (drop j base) (drop j dep) → mask < 2 ^ 32
room base dep mask j le is = omega (arith, is, mask_room Two base (drop j dep) j (omega (arith, le)))

bit_room : (b : ℕ) (low part : ℕ) → b ≡ (if nat_lt low part then 1 else 0) → b ≤ 1
bit_room b low part e = grind (arith, e)

pub overflow_mul-mask : goal.overflow_mul-mask
overflow_mul-mask c = omega (arith, room c.args.base.now c.args.dep.now c.loop-k.mask (length c.args.base.now - c.loop-k.k) (omega (arith, c.width-n.ensures.high)) c.loop-k.invariant)

pub overflow_add-mask : goal.overflow_add-mask
overflow_add-mask c = omega (arith, bit_room _ _ _ c.bit_above-bit.ensures, room c.args.base.now c.args.dep.now c.loop-k.mask (length c.args.base.now - c.loop-k.k) (omega (arith, c.width-n.ensures.high)) c.loop-k.invariant)

pub overflow_cast-result : goal.overflow_cast-result
overflow_cast-result c = omega (arith, room c.args.base.now c.args.dep.now c.loop-k.mask (length c.args.base.now - c.loop-k.k) (omega (arith, c.width-n.ensures.high)) c.loop-k.invariant)
