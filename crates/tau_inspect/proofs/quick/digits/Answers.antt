-- One digit more.
use Rattle.std.proofs.Common.{ℕ, ◌≡◌, ◌<◌, ◌≤◌, ◌+◌, ◌*◌, ◌-◌, ◌^◌, ◌%◌, length, refl, arith}
use Rattle.tau_text.proofs.Numbers.{below_tens}
use Rattle.tau_inspect.proofs.OnePass.{digit_more, digit_of, few_more, no_digits}
use Rattle.tau_inspect.proofs.quick.digits.Goals as goal

pub loop-i-init : goal.loop-i-init
loop-i-init c = record { few = omega arith; read = no_digits c.args.text.now }

pub spelled-requires-clause-few : goal.spelled-requires-clause-few
spelled-requires-clause-few c = below_tens c.loop-i.value c.loop-i.i 18 c.loop-i.invariant.few (omega (arith, c.loop-i-test.true))

pub overflow_mul-value : goal.overflow_mul-value
overflow_mul-value c =
    let lt : c.loop-i.value < 10 ^ 17 = below_tens c.loop-i.value c.loop-i.i 17 c.loop-i.invariant.few (omega (arith, c.loop-i-test.true)) in
    omega (arith, lt)

pub overflow_add-value : goal.overflow_add-value
overflow_add-value c =
    let lt : c.loop-i.value < 10 ^ 17 = below_tens c.loop-i.value c.loop-i.i 17 c.loop-i.invariant.few (omega (arith, c.loop-i-test.true)) in
    omega (arith, lt, c.if-digit-gt9.false)

pub loop-i-preserved : goal.loop-i-preserved
loop-i-preserved c =
    let text = c.args.text.now in let i : ℕ = c.loop-i.i in let value : ℕ = c.loop-i.value in let b : ℕ = c.from-digit.result in
    let d : ℕ = (b + (2 ^ 64 - 48)) % 2 ^ 64 in
    let of : (48 ≤ b) × (b ≤ 57) × (d ≡ b - 48) = digit_of b d c.from-digit.type_inv refl (omega (arith, c.if-digit-gt9.false)) in
    let lt : i < length text = omega (arith, c.loop-i-test.true, c.if-text-lt18.false) in
    record {
      few = few_more value i d (omega (arith, c.if-digit-gt9.false)) c.loop-i.invariant.few;
      read = digit_more text i value (value * 10 + d) b lt c.from-digit.ensures of.0 of.1 (omega (arith, of.0, of.2)) c.loop-i.invariant.read;
    }
