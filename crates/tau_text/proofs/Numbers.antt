-- Digits, read one after the other.
use Rattle.std.proofs.Common.{◌≡◌, ℕ, zero, suc, ◌+◌, ◌-◌, ◌*◌, ◌^◌, subst, ◌<◌, ◌≤◌, Bool, true, false, cond, nat_le, List, [], ◌∷◌, length, drop, get_or, Option, Some, None, option_and_then, refl, arith, add-one, drop-cons}
use Rattle.std.proofs.lemmas.Grind.{common_steps}
use Rattle.tau_text.specs.Spelled.{is_digit, digits_after, at_most}

pub digits_step : (v i : ℕ) (w : List ℕ) → i < length w → is_digit (get_or w i 0) ≡ true → digits_after v (drop i w) ≡ digits_after (v * 10 + (get_or w i 0 - 48)) (drop (i + 1) w)
unfolding digits_after
digits_step v i w lt e = rw (drop-cons w i 0, e, add-one i) refl

pub digits_stop : (v i : ℕ) (w : List ℕ) → i < length w → is_digit (get_or w i 0) ≡ false → digits_after v (drop i w) ≡ None
unfolding digits_after
digits_stop v i w lt e = rw (drop-cons w i 0, e) refl

pub digits_end : (v i : ℕ) (w : List ℕ) → length w ≤ i → digits_after v (drop i w) ≡ Some v
unfolding digits_after
digits_end v zero [] le = refl
digits_end v (suc i) [] le = refl
digits_end v zero (b ∷ bs) le = absurd (omega arith)
digits_end v (suc i) (b ∷ bs) le = digits_end v i bs (omega arith)

above : (top n : ℕ) → top < n → nat_le n top ≡ false
above top n lt = grind (arith, common_steps)

grow_step : (t : Bool) (top : ℕ) (o : Option ℕ) → option_and_then (at_most top) o ≡ None → option_and_then (at_most top) (cond t o None) ≡ None
grow_step true top o h = h
grow_step false top o h = refl

pub digits_grow : (top n : ℕ) (bs : List ℕ) → top < n → option_and_then (at_most top) (digits_after n bs) ≡ None
unfolding digits_after
digits_grow top n [] lt = rw (above top n lt) refl
digits_grow top n (b ∷ bs) lt = grow_step (is_digit b) top (digits_after (n * 10 + (b - 48)) bs) (digits_grow top (n * 10 + (b - 48)) bs (omega arith))

tens_grow : (i j : ℕ) → 10 ^ i ≤ 10 ^ (j + i)
tens_grow i zero =
    let e : i ≡ zero + i = omega arith in
    let le : 10 ^ i ≤ 10 ^ i = omega arith in
    subst (λ n. 10 ^ i ≤ 10 ^ n) e le
tens_grow i (suc j) =
    let e : suc (j + i) ≡ suc j + i = omega arith in
    let h = tens_grow i j in
    let le : 10 ^ i ≤ 10 ^ suc (j + i) = omega arith in
    subst (λ n. 10 ^ i ≤ 10 ^ n) e le

-- what is below a power of ten is below every greater one
pub below_tens : (v i k : ℕ) → v < 10 ^ i → i ≤ k → v < 10 ^ k
below_tens v i k lt le =
    let e : (k - i) + i ≡ k = omega arith in
    let h = tens_grow i (k - i) in
    let r : v < 10 ^ ((k - i) + i) = omega arith in
    subst (λ n. v < 10 ^ n) e r
