-- What is spelled is read again.
use Rattle.std.proofs.Common.{ℕ, zero, suc, ◌+◌, ◌-◌, ◌*◌, ◌/◌, ◌%◌, ◌^◌, ◌<◌, ◌≤◌, ◌≡◌, ◌==◌, ◌&&◌, Bool, true, false, cond, ◌⊎◌, inl, inr, List, [], ◌∷◌, ◌++◌, length, get_or, refl, sym, ap, subst, ◌∙◌, arith, Option, pos, negsuc, ℤ, neg_ℤ}
use Rattle.std.specs.Prelude.{Some, None, nat_le, nat_lt, int_le, int_lt, Result, Ok, Err, option_and_then, option_map, if◌then◌else◌}
use Rattle.std.specs.Fmt.{decimal, signed_decimal}
use Rattle.std.proofs.lemmas.Bool.{both_ways, and_parts}
use Rattle.std.proofs.lemmas.Bool.Decides.{nat_tests}
use Rattle.std.proofs.lemmas.Fmt.{decimal_digit, decimal_step, first_decimal}
use Rattle.tau_base.proofs.Logic.{below_or_not, below_of_true}
use Rattle.tau_proc.specs.Meaning.{is_i64}
use Rattle.tau_text.specs.declared.fault.TextCause.{TextCause}
use Rattle.tau_text.specs.declared.fault.TextCause.TheVariants.{BadNumber}
use Rattle.tau_text_laws.proofs.Unique.{whole_spells}
use Rattle.std.proofs.lemmas.Int.{to_z-of_z}
use Rattle.std.proofs.Common.{w64, to_z, of_z, SFits, nat_abs}
use Rattle.tau_text.specs.Given.{or_else}
use Rattle.tau_text.specs.Spelled.{is_digit, digits_after, at_most, magnitude, number, whole}

pub small_pos : (n : ℕ) → is_i64 (pos n) ≡ true → n < 2 ^ 63
small_pos n fits = (let e : nat_lt n (2 ^ 63) ≡ true = (and_parts (int_le (negsuc (2 ^ 63 - 1)) (pos n)) (int_lt (pos n) (pos (2 ^ 63))) fits).1 in below_of_true n (2 ^ 63) e)

pub small_neg : (n : ℕ) → is_i64 (negsuc n) ≡ true → n < 2 ^ 63
small_neg n fits = (let e : nat_le n (2 ^ 63 - 1) ≡ true = (and_parts (int_le (negsuc (2 ^ 63 - 1)) (negsuc n)) (int_lt (negsuc n) (pos (2 ^ 63))) fits).0 in let le : n ≤ 2 ^ 63 - 1 = grind (arith, nat_tests) in omega (arith, le))

pub digits_push : (ds : List ℕ) (v m b : ℕ) → digits_after v ds ≡ Some m → is_digit b ≡ true → digits_after v (ds ++ b ∷ []) ≡ Some (m * 10 + (b - 48))
unfolding digits_after
digits_push [] v m b e d = (let same : v ≡ m = cc in rw (d, same) refl)
digits_push (c ∷ ds) v m b e d = by_test (λ q. digits_push ds (v * 10 + (c - 48)) m b q d) (is_digit c) refl
  where
    by_test : (digits_after (v * 10 + (c - 48)) ds ≡ Some m → digits_after (v * 10 + (c - 48)) (ds ++ b ∷ []) ≡ Some (m * 10 + (b - 48))) → (t : Bool) → is_digit c ≡ t → (if is_digit c then digits_after (v * 10 + (c - 48)) (ds ++ b ∷ []) else None) ≡ Some (m * 10 + (b - 48))
    by_test more true t = rw t (more (rw t at e))
    by_test more false t = (let bad : ◌≡◌ {A = Option ℕ} None (Some m) = rw t at e in absurd cc)

digit_is : (k : ℕ) → k < 10 → is_digit (48 + k) ≡ true
digit_is k lt = grind (arith, nat_tests)

digits_one : (k : ℕ) → k < 10 → digits_after 0 ((48 + k) ∷ []) ≡ Some k
unfolding digits_after
digits_one k lt = (let d = digit_is k lt in let e : 0 * 10 + (48 + k - 48) ≡ k = omega arith in rw (d, e) refl)

digits_more : (n m : ℕ) → 10 ≤ n → n < 2 ^ 64 → n / 10 ≡ m → digits_after 0 (decimal m) ≡ Some m → digits_after 0 (decimal n) ≡ Some n
digits_more n m more small is read =
    let rest : n % 10 < 10 = omega arith in
    let whole : m * 10 + (48 + n % 10 - 48) ≡ n = omega (arith, is) in
    ap (digits_after 0) (decimal_step n more small ∙ ap (λ (k : ℕ). decimal k ++ (48 + n % 10) ∷ []) is) ∙ digits_push (decimal m) 0 m (48 + n % 10) read (digit_is (n % 10) rest) ∙ ap (λ (k : ℕ). Some k) whole

digits_fuel : (fuel n : ℕ) → n < fuel → n < 2 ^ 64 → digits_after 0 (decimal n) ≡ Some n
digits_fuel zero n lt small = absurd (omega (arith, lt))
digits_fuel (suc fuel) n lt small = by_size (digits_fuel fuel (n / 10)) (below_or_not n 10)
  where
    by_size : (n / 10 < fuel → n / 10 < 2 ^ 64 → digits_after 0 (decimal (n / 10)) ≡ Some (n / 10)) → (n < 10) ⊎ (10 ≤ n) → digits_after 0 (decimal n) ≡ Some n
    by_size less (inl one) = ap (digits_after 0) (decimal_digit n one) ∙ digits_one n one
    by_size less (inr more) = digits_more n (n / 10) more small refl (less (omega (arith, lt, more)) (omega (arith, small)))

pub digits_read : (n : ℕ) → n < 2 ^ 64 → digits_after 0 (decimal n) ≡ Some n
digits_read n small = digits_fuel (suc n) n (omega arith) small

-- ---- numbers

magnitude_read : (top n : ℕ) (w : List ℕ) → 0 < n → n ≤ top → 48 < get_or w 0 0 → digits_after 0 w ≡ Some n → magnitude top w ≡ Some n
unfolding magnitude
magnitude_read top n [] z le first read = absurd (omega (arith, first))
magnitude_read top n (b ∷ bs) z le first read =
    let apart : (b == 48) ≡ false = grind (arith, nat_tests) in
    let small : nat_le n top ≡ true = grind (arith, nat_tests) in
    rw (apart, read, small) refl

number_pos : (n : ℕ) (w : List ℕ) → 0 < n → n < 2 ^ 63 → 48 < get_or w 0 0 → digits_after 0 w ≡ Some n → number w ≡ Some (pos n)
unfolding number
number_pos n [] z lt first read = absurd (omega (arith, first))
number_pos n (b ∷ bs) z lt first read =
    let minus : (b == 45) ≡ false = grind (arith, nat_tests) in
    let nil : (b == 48) ≡ false = grind (arith, nat_tests) in
    let m : magnitude (2 ^ 63 - 1) (b ∷ bs) ≡ Some n = magnitude_read (2 ^ 63 - 1) n (b ∷ bs) z (omega (arith, lt)) first read in
    rw (minus, nil, m) refl

number_zero : number (48 ∷ []) ≡ Some (pos 0)
unfolding number
number_zero = refl

pub number_plain : (n : ℕ) → n < 2 ^ 63 → number (decimal n) ≡ Some (pos n)
number_plain zero lt = ap number (decimal_digit 0 (omega arith)) ∙ number_zero
number_plain (suc n) lt = number_pos (suc n) (decimal (suc n)) (omega arith) lt (first_decimal (suc n) (omega arith) (omega (arith, lt))) (digits_read (suc n) (omega (arith, lt)))

number_minus : (n : ℕ) (w : List ℕ) → magnitude (2 ^ 63) w ≡ Some (suc n) → number (45 ∷ w) ≡ Some (negsuc n)
unfolding number
number_minus n w m = rw m refl

pub number_read : (z : ℤ) → is_i64 z ≡ true → number (signed_decimal z) ≡ Some z
number_read (pos n) fits = number_plain n (small_pos n fits)
number_read (negsuc n) fits =
    let lt = small_neg n fits in
    number_minus n (decimal (suc n)) (magnitude_read (2 ^ 63) (suc n) (decimal (suc n)) (omega arith) (omega (arith, lt)) (first_decimal (suc n) (omega arith) (omega (arith, lt))) (digits_read (suc n) (omega (arith, lt))))

-- ---- whole numbers as a word has them

mag_le : (top n : ℕ) (w : List ℕ) → magnitude top w ≡ Some n → n ≤ top
unfolding magnitude
mag_le top n [] e = absurd cc
mag_le top n (b ∷ bs) e = by_first (b == 48) refl (rest (digits_after 0 (b ∷ bs)))
  where
    kept : (t : Bool) (m : ℕ) → nat_le m top ≡ t → (if t then Some m else None) ≡ Some n → n ≤ top
    kept true m le q = (let same : m ≡ n = cc in let small : m ≤ top = grind (arith, nat_tests) in omega (arith, same, small))
    kept false m le q = absurd cc

    rest : (o : Option ℕ) → option_and_then (at_most top) o ≡ Some n → n ≤ top
    rest None q = absurd cc
    rest (Some m) q = kept (nat_le m top) m refl q

    by_first : (t : Bool) → (b == 48) ≡ t → (option_and_then (at_most top) (digits_after 0 (b ∷ bs)) ≡ Some n → n ≤ top) → n ≤ top
    by_first true t more = (let bad : ◌≡◌ {A = Option ℕ} None (Some n) = rw t at e in absurd cc)
    by_first false t more = more (rw t at e)

neg_fits : (m : ℕ) → m ≤ 2 ^ 63 → is_i64 (neg_ℤ (pos m)) ≡ true
neg_fits zero le = refl
neg_fits (suc m) le = (let test : nat_le m (2 ^ 63 - 1) ≡ true = grind (arith, nat_tests) in rw test refl)

pub pos_fits : (m : ℕ) → m ≤ 2 ^ 63 - 1 → is_i64 (pos m) ≡ true
pos_fits m le = (let test : nat_lt m (2 ^ 63) ≡ true = grind (arith, nat_tests) in test)

some_of : {A B : Type 0} (f : A → B) (o : Option A) (y : B) → option_map f o ≡ Some y → (x : A) × (o ≡ Some x) × (f x ≡ y)
some_of f (Some x) y e = (x, refl, cc)
some_of f None y e = absurd cc

number_fits : (w : List ℕ) (z : ℤ) → number w ≡ Some z → is_i64 z ≡ true
unfolding number
number_fits [] z e = absurd cc
number_fits (b ∷ bs) z e = by_minus (b == 45) refl
  where
    plain : (t : Bool) → (b == 48 && length bs == 0) ≡ t → cond t (Some (pos 0)) (option_map (λ n. pos n) (magnitude (2 ^ 63 - 1) (b ∷ bs))) ≡ Some z → is_i64 z ≡ true
    plain true t q = (let same : pos 0 ≡ z = cc in subst (λ (y : ℤ). is_i64 y ≡ true) same refl)
    plain false t q =
        let m = some_of (λ n. pos n) (magnitude (2 ^ 63 - 1) (b ∷ bs)) z q in
        subst (λ (y : ℤ). is_i64 y ≡ true) m.2 (pos_fits m.0 (mag_le (2 ^ 63 - 1) m.0 (b ∷ bs) m.1))

    by_minus : (t : Bool) → (b == 45) ≡ t → is_i64 z ≡ true
    by_minus true t =
        let m = some_of (λ n. neg_ℤ (pos n)) (magnitude (2 ^ 63) bs) z (rw t at e) in
        subst (λ (y : ℤ). is_i64 y ≡ true) m.2 (neg_fits m.0 (mag_le (2 ^ 63) m.0 bs m.1))
    by_minus false t = plain (b == 48 && length bs == 0) refl (rw t at e)

ok_some : (o : Option ℤ) (z : ℤ) → or_else BadNumber o ≡ Ok z → o ≡ Some z
ok_some (Some y) z e = cc
ok_some None z e = absurd cc

pub whole_fits : (w : List ℕ) (z : ℤ) → whole w ≡ Ok z → is_i64 z ≡ true
unfolding whole
whole_fits w z e = number_fits w z (ok_some (number w) z e)

pub whole_read : (z : ℤ) → is_i64 z ≡ true → whole (signed_decimal z) ≡ Ok z
unfolding whole
whole_read z fits = rw (number_read z fits) refl

pub i64_fits : (z : ℤ) → is_i64 z ≡ true → SFits w64 z
i64_fits (pos n) fits = (let lt = small_pos n fits in omega (arith, lt))
i64_fits (negsuc n) fits = (let lt = small_neg n fits in omega (arith, lt))

-- what code makes of a whole number that was read
pub whole_told : (w : List ℕ) (z : ℤ) → whole w ≡ Ok z → (is_i64 (to_z w64 (of_z w64 z)) ≡ true) × (signed_decimal (to_z w64 (of_z w64 z)) ≡ w)
whole_told w z e =
    let fits = whole_fits w z e in
    let same : to_z w64 (of_z w64 z) ≡ z = to_z-of_z w64 z (i64_fits z fits) in
    (subst (λ (y : ℤ). is_i64 y ≡ true) (sym same) fits, ap signed_decimal same ∙ (whole_spells w z e).same)

pub whole_none : (w : List ℕ) (f : TextCause) → whole w ≡ Err f → (z : ℤ) → is_i64 z ≡ true → signed_decimal z ≡ w → ⊥
whole_none w f e z fits is = (let bad : ◌≡◌ {A = Result ℤ TextCause} (Ok z) (Err f) = sym (whole_read z fits) ∙ ap whole is ∙ e in cc)

pub plain_none : (w : List ℕ) (f : TextCause) → whole w ≡ Err f → (n : ℕ) → n < 2 ^ 63 → decimal n ≡ w → ⊥
plain_none w f e n lt is = whole_none w f e (pos n) (pos_fits n (omega (arith, lt))) is

pub plain_told : (w : List ℕ) (z : ℤ) → whole w ≡ Ok z → int_lt (to_z w64 (of_z w64 z)) (pos 0) ≡ false → (nat_abs (to_z w64 (of_z w64 z)) < 2 ^ 63) × (decimal (nat_abs (to_z w64 (of_z w64 z))) ≡ w)
plain_told w z e up = let told = whole_told w z e in by_sign (to_z w64 (of_z w64 z)) told.0 up told.1
  where
    by_sign : (y : ℤ) → is_i64 y ≡ true → int_lt y (pos 0) ≡ false → signed_decimal y ≡ w → (nat_abs y < 2 ^ 63) × (decimal (nat_abs y) ≡ w)
    by_sign (pos n) f l s = (small_pos n f, s)
    by_sign (negsuc n) f l s = absurd (both_ways true l refl)

pub plain_minus : (w : List ℕ) (z : ℤ) → whole w ≡ Ok z → int_lt (to_z w64 (of_z w64 z)) (pos 0) ≡ true → (n : ℕ) → n < 2 ^ 63 → decimal n ≡ w → ⊥
plain_minus w z e less n lt is =
    let both : ◌≡◌ {A = Result ℤ TextCause} (Ok (pos n)) (Ok z) = sym (whole_read (pos n) (pos_fits n (omega (arith, lt)))) ∙ ap whole is ∙ e in
    let same : pos n ≡ z = cc in
    let back : to_z w64 (of_z w64 z) ≡ z = to_z-of_z w64 z (i64_fits z (whole_fits w z e)) in
    let bad : nat_lt n 0 ≡ true = subst (λ (y : ℤ). int_lt y (pos 0) ≡ true) (back ∙ sym same) less in
    let below : n < 0 = below_of_true n 0 bad in
    omega (arith, below)
