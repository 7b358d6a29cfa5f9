-- Numbers: what `parse` reads of a word that is one.
use Rattle.std.proofs.Common.{◌≡◌, ℕ, ◌^◌, ◌<◌, ◌≤◌, true, false, cond, ltb, leb, eqb, [], ◌∷◌, length, drop, Some, None, refl, arith}
use Rattle.std.specs.Prelude.{◌&&◌, not}
use Rattle.std.specs.List.{list_all}
use Rattle.std.specs.Char.{digit_value}
use Rattle.std.specs.Str.Parse.{AllDigits, IsNumeral, digits_value, without_leading_plus}
use Rattle.std.proofs.lemmas.Bool.{and_parts, leb-true, lt-ltb, le-ltb, eqb-true}
use Rattle.tau_words.specs.Words.{Word, is_digit, is_number, bounded, number_in}

digit_small : (c : ℕ) → is_digit c ≡ true → digit_value c < 10
digit_small c h =
    let parts = and_parts (leb 48 c) (leb c 57) h in
    let low : ltb c 48 ≡ false = le-ltb c 48 (leb-true 48 c parts.0) in
    let high : c ≤ 57 = leb-true c 57 parts.1 in
    let below : ltb c 58 ≡ true = lt-ltb c 58 (omega (arith, high)) in
    rw (low, below) (omega (arith, high))

all_small : (word : Word) → list_all is_digit word ≡ true → AllDigits 10 word
all_small [] h = tt
all_small (c ∷ cs) h = let parts = and_parts (is_digit c) (list_all is_digit cs) h in (digit_small c parts.0, all_small cs parts.1)

digits_of : (word : Word) → is_number word ≡ true → (0 < length word) × (list_all is_digit word ≡ true)
digits_of [] h = absurd cc
digits_of (c ∷ []) h = (omega arith, rw h refl)
digits_of (c ∷ d ∷ cs) h = (omega arith, (and_parts (not (eqb c 48)) (list_all is_digit (c ∷ d ∷ cs)) h).1)

numeral : (word : Word) → is_number word ≡ true → IsNumeral 10 word
numeral word h = let d = digits_of word h in (d.0, all_small word d.1)

-- a number has no plus in front
no_plus : (word : Word) → is_number word ≡ true → without_leading_plus word ≡ word
no_plus [] h = absurd cc
no_plus (c ∷ cs) h =
    let d = digits_of (c ∷ cs) h in
    let first = (and_parts (is_digit c) (list_all is_digit cs) d.1).0 in
    let parts = and_parts (leb 48 c) (leb c 57) first in
    let low : 48 ≤ c = leb-true 48 c parts.0 in
    elim (eqb c 43) as (λ v. eqb c 43 ≡ v → drop (cond v 1 0) (c ∷ cs) ≡ c ∷ cs) [ true ↦ λ e. absurd (omega (arith, low, eqb-true c 43 e)) | false ↦ λ e. refl ] refl

-- what was read is within the bounds
pub number_read : (low high n : ℕ) (word : Word) → is_number word ≡ true → n ≡ digits_value 10 (without_leading_plus word) → number_in low high word ≡ bounded low high n
number_read low high n word h e = rw (h, e, no_plus word h) refl

-- what is too great for the type is above the bound
pub number_above : (low high : ℕ) (word : Word) → is_number word ≡ true → high < 2 ^ 32
    → (IsNumeral 10 (without_leading_plus word) × (digits_value 10 (without_leading_plus word) < 2 ^ 32) → ⊥) → number_in low high word ≡ None
number_above low high word h fits refused =
    let n = digits_value 10 word in
    let plus = no_plus word h in
    elim (leb n high) as (λ v. leb n high ≡ v → number_in low high word ≡ None) [
      | true ↦ λ e. absurd (refused (rw plus (numeral word h, omega (arith, fits, leb-true n high e))))
      | false ↦ λ e. rw (h, e) (elim (leb low n) as (λ v. cond (v && false) (Some n) None ≡ None) [ true ↦ refl | false ↦ refl ])
    ] refl
