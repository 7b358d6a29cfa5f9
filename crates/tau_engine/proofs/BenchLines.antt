-- Each acknowledgement has one line.
use Rattle.std.proofs.Common.{ℕ, zero, suc, ◌+◌, ◌/◌, ◌%◌, ◌≡◌, inl, inr, false, List, [], ◌∷◌, ◌++◌, map, length, refl, ap, ◌∙◌, arith}
use Rattle.std.specs.Prelude.{◌==◌, nat_lt, codes}
use Rattle.std.specs.List.{filter, join_with_byte, AllByRecursion}
use Rattle.std.specs.Fmt.{decimal, digits, digits_onto, digit_glyph}
use Rattle.std.proofs.lemmas.Bool.{cases_Bool, ne_eqb}
use Rattle.tau_run.proofs.Lists.{filter_append}
use Rattle.tau_report.specs.Lines.{line, vector_text, ack_line}
use Rattle.tau_report.specs.Report.{ack_lines}
use Rattle.tau_engine.specs.Bench.{lines_in}

length_parts : {A : Type 0} (xs ys : List A) → length (xs ++ ys) ≡ length xs + length ys
length_parts [] ys = omega arith
length_parts (x ∷ xs) ys = let e = length_parts xs ys in omega (arith, e)

in_parts : (xs ys : List ℕ) → lines_in (xs ++ ys) ≡ lines_in xs + lines_in ys
in_parts xs ys = ap (length {A = ℕ}) (filter_append (λ (b : ℕ). b == 10) xs ys) ∙ length_parts (filter (λ (b : ℕ). b == 10) xs) (filter (λ (b : ℕ). b == 10) ys)

passed : (b : ℕ) (xs : List ℕ) → (b ≡ 10 → ⊥) → lines_in (b ∷ xs) ≡ lines_in xs
passed b xs ne = rw (ne_eqb b 10 ne) refl

glyph_apart : (d : ℕ) → digit_glyph false d ≡ 10 → ⊥
glyph_apart d e = elim (cases_Bool (nat_lt d 10)) [
  | inl is ↦ (let f = rw is at e in omega (arith, f))
  | inr no' ↦ (let f = rw no' at e in omega (arith, f))
]

in_digits : (k n : ℕ) (acc : List ℕ) → lines_in (digits_onto k 10 false n acc) ≡ lines_in acc
in_digits zero n acc = refl
in_digits (suc k) n acc = elim (cases_Bool (n / 10 == 0)) [
  | inl is ↦ rw is (passed (digit_glyph false (n % 10)) acc (glyph_apart (n % 10)))
  | inr no' ↦ rw no' (in_digits k (n / 10) (digit_glyph false (n % 10) ∷ acc) ∙ passed (digit_glyph false (n % 10)) acc (glyph_apart (n % 10)))
]

in_decimal : (n : ℕ) → lines_in (decimal n) ≡ 0
unfolding digits
in_decimal n = in_digits 64 n []

in_words : (c : ℕ) (words : List (List ℕ)) → (c ≡ 10 → ⊥) → AllByRecursion (λ (w : List ℕ). lines_in w ≡ 0) words → lines_in (join_with_byte c words) ≡ 0
in_words c [] ne all = refl
in_words c (w ∷ []) ne all = all.0
in_words c (w ∷ v ∷ words) ne all =
    let first = all.0 in
    let rest = in_words c (v ∷ words) ne all.1 in
    let whole = in_parts w (c ∷ join_with_byte c (v ∷ words)) in
    let later = passed c (join_with_byte c (v ∷ words)) ne in
    omega (arith, first, rest, whole, later)

in_numbers : (ns : List ℕ) → AllByRecursion (λ (w : List ℕ). lines_in w ≡ 0) (map decimal ns)
in_numbers [] = tt
in_numbers (n ∷ ns) = (in_decimal n, in_numbers ns)

in_vector : (v : List ℕ) → lines_in (vector_text v) ≡ 0
in_vector v = in_words 44 (map decimal v) (λ e. cc) (in_numbers v)

in_line : (words : List (List ℕ)) → AllByRecursion (λ (w : List ℕ). lines_in w ≡ 0) words → lines_in (line words) ≡ 1
in_line words all =
    let whole = in_parts (join_with_byte 32 words) (10 ∷ []) in
    let none = in_words 32 words (λ e. cc) all in
    let one : lines_in (10 ∷ []) ≡ 1 = refl in
    omega (arith, whole, none, one)

pub in_acks : (acks : List (ℕ × List ℕ)) → lines_in (ack_lines acks) ≡ length acks
in_acks [] = refl
in_acks (a ∷ acks) =
    let whole = in_parts (ack_line a) (ack_lines acks) in
    let first : lines_in (ack_line a) ≡ 1 = in_line (codes "ack" ∷ decimal a.0 ∷ vector_text a.1 ∷ []) (refl, (in_decimal a.0, (in_vector a.1, tt))) in
    let rest = in_acks acks in
    omega (arith, whole, first, rest)
