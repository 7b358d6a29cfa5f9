-- A text has one first bad line: the lines before it begin the text of some run, and with it they begin none.
use Rattle.std.proofs.Common.{ℕ, ◌+◌, ◌<◌, ◌≤◌, ◌≡◌, ◌==◌, Bool, true, false, cond, List, [], ◌∷◌, ◌++◌, inl, inr, length, take, drop, refl, sym, ap, subst, ◌∙◌, append_assoc, arith}
use Rattle.std.specs.Prelude.{count_by}
use Rattle.std.proofs.Math.Seq.{take-append_seam}
use Rattle.std.proofs.lemmas.List.{append_cancel_left, take-append-drop, take-append-le}
use Rattle.std.proofs.lemmas.List.Sums.{count_by-le-length, sum_by-append, sum_by-cons}
use Rattle.std.proofs.lemmas.Bool.Decides.{nat_tests}
use Rattle.tau_base.proofs.Logic.{below_or_not}
use Rattle.tau_inspect.specs.Parts.{lacks}
use Rattle.tau_inspect.specs.RunText.{IsFirstBad, IsTextOf, OneFirstBad}

abbrev lines_in : List ℕ → ℕ
lines_in text = count_by (λ b. b == 10) text

abbrev as_one : Bool → ℕ
as_one t = cond t 1 0

lines_both : (a b : List ℕ) → lines_in (a ++ b) ≡ lines_in a + lines_in b
lines_both a b = sum_by-append (λ b. as_one (b == 10)) a b

-- the first line of a text
record Line (text : List ℕ) : Type 0 where
  line : List ℕ
  rest : List ℕ
  is : text ≡ line ++ 10 ∷ rest
  one : lacks 10 line ≡ true

grown : (b : ℕ) (text : List ℕ) → (b == 10) ≡ false → Line text → Line (b ∷ text)
grown b text e w = record { line = b ∷ w.line; rest = w.rest; is = ap (λ (l : List ℕ). b ∷ l) w.is; one = rw (e, w.one) refl }

by_byte : (b : ℕ) (text : List ℕ) (t : Bool) → (b == 10) ≡ t → (1 ≤ lines_in text → Line text) → 1 ≤ lines_in (b ∷ text) → Line (b ∷ text)
by_byte b text true e more some = (let same : b ≡ 10 = grind (arith, nat_tests) in record { line = []; rest = text; is = ap (λ (c : ℕ). c ∷ text) same; one = refl })
by_byte b text false e more some =
    let count : lines_in (b ∷ text) ≡ as_one (b == 10) + lines_in text = sum_by-cons (λ (b : ℕ). as_one (b == 10)) b text in
    let none : as_one (b == 10) ≡ 0 = ap as_one e in
    grown b text e (more (omega (arith, some, count, none)))

-- a text with a byte 10 has one
has_line : (text : List ℕ) → 1 ≤ lines_in text → Line text
has_line [] some = absurd (omega (arith, some, count_by-le-length (λ b. b == 10) []))
has_line (b ∷ text) some = by_byte b text (b == 10) refl (λ s. has_line text s) some

-- the shorter of two fronts of one text begins the longer one
front_begins : (front back other rest : List ℕ) → front ++ back ≡ other ++ rest → length front ≤ length other → other ≡ front ++ drop (length front) other
front_begins front back other rest same le =
    let first : take (length front) other ≡ front = sym (take-append-le (length front) other rest le) ∙ ap (take (length front)) (sym same) ∙ take-append_seam front back in
    sym (take-append-drop (length front) other) ∙ ap (λ (l : List ℕ). l ++ drop (length front) other) first

module _ (tables : List (List ℕ)) (n calls : ℕ) (bytes : List ℕ) (a b : ℕ) (x : IsFirstBad tables n calls bytes a) (y : IsFirstBad tables n calls bytes b) where
  same : x.front ++ x.back ≡ y.front ++ y.back
  same = sym x.there ∙ y.there

  -- the lines before the later one would have the earlier one among them
  module _ (between : List ℕ) (is : y.front ≡ x.front ++ between) (l : Line between) where
    follows : x.back ≡ l.line ++ 10 ∷ (l.rest ++ y.back)
    follows =
        append_cancel_left x.front x.back (between ++ y.back) (same ∙ ap (λ (f : List ℕ). f ++ y.back) is ∙ append_assoc x.front between y.back)
        ∙ ap (λ (m : List ℕ). m ++ y.back) l.is ∙ append_assoc l.line (10 ∷ l.rest) y.back

    goes_on : y.front ++ y.begins.rest ≡ (x.front ++ l.line ++ 10 ∷ []) ++ (l.rest ++ y.begins.rest)
    goes_on =
        let r = y.begins.rest in
        ap (λ (f : List ℕ). f ++ r) (is ∙ ap (λ (m : List ℕ). x.front ++ m) l.is)
        ∙ append_assoc x.front (l.line ++ 10 ∷ l.rest) r ∙ ap (λ (m : List ℕ). x.front ++ m) (append_assoc l.line (10 ∷ l.rest) r)
        ∙ sym (append_assoc (x.front ++ l.line) (10 ∷ []) (l.rest ++ r) ∙ append_assoc x.front l.line (10 ∷ (l.rest ++ r)))

    not_bad : ⊥
    not_bad =
        x.bad l.line (l.rest ++ y.back) follows l.one
        (record { report = y.begins.report; failed = y.begins.failed; rest = l.rest ++ y.begins.rest; text = subst (IsTextOf tables n calls y.begins.report y.begins.failed) goes_on y.begins.text })

  pub not_before : a < b → ⊥
  not_before lt = elim (below_or_not (length y.front) (length x.front)) [
    | inl shorter ↦
        let is = front_begins y.front y.back x.front x.back (sym same) (omega (arith, shorter)) in
        let count : lines_in x.front ≡ lines_in y.front + lines_in (drop (length y.front) x.front) = ap lines_in is ∙ lines_both y.front (drop (length y.front) x.front) in
        omega (arith, lt, x.counted, y.counted, count)
    | inr le ↦
        let between = drop (length x.front) y.front in
        let is = front_begins x.front x.back y.front y.back same le in
        let count : lines_in y.front ≡ lines_in x.front + lines_in between = ap lines_in is ∙ lines_both x.front between in
        not_bad between is (has_line between (omega (arith, lt, x.counted, y.counted, count)))
  ]

pub one_first_bad : OneFirstBad
one_first_bad tables n calls bytes a b x y = elim (below_or_not a b) [
  | inl lt ↦ absurd (not_before tables n calls bytes a b x y lt)
  | inr le ↦ elim (below_or_not b a) [
    | inl lt ↦ absurd (not_before tables n calls bytes b a y x lt)
    | inr ge ↦ omega (arith, le, ge)
  ]
]
