-- The least known epoch above a number.
use Rattle.std.proofs.Common.{ℕ, zero, suc, ◌≤◌, ◌<◌, Bool, ◌≡◌, ◌⊎◌, inl, inr, List, [], ◌∷◌, length, refl, sym, ap, subst, ◌∙◌, arith, slice_index_or, nat_lt, nat_le, Option, Some, None, if◌then◌else◌}
use Rattle.std.proofs.lemmas.Bool.{cases_Bool, ltb-true, ltb-false, leb-true, leb-false}
use Rattle.std.specs.List.{Contains}
use Rattle.tau_epoch.specs.Epochs.{Mark, lower, least_above}
use Rattle.tau_epoch.specs.Laws.{IsLeast}

here : (m : Mark) (ms : List Mark) → Contains (m ∷ ms) m
here m ms = (0, omega arith, refl)

there : (m : Mark) (ms : List Mark) (x : Mark) → Contains ms x → Contains (m ∷ ms) x
there m ms x c = let lt = c.1 in (suc c.0, omega (arith, lt), c.2)

-- a member of a list is its head, or a member of the rest
member : (m : Mark) (ms : List Mark) (x : Mark) → Contains (m ∷ ms) x → (m ≡ x) ⊎ Contains ms x
member m ms x c = by c.0 c.1 c.2
  where
    by : (k : ℕ) → k < length (m ∷ ms) → slice_index_or (m ∷ ms) k x ≡ x → (m ≡ x) ⊎ Contains ms x
    by zero lt is = inl is
    by (suc k) lt is = inr (k, omega (arith, lt), is)

abbrev NoneAbove : ℕ → List Mark → Type 0
NoneAbove k known = (x : Mark) → Contains known x → x.number ≤ k

-- with a mark in front that is not above the others that are above k
in_front : (k n : ℕ) (m : Mark) (ms : List Mark) (x : Mark) → Contains (m ∷ ms) x → n ≤ m.number → (Contains ms x → n ≤ x.number) → n ≤ x.number
in_front k n m ms x h low rest = elim (member m ms x h) [
  | inl e ↦ subst (λ (y : Mark). n ≤ y.number) e low
  | inr c ↦ rest c
]

-- with a mark in front that is not above k
behind : (k n : ℕ) (m : Mark) (ms : List Mark) (x : Mark) → Contains (m ∷ ms) x → m.number ≤ k → k < x.number → (Contains ms x → n ≤ x.number) → n ≤ x.number
behind k n m ms x h low lt rest = elim (member m ms x h) [
  | inl e ↦ absurd (let same : m.number ≡ x.number = ap (λ (y : Mark). y.number) e in omega (arith, same, low, lt))
  | inr c ↦ rest c
]

pub found : (k : ℕ) (known : List Mark) → ((o : Mark) × (least_above k known ≡ Some o) × IsLeast k known o) ⊎ ((least_above k known ≡ None) × NoneAbove k known)
found k [] = inr (refl, λ x c. absurd (let lt = c.1 in omega (arith, lt)))
found k (m ∷ ms) = elim (cases_Bool (nat_lt k m.number)) [
  | inl t ↦
      let here_is : least_above k (m ∷ ms) ≡ Some (lower m (least_above k ms)) = ap (λ (b : Bool). if b then Some (lower m (least_above k ms)) else least_above k ms) t in
      let high : k < m.number = ltb-true k m.number t in
      elim (found k ms) [
        | inl w ↦
            let two : least_above k (m ∷ ms) ≡ Some (if nat_le m.number w.0.number then m else w.0) = here_is ∙ ap (λ (q : Option Mark). Some (lower m q)) w.1 in
            elim (cases_Bool (nat_le m.number w.0.number)) [
              | inl le ↦
                  let low : m.number ≤ w.0.number = leb-true m.number w.0.number le in
                  inl (m, two ∙ ap (λ (b : Bool). Some (if b then m else w.0)) le, record { there = here m ms; above = high; least = λ x h lt. in_front k m.number m ms x h (omega arith) (λ c. let l = w.2.least x c lt in omega (arith, l, low)) })
              | inr gt ↦
                  let low : w.0.number < m.number = leb-false m.number w.0.number gt in
                  inl (w.0, two ∙ ap (λ (b : Bool). Some (if b then m else w.0)) gt, record { there = there m ms w.0 w.2.there; above = w.2.above; least = λ x h lt. in_front k w.0.number m ms x h (omega (arith, low)) (λ c. w.2.least x c lt) })
            ]
        | inr none ↦ inl (m, here_is ∙ ap (λ (q : Option Mark). Some (lower m q)) none.0, record { there = here m ms; above = high; least = λ x h lt. in_front k m.number m ms x h (omega arith) (λ c. let l = none.1 x c in absurd (omega (arith, l, lt))) })
      ]
  | inr f ↦
      let here_is : least_above k (m ∷ ms) ≡ least_above k ms = ap (λ (b : Bool). if b then Some (lower m (least_above k ms)) else least_above k ms) f in
      let low : m.number ≤ k = ltb-false k m.number f in
      elim (found k ms) [
        | inl w ↦ inl (w.0, here_is ∙ w.1, record { there = there m ms w.0 w.2.there; above = w.2.above; least = λ x h lt. behind k w.0.number m ms x h low lt (λ c. w.2.least x c lt) })
        | inr none ↦ inr (
          here_is ∙ none.0,
          λ x h. elim (member m ms x h) [
            | inl e ↦ let same : m.number ≡ x.number = ap (λ (y : Mark). y.number) e in omega (arith, same, low)
            | inr c ↦ none.1 x c
          ],
        )
      ]
]

some_is : (a b : Mark) → Some a ≡ Some b → a ≡ b
some_is a b e = cc e

pub least_some : (k : ℕ) (known : List Mark) (m : Mark) → least_above k known ≡ Some m → IsLeast k known m
least_some k known m e = elim (found k known) [
  | inl w ↦ subst (IsLeast k known) (some_is w.0 m (sym w.1 ∙ e)) w.2
  | inr none ↦ absurd (let f : None ≡ Some m = sym none.0 ∙ e in cc f)
]

pub least_none : (k : ℕ) (known : List Mark) → least_above k known ≡ None → NoneAbove k known
least_none k known e = elim (found k known) [
  | inl w ↦ absurd (let f : None ≡ Some w.0 = sym e ∙ w.1 in cc f)
  | inr none ↦ none.1
]

pub none_least : (k : ℕ) (known : List Mark) → NoneAbove k known → least_above k known ≡ None
none_least k known all = elim (found k known) [
  | inl w ↦ absurd (let l = all w.0 w.2.there in let high = w.2.above in omega (arith, l, high))
  | inr none ↦ none.0
]
