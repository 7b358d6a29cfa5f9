-- Whether one of some records starts at a place.
use Rattle.std.proofs.Common.{ℕ, Bool, true, false, not, ◌&&◌, ◌||◌, ◌≡◌, inl, inr, List, [], ◌∷◌, ◌++◌, refl, sym, ap, subst, ◌∙◌}
use Rattle.std.specs.Prelude.{◌==◌}
use Rattle.std.proofs.lemmas.Bool.{cases_Bool, and_from, and_parts, eqb-true, eq-eqb}
use Rattle.tau_model.specs.History.{Member}
use Rattle.tau_scan.specs.Taken.{Kept}
use Rattle.tau_follow_laws.specs.Following.{starts_among, is_among, is_open}
use Rattle.tau_follow_laws.specs.Laws.{AreApart}

-- a record starts there
abbrev pub starts_at : ℕ → ℕ → Kept → Bool
starts_at j at r = (r.place.stream == j) && (r.place.start == at)

pub starts_is : (j at : ℕ) (r : Kept) → starts_at j at r ≡ true → (r.place.stream ≡ j) × (r.place.start ≡ at)
starts_is j at r e = let w = and_parts (r.place.stream == j) (r.place.start == at) e in (eqb-true r.place.stream j w.0, eqb-true r.place.start at w.1)

pub is_start : (j at : ℕ) (r : Kept) → r.place.stream ≡ j → r.place.start ≡ at → starts_at j at r ≡ true
is_start j at r a b = and_from (r.place.stream == j) (r.place.start == at) (eq-eqb r.place.stream j a) (eq-eqb r.place.start at b)

pub among_member : (rs : List Kept) (j at : ℕ) → starts_among rs j at ≡ true → (r : Kept) × Member r rs × (r.place.stream ≡ j) × (r.place.start ≡ at)
among_member [] j at e = absurd cc
among_member (r ∷ rs) j at e = elim (cases_Bool (starts_at j at r)) [
  | inl t ↦ let w = starts_is j at r t in (r, inl refl, w.0, w.1)
  | inr f ↦ let w = among_member rs j at (subst (λ (b : Bool). (b || starts_among rs j at) ≡ true) f e) in (w.0, inr w.1, w.2, w.3)
]

pub member_among : (rs : List Kept) (j at : ℕ) (r : Kept) → Member r rs → r.place.stream ≡ j → r.place.start ≡ at → starts_among rs j at ≡ true
member_among [] j at r m a b = absurd m
member_among (q ∷ rs) j at r (inl e) a b = rw (is_start j at q (ap (λ (z : Kept). z.place.stream) e ∙ a) (ap (λ (z : Kept). z.place.start) e ∙ b)) refl
member_among (q ∷ rs) j at r (inr m) a b = elim (cases_Bool (starts_at j at q)) [ inl t ↦ rw t refl | inr f ↦ rw f (member_among rs j at r m a b) ]

pub not_front : (xs ys : List Kept) (j at : ℕ) → starts_among (xs ++ ys) j at ≡ false → starts_among xs j at ≡ false
not_front [] ys j at e = refl
not_front (x ∷ xs) ys j at e = elim (cases_Bool (starts_at j at x)) [
  | inl t ↦ absurd (let is : starts_among (x ∷ xs ++ ys) j at ≡ true = rw t refl in let f = sym is ∙ e in cc f)
  | inr f ↦ let rest : starts_among (xs ++ ys) j at ≡ false = subst (λ (b : Bool). (b || starts_among (xs ++ ys) j at) ≡ false) f e in rw f (not_front xs ys j at rest)
]

pub not_back : (xs ys : List Kept) (j at : ℕ) → starts_among (xs ++ ys) j at ≡ false → starts_among ys j at ≡ false
not_back [] ys j at e = e
not_back (x ∷ xs) ys j at e = elim (cases_Bool (starts_at j at x)) [
  | inl t ↦ absurd (let is : starts_among (x ∷ xs ++ ys) j at ≡ true = rw t refl in let f = sym is ∙ e in cc f)
  | inr f ↦ let rest : starts_among (xs ++ ys) j at ≡ false = subst (λ (b : Bool). (b || starts_among (xs ++ ys) j at) ≡ false) f e in not_back xs ys j at rest
]

pub not_both : (xs ys : List Kept) (j at : ℕ) → starts_among xs j at ≡ false → starts_among ys j at ≡ false → starts_among (xs ++ ys) j at ≡ false
not_both [] ys j at a b = b
not_both (x ∷ xs) ys j at a b = elim (cases_Bool (starts_at j at x)) [
  | inl t ↦ absurd (let is : starts_among (x ∷ xs) j at ≡ true = rw t refl in let f = sym is ∙ a in cc f)
  | inr f ↦ let rest : starts_among xs j at ≡ false = subst (λ (c : Bool). (c || starts_among xs j at) ≡ false) f a in rw f (not_both xs ys j at rest b)
]

-- ---- open records

pub not_true : (b : Bool) → not b ≡ true → b ≡ false
not_true true e = absurd cc
not_true false e = refl

pub false_not : (b : Bool) → b ≡ false → not b ≡ true
false_not true e = absurd cc
false_not false e = refl

pub open_parts : (out order : List Kept) (r : Kept) → is_open out order r ≡ true → (is_among out r ≡ false) × (is_among order r ≡ false)
open_parts out order r e = let w = and_parts (not (is_among out r)) (not (is_among order r)) e in (not_true (is_among out r) w.0, not_true (is_among order r) w.1)

pub open_from : (out order : List Kept) (r : Kept) → is_among out r ≡ false → is_among order r ≡ false → is_open out order r ≡ true
open_from out order r a b = and_from (not (is_among out r)) (not (is_among order r)) (false_not (is_among out r) a) (false_not (is_among order r) b)

pub open_less : (out more order news : List Kept) (r : Kept) → is_open (out ++ more) (order ++ news) r ≡ true → is_open out order r ≡ true
open_less out more order news r e =
    let w = open_parts (out ++ more) (order ++ news) r e in
    open_from out order r (not_front out more r.place.stream r.place.start w.0) (not_front order news r.place.stream r.place.start w.1)

-- ---- apart

pub apart_push : (rs : List Kept) (r : Kept) → AreApart rs → is_among rs r ≡ false → AreApart (rs ++ r ∷ [])
apart_push [] r h e = (refl, tt)
apart_push (q ∷ rs) r h e =
    let other : starts_at r.place.stream r.place.start q ≡ false = (elim (cases_Bool (starts_at r.place.stream r.place.start q)) [
      | inl t ↦ absurd (let is : is_among (q ∷ rs) r ≡ true = rw t refl in let f = sym is ∙ e in cc f)
      | inr f ↦ f
    ]) in
    let rest : is_among rs r ≡ false = subst (λ (b : Bool). (b || is_among rs r) ≡ false) other e in
    let turned : is_among (r ∷ []) q ≡ false = (elim (cases_Bool (starts_at q.place.stream q.place.start r)) [
      | inl t ↦ absurd (let w = starts_is q.place.stream q.place.start r t in let f = sym (is_start r.place.stream r.place.start q (sym w.0) (sym w.1)) ∙ other in cc f)
      | inr f ↦ rw f refl
    ]) in
    (not_both rs (r ∷ []) q.place.stream q.place.start h.0 turned, apart_push rs r h.1 rest)

-- a record of another place does not matter
pub among_without : (u v : List Kept) (x : Kept) (j at : ℕ) → starts_at j at x ≡ false → starts_among (u ++ x ∷ v) j at ≡ starts_among (u ++ v) j at
among_without [] v x j at e = rw e refl
among_without (a ∷ u) v x j at e = ap (λ (b : Bool). starts_at j at a || b) (among_without u v x j at e)
