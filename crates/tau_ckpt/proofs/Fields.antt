-- Numbers and positions at the front of bytes.
use Rattle.std.proofs.Common.{◌≡◌, ℕ, ◌^◌, ◌<◌, ◌≤◌, List, [], ◌∷◌, ◌++◌, length, take, drop, refl, sym, ap, ◌∙◌, arith, true}
use Rattle.std.specs.Int.{Width, w64, byte_len, from_be_bytes, to_be_bytes}
use Rattle.std.specs.List.{flat_map, starts_with}
use Rattle.std.specs.Cmp.Lexicographic.{pointwise}
use Rattle.std.specs.Prelude.{nat_eq}
use Rattle.std.proofs.lemmas.Bool.{and_from, and_parts, eqb-true, eq-eqb}
use Rattle.std.proofs.lemmas.List.{take_at, drop_at, take_all, drop_all}
use Rattle.tau_base.specs.declared.limits.TheConstants.{MAX_LSN}
use Rattle.tau_record.specs.Vector.{ArePlaces}
use Rattle.tau_record.proofs.FieldLaws.{IsWide, wide64}

module _ (w : Width) (limit : ℕ) (wide : IsWide w limit) (a b : ℕ) (x y : List ℕ) (e : to_be_bytes w a ++ x ≡ to_be_bytes w b ++ y) where
  -- what stands after a number is so, whatever the number is
  pub after_number : x ≡ y
  after_number = sym (drop_at (to_be_bytes w a) x (byte_len w) (wide.len a)) ∙ ap (drop (byte_len w)) e ∙ drop_at (to_be_bytes w b) y (byte_len w) (wide.len b)

  -- a number stands in front in one way
  pub number_once : a < limit → b < limit → a ≡ b
  number_once small below =
      let front : to_be_bytes w a ≡ to_be_bytes w b = sym (take_at (to_be_bytes w a) x (byte_len w) (wide.len a)) ∙ ap (take (byte_len w)) e ∙ take_at (to_be_bytes w b) y (byte_len w) (wide.len b) in
      sym (wide.again a small) ∙ ap (from_be_bytes w) front ∙ wide.again b below

-- positions as bytes
abbrev pub spelled : List ℕ → List ℕ
spelled lv = flat_map (to_be_bytes w64) lv

pub number_here : (p q : ℕ) (x y : List ℕ) → p < 2 ^ 64 → q < 2 ^ 64 → to_be_bytes w64 p ++ x ≡ to_be_bytes w64 q ++ y → (p ≡ q) × (x ≡ y)
number_here p q x y small below e = (number_once w64 (2 ^ 64) wide64 p q x y e small below, after_number w64 (2 ^ 64) wide64 p q x y e)

-- of two lists of positions that stand in front the longer one begins with the other
pub positions_part : (v u x y : List ℕ) → ArePlaces v → ArePlaces u → length v ≤ length u → spelled v ++ x ≡ spelled u ++ y
    → (v ≡ take (length v) u) × (x ≡ spelled (drop (length v) u) ++ y)
positions_part [] u x y pv pu le e = (refl, e)
positions_part (p ∷ v) [] x y pv pu le e = absurd (omega (arith, le))
positions_part (p ∷ v) (q ∷ u) x y pv pu le e =
    let h = number_here p q (spelled v ++ x) (spelled u ++ y) (omega (arith, pv.0)) (omega (arith, pu.0)) e in
    let t = positions_part v u x y pv.1 pu.1 (omega (arith, le)) h.1 in
    (ap (λ (z : ℕ). z ∷ v) h.0 ∙ ap (λ (l : List ℕ). q ∷ l) t.0, t.1)

-- so many positions stand in front in one way
pub positions_once : (v u x y : List ℕ) → ArePlaces v → ArePlaces u → length v ≡ length u → spelled v ++ x ≡ spelled u ++ y → (v ≡ u) × (x ≡ y)
positions_once v u x y pv pu long e =
    let t = positions_part v u x y pv pu (omega (arith, long)) e in
    (t.0 ∙ take_all (length v) u (omega (arith, long)), t.1 ∙ ap (λ (l : List ℕ). spelled l ++ y) (drop_all (length v) u (omega (arith, long))))

-- after fewer positions than stand in front there is one more
pub one_more : (v u x y : List ℕ) → ArePlaces v → ArePlaces u → length v < length u → spelled v ++ x ≡ spelled u ++ y
    → (p : ℕ) × (r : List ℕ) × (p < MAX_LSN) × (x ≡ to_be_bytes w64 p ++ r)
one_more [] [] x y pv pu lt e = absurd (omega (arith, lt))
one_more [] (q ∷ u) x y pv pu lt e = (q, spelled u ++ y, pu.0, e)
one_more (p ∷ v) [] x y pv pu lt e = absurd (omega (arith, lt))
one_more (p ∷ v) (q ∷ u) x y pv pu lt e =
    let h = number_here p q (spelled v ++ x) (spelled u ++ y) (omega (arith, pv.0)) (omega (arith, pu.0)) e in
    one_more v u x y pv.1 pu.1 (omega (arith, lt)) h.1

-- ---- the test of two lists

pub pointwise_same : (xs ys : List ℕ) → pointwise nat_eq xs ys ≡ true → xs ≡ ys
pointwise_same [] [] e = refl
pointwise_same [] (y ∷ ys) e = absurd cc
pointwise_same (x ∷ xs) [] e = absurd cc
pointwise_same (x ∷ xs) (y ∷ ys) e =
    let h = and_parts (nat_eq x y) (pointwise nat_eq xs ys) e in
    ap (λ (z : ℕ). z ∷ xs) (eqb-true x y h.0) ∙ ap (λ (l : List ℕ). y ∷ l) (pointwise_same xs ys h.1)

pub pointwise_self : (xs : List ℕ) → pointwise nat_eq xs xs ≡ true
pointwise_self [] = refl
pointwise_self (x ∷ xs) = and_from (nat_eq x x) (pointwise nat_eq xs xs) (eq-eqb x x refl) (pointwise_self xs)

pub starts_same : (xs ys : List ℕ) → length ys ≡ length xs → starts_with nat_eq xs ys ≡ true → xs ≡ ys
starts_same xs ys long e = sym (pointwise_same ys (take (length ys) xs) e ∙ take_all (length ys) xs (omega (arith, long)))

pub starts_self : (xs : List ℕ) → starts_with nat_eq xs xs ≡ true
starts_self xs = ap (pointwise nat_eq xs) (take_all (length xs) xs (omega arith)) ∙ pointwise_self xs
