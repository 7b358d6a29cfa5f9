-- Joins and covering.
use Rattle.std.proofs.Common.{ℕ, zero, suc, ◌≤◌, ◌<◌, ◌≡◌, Bool, true, List, [], ◌∷◌, length, refl, arith, inl, inr, max, slice_index}
use Rattle.std.specs.Prelude.{false, nat_le}
use Rattle.std.proofs.lemmas.Bool.Decides.{leb_tells}
use Rattle.std.proofs.lemmas.Bool.{and_from, and_parts, leb-true, le-leb}
use Rattle.tau_base.specs.Vectors.{AtMost, join, covers}

pub join_at : (v w : List ℕ) (j : ℕ) → slice_index (join v w) j ≡ max (slice_index v j) (slice_index w j)
join_at [] w j = omega arith
join_at (a ∷ v) [] j = omega arith
join_at (a ∷ v) (b ∷ w) zero = refl
join_at (a ∷ v) (b ∷ w) (suc j) = join_at v w j

pub join_wide : (v w : List ℕ) → length v ≤ length (join v w)
join_wide [] w = omega arith
join_wide (a ∷ v) [] = omega arith
join_wide (a ∷ v) (b ∷ w) = let h = join_wide v w in omega arith

pub join_length : (v w : List ℕ) → length v ≡ length w → length (join v w) ≡ length v
join_length [] [] e = refl
join_length [] (b ∷ w) e = omega (arith, e)
join_length (a ∷ v) [] e = refl
join_length (a ∷ v) (b ∷ w) e = let h = join_length v w (omega (arith, e)) in omega (arith, h)

pub join_left : (v w : List ℕ) → AtMost v (join v w)
join_left v w j = let e = join_at v w j in omega arith

pub join_right : (v w : List ℕ) → AtMost w (join v w)
join_right v w j = let e = join_at v w j in omega arith

pub join_below : (v w z : List ℕ) → AtMost v z → AtMost w z → AtMost (join v w) z
join_below v w z p q j = let e = join_at v w j in let a = p j in let b = q j in omega arith

pub at_most_trans : (u v w : List ℕ) → AtMost u v → AtMost v w → AtMost u w
at_most_trans u v w p q j = let a = p j in let b = q j in omega arith

pub at_most_itself : (v : List ℕ) → AtMost v v
at_most_itself v j = omega arith

-- vectors of one width with the same positions are the same
pub same_positions : (v w : List ℕ) → length v ≡ length w → ((j : ℕ) → slice_index v j ≡ slice_index w j) → v ≡ w
same_positions [] [] e h = refl
same_positions [] (b ∷ w) e h = absurd (omega (arith, e))
same_positions (a ∷ v) [] e h = absurd (omega (arith, e))
same_positions (a ∷ v) (b ∷ w) e h =
    let head : a ≡ b = h 0 in
    let tail = same_positions v w (omega (arith, e)) (λ j. h (suc j)) in
    λ i. head i ∷ tail i

pub at_most_antisymmetric : (v w : List ℕ) → length v ≡ length w → AtMost v w → AtMost w v → v ≡ w
at_most_antisymmetric v w e p q = same_positions v w e (λ j. let a = p j in let b = q j in omega (arith, a, b))

pub covers_at_most : (w v : List ℕ) → covers w v ≡ true → AtMost v w
covers_at_most w [] e j = omega arith
covers_at_most [] (a ∷ v) e zero = leb-true a 0 (and_parts (nat_le a 0) (covers [] v) e).0
covers_at_most [] (a ∷ v) e (suc j) = covers_at_most [] v (and_parts (nat_le a 0) (covers [] v) e).1 j
covers_at_most (b ∷ w) (a ∷ v) e zero = leb-true a b (and_parts (nat_le a b) (covers w v) e).0
covers_at_most (b ∷ w) (a ∷ v) e (suc j) = covers_at_most w v (and_parts (nat_le a b) (covers w v) e).1 j

pub at_most_covers : (w v : List ℕ) → AtMost v w → covers w v ≡ true
at_most_covers w [] h = refl
at_most_covers [] (a ∷ v) h = and_from (nat_le a 0) (covers [] v) (le-leb a 0 (h 0)) (at_most_covers [] v (λ j. h (suc j)))
at_most_covers (b ∷ w) (a ∷ v) h = and_from (nat_le a b) (covers w v) (le-leb a b (h 0)) (at_most_covers w v (λ j. h (suc j)))

-- a vector that is above w somewhere is not covered
pub above_covers : (w v : List ℕ) (j : ℕ) → slice_index w j < slice_index v j → covers w v ≡ false
above_covers w v j above = refused (covers w v) refl
  where
    refused : (b : Bool) → covers w v ≡ b → covers w v ≡ false
    refused true e = let h = covers_at_most w v e j in absurd (omega (arith, h, above))
    refused false e = e

pub join_none : (v : List ℕ) → join v [] ≡ v
join_none [] = refl
join_none (a ∷ v) = refl

pub join_wider : (v w : List ℕ) → (length v ≤ length (join v w)) × (length w ≤ length (join v w)) × (length (join v w) ≤ max (length v) (length w))
join_wider [] w = (omega arith, omega arith, omega arith)
join_wider (a ∷ v) [] = (omega arith, omega arith, omega arith)
join_wider (a ∷ v) (b ∷ w) = let h = join_wider v w in (omega arith, omega arith, omega arith)

-- a vector of the greater width whose positions are the greater ones is the join
pub join_from : (u v w : List ℕ) → length u ≡ max (length v) (length w) → ((k : ℕ) → slice_index u k ≡ max (slice_index v k) (slice_index w k)) → u ≡ join v w
join_from u v w e h =
    let wide = join_wider v w in
    same_positions u (join v w) (omega (arith, e, wide.0, wide.1, wide.2)) (λ k. let at = join_at v w k in let is = h k in omega (arith, at, is))

-- it is enough to look at the positions that v has
pub at_most_within : (v w : List ℕ) → ((k : ℕ) → k < length v → slice_index v k ≤ slice_index w k) → AtMost v w
at_most_within [] w h j = omega arith
at_most_within (a ∷ v) w h zero = h 0 (omega arith)
at_most_within (a ∷ v) [] h (suc j) = at_most_within v [] (λ k lt. h (suc k) (omega (arith, lt))) j
at_most_within (a ∷ v) (b ∷ w) h (suc j) = at_most_within v w (λ k lt. h (suc k) (omega (arith, lt))) j

pub beyond : (v : List ℕ) (k : ℕ) → length v ≤ k → slice_index v k ≡ 0
beyond [] k le = refl
beyond (a ∷ v) zero le = absurd (omega (arith, le))
beyond (a ∷ v) (suc k) le = beyond v k (omega (arith, le))

-- positions that are the greater ones as far as w goes, and those of v from there on
pub join_so_far : (u v w : List ℕ) (n : ℕ) → length w ≤ n → length u ≡ max (length v) (length w)
    → ((k : ℕ) → k < n → slice_index u k ≡ max (slice_index v k) (slice_index w k)) → ((k : ℕ) → n ≤ k → slice_index u k ≡ slice_index v k) → u ≡ join v w
join_so_far u v w n all e below above = join_from u v w e (λ k. elim (leb_tells n k) [
  | inl h ↦ let zero_there = beyond w k (omega (arith, all, h.1)) in let same = above k h.1 in omega (arith, zero_there, same)
  | inr h ↦ below k h.1
])

-- a vector that zeros were put after joins to the same
pub join_widened : (v u w : List ℕ) → length v < length w → length u ≡ length w → ((k : ℕ) → k < length w → slice_index u k ≡ slice_index v k) → join u w ≡ join v w
join_widened v u w narrow wide same =
    let widths = join_wider u w in
    join_from (join u w) v w (omega (arith, widths.0, widths.1, widths.2, narrow, wide)) (λ k. elim (leb_tells (length w) k) [
      | inl h ↦
          let at = join_at u w k in
          let none_u = beyond u k (omega (arith, wide, h.1)) in
          let none_v = beyond v k (omega (arith, narrow, h.1)) in
          omega (arith, at, none_u, none_v)
      | inr h ↦ let at = join_at u w k in let e = same k h.1 in omega (arith, at, e)
    ])
