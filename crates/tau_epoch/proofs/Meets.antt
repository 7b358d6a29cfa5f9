-- Meets of vectors.
use Rattle.std.proofs.Common.{ℕ, zero, suc, ◌≤◌, ◌<◌, ◌≡◌, List, [], ◌∷◌, length, refl, arith, min, slice_index, inl, inr}
use Rattle.std.proofs.lemmas.Bool.Decides.{leb_tells}
use Rattle.tau_base.specs.Vectors.{AtMost}
use Rattle.tau_base.proofs.Vectors.{same_positions, beyond}
use Rattle.tau_epoch.specs.Epochs.{meet}

pub meet_at : (v w : List ℕ) (j : ℕ) → slice_index (meet v w) j ≡ min (slice_index v j) (slice_index w j)
meet_at [] w j = omega arith
meet_at (a ∷ v) [] j = omega arith
meet_at (a ∷ v) (b ∷ w) zero = refl
meet_at (a ∷ v) (b ∷ w) (suc j) = meet_at v w j

pub meet_left : (v w : List ℕ) → AtMost (meet v w) v
meet_left v w j = let e = meet_at v w j in omega arith

pub meet_right : (v w : List ℕ) → AtMost (meet v w) w
meet_right v w j = let e = meet_at v w j in omega arith

pub meet_greatest : (v w bound : List ℕ) → AtMost bound v → AtMost bound w → AtMost bound (meet v w)
meet_greatest v w bound p q j = let e = meet_at v w j in let a = p j in let b = q j in omega arith

pub meet_comm : (v w : List ℕ) → meet v w ≡ meet w v
meet_comm [] [] = refl
meet_comm [] (b ∷ w) = refl
meet_comm (a ∷ v) [] = refl
meet_comm (a ∷ v) (b ∷ w) =
    let head : min a b ≡ min b a = omega arith in
    let tail = meet_comm v w in
    λ i. head i ∷ tail i

meet_length : (v w : List ℕ) → length v ≤ length w → length (meet v w) ≡ length v
meet_length [] w le = refl
meet_length (a ∷ v) [] le = absurd (omega (arith, le))
meet_length (a ∷ v) (b ∷ w) le = let h = meet_length v w (omega (arith, le)) in omega (arith, h)

-- positions that are lowered as far as the narrower vector goes
pub meet_so_far : (u v w : List ℕ) (n : ℕ) → length v ≤ n → length v ≤ length w → length u ≡ length v
    → ((k : ℕ) → k < n → slice_index u k ≡ min (slice_index v k) (slice_index w k)) → u ≡ meet v w
meet_so_far u v w n all wide e below =
    let long = meet_length v w wide in
    same_positions u (meet v w) (omega (arith, e, long)) (λ k. elim (leb_tells n k) [
      | inl h ↦
          let mine = beyond u k (omega (arith, e, all, h.1)) in
          let zero_there = beyond v k (omega (arith, all, h.1)) in
          let at = meet_at v w k in
          omega (arith, mine, zero_there, at)
      | inr h ↦ let is = below k h.1 in let at = meet_at v w k in omega (arith, is, at)
    ])
