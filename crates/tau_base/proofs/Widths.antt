-- A vector in an array that speaks of more or fewer streams from now on.
use Rattle.std.proofs.Common.{ℕ, ◌≡◌, ◌≤◌, ◌<◌, ◌+◌, ◌-◌, ◌∙◌, List, length, take, drop, sym, ap, arith, inl, inr, slice_index, get_or-drop, get_or-take, length-drop, length-take}
use Rattle.std.specs.Prelude.{replicate}
use Rattle.std.proofs.lemmas.List.{length-replicate, get_or-replicate}
use Rattle.std.proofs.lemmas.Bool.Decides.{leb_tells}
use Rattle.tau_base.proofs.Vectors.{same_positions, beyond}

-- zeros are read as zeros, and so is what is beyond them
zeros_at : (n k : ℕ) → slice_index (replicate n 0) k ≡ 0
zeros_at n k = elim (leb_tells n k) [
  | inl h ↦ beyond (replicate n 0) k (omega (arith, h.1, length-replicate {A = ℕ} n 0))
  | inr h ↦ get_or-replicate n k 0 0 h.1
]

pub zeros_small : (n bound k : ℕ) → 1 ≤ bound → slice_index (replicate n 0) k < bound
zeros_small n bound k some = let none = zeros_at n k in omega (arith, none, some)

-- fewer zeros

pub zeros_dropped : (size n : ℕ) → drop {A = ℕ} n (replicate size 0) ≡ replicate (size - n) 0
zeros_dropped size n =
    let all : List ℕ = replicate size 0 in
    let long : length (drop n all) ≡ length {A = ℕ} (replicate (size - n) 0) = omega (arith, length-drop n all, length-replicate {A = ℕ} size 0, length-replicate {A = ℕ} (size - n) 0) in
    same_positions (drop n all) (replicate (size - n) 0) long (λ k. get_or-drop n all k 0 ∙ zeros_at size (n + k) ∙ sym (zeros_at (size - n) k))

pub zeros_taken : (size n : ℕ) → n ≤ size → take {A = ℕ} n (replicate size 0) ≡ replicate n 0
zeros_taken size n fits =
    let all : List ℕ = replicate size 0 in
    let long : length (take n all) ≡ length {A = ℕ} (replicate n 0) = omega (arith, fits, length-take n all, length-replicate {A = ℕ} size 0, length-replicate {A = ℕ} n 0) in
    same_positions (take n all) (replicate n 0) long (λ k. elim (leb_tells n k) [
      | inl h ↦ beyond (take n all) k (omega (arith, h.1, length-take n all)) ∙ sym (zeros_at n k)
      | inr h ↦ get_or-take n all k 0 h.1 ∙ zeros_at size k ∙ sym (zeros_at n k)
    ])

-- what is not the vector's is zeros
zeros_past : (size w : ℕ) (p : List ℕ) → drop w p ≡ replicate (size - w) 0 → (k : ℕ) → w ≤ k → slice_index p k ≡ 0
zeros_past size w p zeros k le =
    let place : k ≡ w + (k - w) = omega (arith, le) in
    let at : slice_index (drop w p) (k - w) ≡ slice_index p (w + (k - w)) = get_or-drop w p (k - w) 0 in
    ap (λ (i : ℕ). slice_index p i) place ∙ sym at ∙ ap (λ (l : List ℕ). slice_index l (k - w)) zeros ∙ zeros_at (size - w) (k - w)

-- where the vector is zeros from a place on, the whole array is
zeros_from : (size w n : ℕ) (p : List ℕ) → drop w p ≡ replicate (size - w) 0 → ((k : ℕ) → n ≤ k → slice_index (take w p) k ≡ 0) → (k : ℕ) → n ≤ k → slice_index p k ≡ 0
zeros_from size w n p zeros cleared k le = elim (leb_tells w k) [
  | inl h ↦ zeros_past size w p zeros k h.1
  | inr h ↦ sym (get_or-take w p k 0 h.1) ∙ cleared k le
]

pub zeros_left : (size w n : ℕ) (p : List ℕ) → length p ≡ size → drop w p ≡ replicate (size - w) 0 → ((k : ℕ) → n ≤ k → slice_index (take w p) k ≡ 0) → drop n p ≡ replicate (size - n) 0
zeros_left size w n p full zeros cleared =
    let long : length (drop n p) ≡ length {A = ℕ} (replicate (size - n) 0) = omega (arith, full, length-drop n p, length-replicate {A = ℕ} (size - n) 0) in
    same_positions (drop n p) (replicate (size - n) 0) long (λ k. get_or-drop n p k 0 ∙ zeros_from size w n p zeros cleared (n + k) (omega arith) ∙ sym (zeros_at (size - n) k))

-- the first positions of the array are those of the vector, which is zeros beyond its end
pub first_positions : (size w n : ℕ) (p : List ℕ) → drop w p ≡ replicate (size - w) 0 → (k : ℕ) → k < n → slice_index (take n p) k ≡ slice_index (take w p) k
first_positions size w n p zeros k lt = get_or-take n p k 0 lt ∙ elim (leb_tells w k) [
  | inl h ↦ zeros_past size w p zeros k h.1 ∙ sym (beyond (take w p) k (omega (arith, h.1, length-take w p)))
  | inr h ↦ sym (get_or-take w p k 0 h.1)
]

pub small_positions : (size w n bound : ℕ) (p : List ℕ) → 1 ≤ bound → drop w p ≡ replicate (size - w) 0 → ((k : ℕ) → k < w → slice_index p k < bound) → (k : ℕ) → k < n → slice_index p k < bound
small_positions size w n bound p some zeros small k lt = elim (leb_tells w k) [
  | inl h ↦ let none = zeros_past size w p zeros k h.1 in omega (arith, none, some)
  | inr h ↦ small k h.1
]

-- a vector of so many zeros
pub zeros_only : (v : List ℕ) (n : ℕ) → length v ≡ n → ((k : ℕ) → k < n → slice_index v k ≡ 0) → v ≡ replicate n 0
zeros_only v n long zeros = same_positions v (replicate n 0) (omega (arith, long, length-replicate {A = ℕ} n 0)) (λ k. elim (leb_tells n k) [
  | inl h ↦ beyond v k (omega (arith, long, h.1)) ∙ sym (zeros_at n k)
  | inr h ↦ zeros k h.1 ∙ sym (zeros_at n k)
])
