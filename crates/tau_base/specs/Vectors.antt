-- Vectors of log positions: one position for each stream. Beyond its end a vector has zeros.
use Rattle.std.specs.Prelude.{ℕ, ◌≤◌, max, Bool, true, ◌&&◌, nat_le, List, [], ◌∷◌, slice_index}

-- w covers v: each position of v is at most that of w
abbrev pub AtMost : List ℕ → List ℕ → Type 0
AtMost v w = (j : ℕ) → slice_index v j ≤ slice_index w j

-- the greater position of each stream
abbrev pub join : List ℕ → List ℕ → List ℕ
join [] w = w
join (a ∷ v) [] = a ∷ v
join (a ∷ v) (b ∷ w) = max a b ∷ join v w

-- whether w covers v
abbrev pub covers : List ℕ → List ℕ → Bool
covers w [] = true
covers [] (a ∷ v) = nat_le a 0 && covers [] v
covers (b ∷ w) (a ∷ v) = nat_le a b && covers w v
