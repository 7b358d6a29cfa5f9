-- Epochs: the vector against which the records of an epoch are judged.
use Rattle.std.specs.Prelude.{ℕ, min, max, nat_lt, nat_le, if◌then◌else◌, List, [], ◌∷◌, Option, Some, None}

-- the number of an epoch, with its vector
pub record Mark : Type 0 where
  pub number : ℕ
  pub lv : List ℕ

-- the one with the lower number, the first where both have one number
abbrev pub lower : Mark → Option Mark → Mark
lower m None = m
lower m (Some o) = if nat_le m.number o.number then m else o

-- the known epoch with the smallest number above this one
abbrev pub least_above : ℕ → List Mark → Option Mark
least_above k [] = None
least_above k (m ∷ ms) = if nat_lt k m.number then Some (lower m (least_above k ms)) else least_above k ms

-- the largest known number, 0 if no epoch is known
abbrev pub largest : List Mark → ℕ
largest [] = 0
largest (m ∷ ms) = max m.number (largest ms)

-- the smaller component of each stream
abbrev pub meet : List ℕ → List ℕ → List ℕ
meet [] w = []
meet (a ∷ v) [] = []
meet (a ∷ v) (b ∷ w) = min a b ∷ meet v w

abbrev pub judged_by : List ℕ → Option Mark → List ℕ
judged_by elv None = elv
judged_by elv (Some m) = meet m.lv elv

-- the judging vector of an epoch
abbrev pub judging : List ℕ → List Mark → ℕ → List ℕ
judging elv known k = judged_by elv (least_above k known)
