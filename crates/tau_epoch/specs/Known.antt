-- The known epochs as a list that ascends by number.
use Rattle.std.specs.Prelude.{ℕ, ◌==◌, nat_lt, if◌then◌else◌, is_some, List, [], ◌∷◌, map, Option, Some, None}
use Rattle.std.specs.List.Sorted.{IsStrictlyIncreasing}
use Rattle.tau_epoch.specs.Epochs.{Mark}

-- the entries of a map from numbers to vectors
abbrev pub as_marks : List (ℕ × List ℕ) → List Mark
as_marks es = map (λ e. record { number = e.0; lv = e.1 }) es

abbrev pub numbers_of : List Mark → List ℕ
numbers_of known = map (λ (m : Mark). m.number) known

-- each number is above the one before it
abbrev pub Ascends : List Mark → Type 0
Ascends known = IsStrictlyIncreasing (numbers_of known)

-- the vector of the epoch with this number
abbrev pub vector_of : ℕ → List Mark → Option (List ℕ)
vector_of k [] = None
vector_of k (m ∷ ms) = if k == m.number then Some m.lv else vector_of k ms

-- with one mark more, in its place by number
abbrev pub put_mark : Mark → List Mark → List Mark
put_mark m [] = m ∷ []
put_mark m (o ∷ ms) = if nat_lt m.number o.number then m ∷ o ∷ ms else o ∷ put_mark m ms

-- with this mark, where its number is not known yet
abbrev pub with_mark : Mark → List Mark → List Mark
with_mark m known = if is_some (vector_of m.number known) then known else put_mark m known
