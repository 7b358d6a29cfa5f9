-- Acknowledged calls with their vectors, as a list keeps them: of each its number and how wide its vector is, and all components in a row.
use Rattle.std.specs.Prelude.{ℕ, ◌+◌, ◌≡◌, List, [], ◌∷◌, take, drop, length}

-- the calls that are kept so
abbrev pub acks_of : List (ℕ × ℕ) → List ℕ → List (ℕ × List ℕ)
acks_of [] parts = []
acks_of (head ∷ heads) parts = (head.0, take head.1 parts) ∷ acks_of heads (drop head.1 parts)

-- how many components they have
abbrev pub width_of : List (ℕ × ℕ) → ℕ
width_of [] = 0
width_of (head ∷ heads) = head.1 + width_of heads

-- the components are those of their vectors
abbrev pub IsWhole : List (ℕ × ℕ) → List ℕ → Type 0
IsWhole heads parts = width_of heads ≡ length parts
