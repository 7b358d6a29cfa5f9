-- The first record of a stream that is left.
use Rattle.std.specs.Prelude.{ℕ, suc, ◌==◌, List, [], ◌∷◌, Option, Some, None, if◌then◌else◌}
use Rattle.tau_pool.specs.Item.{Item}
use Rattle.tau_pool.specs.Passing.{is_passed}

-- the place of the first, where these begin at place i, that is of a higher stream, or of stream j and left
abbrev pub first_from : ℕ → ℕ → List Item → ℕ
first_from j i [] = i
first_from j i (x ∷ xs) = if is_passed j x then first_from j (suc i) xs else i

-- how far stream j is recovered, where this is the first
abbrev pub reach_one : ℕ → ℕ → Option Item → ℕ
reach_one j end None = end
reach_one j end (Some x) = if x.stream == j then x.start else end
