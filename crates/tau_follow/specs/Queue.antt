-- Records that wait for one stream.
use Rattle.std.specs.Prelude.{ℕ, ◌<◌, List}
use Rattle.std.specs.List.{All}
use Rattle.std.specs.Ordering.{nat_cmp, ordering_then}
use Rattle.std.specs.declared.cmp.Ordering.{Ordering}
use Rattle.std.specs.declared.cmp.Reverse.{Reverse}
use Rattle.tau_follow.specs.declared.spot.Spot.{Spot}

-- the position that a record waits for, and its stream and index
abbrev pub Wait : Type 0
Wait = Reverse (ℕ × (ℕ × ℕ))

-- the lowest position comes first
abbrev pub wait_cmp : Wait → Wait → Ordering
wait_cmp x y = ordering_then (nat_cmp y.0.0 x.0.0) (ordering_then (nat_cmp y.0.1.0 x.0.1.0) (nat_cmp y.0.1.1 x.0.1.1))

abbrev pub spot_at : ℕ → ℕ → Spot
spot_at j i = record { stream = j; index = i }

-- the record that waits
abbrev pub spot_of : Wait → Spot
spot_of w = spot_at w.0.1.0 w.0.1.1

-- a record that waits for this position
abbrev pub wait_at : ℕ → Spot → Wait
wait_at at spot = record { 0 = (at, (spot.stream, spot.index)) }

-- each waits for more than this
abbrev pub AreAbove : ℕ → List Wait → Type 0
AreAbove reached waits = All (λ (w : Wait). reached < w.0.0) waits
