-- What a worker's seat knows.
use Rattle.std.specs.Prelude.{ℕ, suc, ◌≡◌, ◌+◌, ◌-◌, ◌<◌, ◌≤◌, ◌⊎◌, List, [], ◌∷◌, Option, None, slice_get}
use Rattle.tau_pool.specs.declared.item.Job.{Job}
use Rattle.tau_replay.specs.Rule.{Hand, Sat, idle_from}

-- these are so many hands from this one on
abbrev pub AreFrom : ℕ → ℕ → List Hand → Type 0
AreFrom w n [] = n ≡ 0
AreFrom w n (x ∷ xs) = (x.0 ≡ w) × (1 ≤ n) × AreFrom (suc w) (n - 1) xs

-- the seat has no part, and steps for so many hands from this one on
pub record IsFor (first many : ℕ) (m : Sat) : Type 0 where
  pub none : m.1 ≡ []
  pub free : m.0.held ≡ None
  pub some : 1 ≤ many
  pub hands : AreFrom first many m.0.hands

-- the seat has no part, and steps for so many hands from this one on, which have nothing in flight
pub record IsSpare (first many : ℕ) (m : Sat) : Type 0 where
  pub none : m.1 ≡ []
  pub free : m.0.held ≡ None
  pub some : 1 ≤ many
  pub hands : m.0.hands ≡ idle_from first many

-- the seat steps for the same hands
pub record Went (first many : ℕ) (m m' : Sat) : Type 0 where
  pub stands : IsFor first many m'
  pub of_log : m'.0.log ≡ m.0.log

-- what any but so many hands from this one on has in flight stays
abbrev pub RestStays : ℕ → ℕ → List (Option Job) → List (Option Job) → Type 0
RestStays first many old new = (w : ℕ) → (w < first) ⊎ (first + many ≤ w) → slice_get new w ≡ slice_get old w
