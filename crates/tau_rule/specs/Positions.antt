-- Persisted positions: loads and stores of their words.
use Rattle.std.specs.Prelude.{ℕ, ◌+◌, ◌*◌, ◌^◌, ◌<◌, ◌≤◌, ◌≡◌, [], ◌∷◌, ◌++◌, slice_index, slice_set, Option, Some}
use Rattle.atomic_table.specs.Table.{Step}
use Rattle.tau_core.specs.State.{Plain}
use Rattle.tau_core.specs.declared.state.Load.{Load}
use Rattle.tau_rule.specs.Role.{Managed, Managing, Role, managed_in_share}
use Rattle.tau_rule.specs.Knows.{Knows}
use Rattle.tau_rule.specs.Rule.{part_count, manager_role}
use Rattle.tau_rule.specs.Steps.{Sat, first_role}
use Rattle.tau_rule.specs.declared.part.Part.{Part}

abbrev pub plv_word : Load → ℕ → ℕ
plv_word l j = 8 * (part_count l + (l.streams + j))

-- the seat has seen stream j persisted up to there
abbrev pub sees_to : ℕ → ℕ → Knows → Knows
sees_to j n v = record v { seen = slice_set v.seen j n }

-- what a manager has that stored one position more
abbrev pub storing : ℕ → Managed → Managed
storing n g = record g { stored = g.stored ++ n ∷ [] }

-- the manager of stream j has stored that it is persisted up to there
abbrev pub stores_to : ℕ → ℕ → Knows → Knows
stores_to j n v = record (sees_to j n v) { roles = ((first_role v.roles).0, record (first_role v.roles).1 { share = Managing (storing n (managed_in_share (first_role v.roles).1.share)) }) ∷ [] }

-- what was found is no less than what was seen, and within the limit of positions
abbrev pub looked : Step (Option Part) → Sat → ℕ → Sat → Type 0
looked st m found m' = (origin : Plain) → m.0.opened ≡ Some origin → (j : ℕ) → st.word ≡ plv_word origin.load j → (slice_index m.0.seen j ≤ found) × (found < 2 ^ 62) × (m' ≡ (sees_to j found m.0, m.1))

abbrev pub stored : Step (Option Part) → Sat → ℕ → Sat → Type 0
stored st m found m' = (origin : Plain) → m.0.opened ≡ Some origin → (j : ℕ) → st.word ≡ plv_word origin.load j → m' ≡ (stores_to j st.first m.0, m.1)

-- the seat is the manager's of stream j, which has this
pub record IsManager (origin : Plain) (j : ℕ) (m : Sat) (managed : Managed) : Type 0 where
  pub role : Role
  pub opened : m.0.opened ≡ Some origin
  pub roles : m.0.roles ≡ (manager_role origin.load j, role) ∷ []
  pub share : role.share ≡ Managing managed
  pub there : j < origin.load.streams
