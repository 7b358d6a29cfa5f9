-- What a look at a word of the table tells.
use Rattle.std.specs.Prelude.{ℕ, ◌+◌, ◌<◌, ◌≡◌, ◌⊎◌, ◌==◌, Bool, true, Option, Some, List, slice_index}
use Rattle.tau_base.specs.Vectors.{AtMost}
use Rattle.tau_core.specs.State.{Plain}
use Rattle.atomic_table.specs.Table.{Step}
use Rattle.tau_occ.specs.declared.style.Style.{Style}
use Rattle.tau_rule.specs.Role.{Role}
use Rattle.tau_rule.specs.Knows.{Knows}
use Rattle.tau_rule.specs.Positions.{looked, plv_word}
use Rattle.tau_rule.specs.Rule.{IsRole, Meets, Now, Sees, has, is_raised}
use Rattle.tau_rule.specs.Steps.{Sat}
use Rattle.tau_rule.specs.Stopping.{stop_word}
use Rattle.tau_rule.specs.declared.part.Part.{Part}
use Rattle.tau_desk.specs.Manages.{told_found}

-- at a state with which all that the seat knows agrees, an actor has raised the stop if and only if this is so
pub record StopStands (origin : Plain) (v : Knows) (stands : Bool) : Type 0 where
  pub style : Style
  pub state : Now
  pub meets : Meets origin style state
  pub sees : Sees origin state v
  pub roles : (u : ℕ) (r : Role) → has u v ≡ Some r → IsRole origin.load u r state
  pub is : is_raised (origin.load.workers + origin.load.streams + 1) state.raised ≡ stands

-- the seat has raised the stop by a role that it has, or has found it raised
abbrev pub HasRaised : Knows → Type 0
HasRaised v = ((u : ℕ) × (r : Role) × (has u v ≡ Some r) × (r.raised ≡ true)) ⊎ (v.found ≡ true)

-- a seat has looked whether the stop is raised
abbrev pub saw_stop : Step (Option Part) → Sat → ℕ → Sat → Type 0
saw_stop st m found m' = (m' ≡ (told_found m.0 found, m.1)) × ((origin : Plain) → m.0.opened ≡ Some origin → st.word ≡ stop_word origin.load → StopStands origin m.0 (found == 1))

-- at a state with which the roles of the seat agree, and in which each stream was persisted as far at least as is said here, this one was persisted up to there
pub record PersistedAt (origin : Plain) (v : Knows) (seen : List ℕ) (j upto : ℕ) : Type 0 where
  pub style : Style
  pub state : Now
  pub meets : Meets origin style state
  pub roles : (u : ℕ) (r : Role) → has u v ≡ Some r → IsRole origin.load u r state
  pub low : AtMost seen state.core.plv
  pub is : slice_index state.core.plv j ≡ upto

-- a seat has looked how far a stream is persisted
abbrev pub saw_persisted : Step (Option Part) → Sat → ℕ → Sat → Type 0
saw_persisted st m found m' =
    looked st m found m' × ((origin : Plain) → m.0.opened ≡ Some origin → (j : ℕ) → j < origin.load.streams → st.word ≡ plv_word origin.load j → PersistedAt origin m.0 m.0.seen j found)

-- the seat has looked at each of the first so many streams, and says whether one is persisted further than was seen
pub record LooksOver (origin : Plain) (v : Knows) (count : ℕ) (seen seen' : List ℕ) (said : Bool) : Type 0 where
  pub each : (j : ℕ) → j < count → PersistedAt origin v seen j (slice_index seen' j)
  pub rose : said ≡ true → (j : ℕ) × (j < count) × (slice_index seen j < slice_index seen' j)
