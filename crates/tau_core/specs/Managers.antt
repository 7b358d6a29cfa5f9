-- What managers do with positions.
use Rattle.std.specs.Prelude.{ℕ, ◌≡◌, ◌≤◌, ◌<◌, ◌⊎◌, Some, None, slice_get, slice_index, slice_set}
use Rattle.tau_core.specs.declared.event.Phase.{Phase}
use Rattle.tau_core.specs.declared.event.Phase.TheVariants.{Short, Stopped}
use Rattle.tau_core.specs.declared.event.Outcome.{Outcome}
use Rattle.tau_core.specs.declared.event.Outcome.TheVariants.{Went, NotNow}
use Rattle.tau_core.specs.Plain.{PlainStream}
use Rattle.tau_core.specs.State.{Plain}
use Rattle.tau_core.specs.View.{stop_in}

-- the stream goes on, and the position is one from the persisted to the gathered one
abbrev pub Reaches : Plain → ℕ → ℕ → Type 0
Reaches p j at = (stop_in (slice_get p.streams j) ≡ None) × (slice_index p.plv j ≤ at) × (at ≤ slice_index p.gathered j)

-- why it may not go there
abbrev pub Bars : Plain → ℕ → ℕ → Phase → Type 0
Bars p j at (Stopped stopped) = stop_in (slice_get p.streams j) ≡ Some stopped
Bars p j at (Short gathered) = (stop_in (slice_get p.streams j) ≡ None) × (gathered ≡ slice_index p.gathered j) × ((at < slice_index p.plv j) ⊎ (gathered < at))
Bars p j at _ = ⊥

-- a position is persisted
abbrev pub Persisted : Plain → ℕ → ℕ → Outcome → Plain → Type 0
Persisted p j upto Went p' = Reaches p j upto × (p' ≡ record p { plv = slice_set p.plv j upto })
Persisted p j upto (NotNow phase) p' = Bars p j upto phase × (p' ≡ p)
Persisted p j upto _ p' = ⊥

-- the stream with its stop
abbrev pub stopped_at : PlainStream → ℕ → PlainStream
stopped_at s at = record s { stop = Some at }

-- a stream is stopped
abbrev pub StoppedBy : Plain → ℕ → ℕ → Outcome → Plain → Type 0
StoppedBy p j at Went p' = Reaches p j at × ((s : PlainStream) → slice_get p.streams j ≡ Some s → p' ≡ record p { streams = slice_set p.streams j (stopped_at s at) })
StoppedBy p j at (NotNow phase) p' = Bars p j at phase × (p' ≡ p)
StoppedBy p j at _ p' = ⊥
