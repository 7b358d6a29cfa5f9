-- What a manager's turn notes of its flushes.
use Rattle.std.specs.Prelude.{ℕ, ◌≡◌, Bool, [], ◌∷◌, ◌++◌, Result, Ok, Err}
use Rattle.tau_base.specs.declared.value.NoMemory.{NoMemory}
use Rattle.tau_core.specs.declared.state.Load.{Load}
use Rattle.tau_run.specs.Turns.{Progress}
use Rattle.tau_step.specs.declared.flushes.Flushes.{Flushes}
use Rattle.tau_step.specs.declared.manager.Managing.{Managing}
use Rattle.tau_step.specs.declared.manager.Managing.TheVariants as did
use Rattle.tau_step.specs.Counts.{flushed_in}
use Rattle.tau_step.specs.Rounding.{managed_by}
use Rattle.tau_step.specs.Device.{NotesFlush}

-- what the turn of a manager flushes
abbrev pub flushed_by_turn : ℕ → Result Managing NoMemory → Progress → Progress → Type 0
flushed_by_turn j (Ok did.Flushed) P P' = flushed_in P'.events ≡ flushed_in P.events ++ j ∷ []
flushed_by_turn j (Ok other) P P' = flushed_in P'.events ≡ flushed_in P.events
flushed_by_turn j (Err e) P P' = Unit {0}

abbrev pub managed_flushing : ℕ → Result Managing NoMemory → Bool → Load → Progress → Progress → Type 0
managed_flushing j r whole l P P' = managed_by j r whole l P P' × flushed_by_turn j r P P'

-- and what is noted of it
abbrev pub NotesTurn : ℕ → Result Managing NoMemory → Flushes → Flushes → Type 0
NotesTurn j (Ok did.Flushed) old new = NotesFlush j old new
NotesTurn j other old new = new ≡ old
