-- What an inspection tells.
use Rattle.std.specs.Prelude.{ℕ, ◌<◌, ◌≡◌, List, [], ◌∷◌, length, take, None, Ok, Err}
use Rattle.tau_disk.specs.declared.disk.Disk.{Ghosts}
use Rattle.tau_disk.specs.Disk.{Rose}
use Rattle.tau_disk.specs.Used.{RoseAt}
use Rattle.tau_model.specs.History.{Member}
use Rattle.tau_scan.specs.declared.fault.LogFault.{LogFault}
use Rattle.tau_scan.specs.declared.log.Log.{Log}
use Rattle.tau_scan.specs.Reading.{log_of}
use Rattle.tau_inspect.specs.Inspection.{inspect_text}
use Rattle.tau_commands.specs.declared.status.Status.{Status}
use Rattle.tau_commands.specs.declared.status.Status.TheVariants as status
use Rattle.tau_commands.specs.Outside.{Output, Wrote}
use Rattle.tau_commands.specs.Recovery.{EndsAsBad, images_of}

-- what is written, by how the call ended, of a call that does its work by writing this text alone: the text, a first part of
-- it if the sink failed, or nothing
abbrev pub TellsText : List ℕ → (List ℕ → Type 0) → Status → Type 0
TellsText text wrote status.Ok = wrote text
TellsText text wrote status.WriteFault = (k : ℕ) × (k < length text) × wrote (take k text)
TellsText text wrote status.NoMemory = wrote []
TellsText text wrote other = Unit {0}

-- what an inspection writes of these images
abbrev pub InspectTells : List (List ℕ) → (List ℕ → Type 0) → Status → Type 0
InspectTells images wrote status.Ok = (log : Log) × (log_of None images ≡ Ok log) × TellsText (inspect_text log) wrote status.Ok
InspectTells images wrote status.WriteFault = (log : Log) × (log_of None images ≡ Ok log) × TellsText (inspect_text log) wrote status.WriteFault
InspectTells images wrote other = Unit {0}

-- An inspection is a function of what the disks read. It redoes nothing, so that no log is tangled for it.
pub record OfInspect {D : Type 0} (G : Ghosts D) (o : Output) (old new : List D) (answer : Status) (n : ℕ) : Type 0 where
  pub inspect : G.tells → InspectTells (images_of G.seen old n) (Wrote o.hears o.held o.held') answer
  pub bad_log : (fault : LogFault) → answer ≡ status.BadLog fault → G.tells → log_of None (images_of G.seen old n) ≡ Err fault
  pub bad_log_told : G.tells → (fault : LogFault) → log_of None (images_of G.seen old n) ≡ Err fault → EndsAsBad fault answer
  pub done : G.tells → (log : Log) → log_of None (images_of G.seen old n) ≡ Ok log → (Rose o.faults o.faults' → ⊥) → ((j : ℕ) → j < n → RoseAt G.faults old new j → ⊥) → Member answer (status.Ok ∷ status.NoMemory ∷ [])
