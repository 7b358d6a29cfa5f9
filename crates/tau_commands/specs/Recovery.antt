-- What recovery tells of the images that the disks give, and why images are refused.
use Rattle.std.specs.Prelude.{ℕ, ◌≡◌, ◌<◌, ◌⊎◌, List, [], length, take, map, Some, None, Ok, Err}
use Rattle.tau_base.specs.declared.format.Format.{Format}
use Rattle.tau_base.specs.declared.value.Key.{Key}
use Rattle.tau_base.specs.declared.value.Value.{Value}
use Rattle.tau_scan.specs.declared.log.Log.{Log}
use Rattle.tau_scan.specs.declared.fault.LogFault.{LogFault}
use Rattle.tau_scan.specs.declared.fault.LogCause.TheVariants as cause
use Rattle.tau_scan.specs.Begins.{begins_fault}
use Rattle.tau_scan.specs.Reading.{log_of}
use Rattle.tau_replay.specs.Redone.{IsRedone, IsTangledAt, IsOrderOf}
use Rattle.tau_report.specs.Recovery.{recover_text}
use Rattle.tau_commands.specs.declared.status.Status.{Status}
use Rattle.tau_commands.specs.declared.status.Status.TheVariants as status
use Rattle.tau_disk.specs.declared.disk.Disk.{Ghosts}
use Rattle.tau_scan.specs.Taken.{Kept}
use Rattle.tau_commands.specs.Outside.{Output}
use Rattle.tau_commands.specs.Ends.{EndsWell, NoneRose, wrote}

-- the images of the first disks, as a read gives them
abbrev pub images_of : {D : Type 0} → (D → List ℕ) → List D → ℕ → List (List ℕ)
images_of seen disks n = map seen (take n disks)

-- this is the text of what recovery finds in the log: its end-of-log vector, what it takes, and the rows of redoing that
pub record IsRecoveryOf (log : Log) (text : List ℕ) : Type 0 where
  pub rows : List (Key × Value)
  pub redone : IsRedone log rows
  pub text_is : text ≡ recover_text log rows

-- what is written of a log, by how recovery ended: the text, a first part of it, or nothing
abbrev pub LogTells : Log → (List ℕ → Type 0) → Status → Type 0
LogTells log wrote status.Ok = (text : List ℕ) × IsRecoveryOf log text × wrote text
LogTells log wrote status.WriteFault = (text : List ℕ) × (k : ℕ) × IsRecoveryOf log text × (k < length text) × wrote (take k text)
LogTells log wrote status.NoMemory = wrote []
LogTells log wrote other = Unit {0}

-- redoing this log gets stuck, and the fault tells where
abbrev pub IsTangle : Log → LogFault → Type 0
IsTangle log fault = (at : ℕ) × (fault.cause ≡ cause.Tangled at) × IsTangledAt log fault.stream at

-- the images are refused for this fault
abbrev pub IsBadLog : List (List ℕ) → LogFault → Type 0
IsBadLog images fault = (log_of None images ≡ Err fault) ⊎ ((log : Log) × (log_of None images ≡ Ok log) × IsTangle log fault)

-- the first cause of these images for which a run is refused whose workload has this text of declarations: they hold no log
-- in this format, or one that it cannot go on from
abbrev pub IsUnfit : Format → List ℕ → List (List ℕ) → LogFault → Type 0
IsUnfit f text images fault = (log_of (Some f) images ≡ Err fault) ⊎ ((log : Log) × (log_of (Some f) images ≡ Ok log) × (begins_fault text (map length images) log ≡ Some fault))

-- what recovery writes of these images, where they hold a log
abbrev pub RecoverTells : List (List ℕ) → (List ℕ → Type 0) → Status → Type 0
RecoverTells images wrote status.Ok = (log : Log) × (log_of None images ≡ Ok log) × LogTells log wrote status.Ok
RecoverTells images wrote status.WriteFault = (log : Log) × (log_of None images ≡ Ok log) × LogTells log wrote status.WriteFault
RecoverTells images wrote status.NoMemory = wrote []
RecoverTells images wrote other = Unit {0}

-- the answer is this refusal, unless memory ran out or a disk failed
abbrev pub EndsAsBad : LogFault → Status → Type 0
EndsAsBad fault status.NoMemory = Unit {0}
EndsAsBad fault (status.DiskFault j) = Unit {0}
EndsAsBad fault (status.BadLog other) = other ≡ fault
EndsAsBad fault other = ⊥

-- the answer tells where the log is stuck, unless memory ran out or a disk failed
abbrev pub EndsTangled : Log → Status → Type 0
EndsTangled log status.NoMemory = Unit {0}
EndsTangled log (status.DiskFault j) = Unit {0}
EndsTangled log (status.BadLog fault) = IsTangle log fault
EndsTangled log other = ⊥

module _ {D : Type 0} (G : Ghosts D) (o : Output) (old new : List D) (answer : Status) where
  -- Recovery is a function of what the disks read.
  pub record OfRecover (n : ℕ) : Type 0 where
    pub recover : G.tells → RecoverTells (images_of G.seen old n) (wrote o answer) answer
    pub bad_log : (fault : LogFault) → answer ≡ status.BadLog fault → G.tells → IsBadLog (images_of G.seen old n) fault
    pub bad_log_told : G.tells → (fault : LogFault) → log_of None (images_of G.seen old n) ≡ Err fault → EndsAsBad fault answer
    pub tangled_told : G.tells → (log : Log) → log_of None (images_of G.seen old n) ≡ Ok log → ((order : List Kept) → IsOrderOf log order → ⊥) → EndsTangled log answer
    pub done : G.tells → (log : Log) (order : List Kept) → log_of None (images_of G.seen old n) ≡ Ok log → IsOrderOf log order → NoneRose G o old new answer n → EndsWell answer
