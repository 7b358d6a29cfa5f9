-- What is said of every command that at most reads the first disks and tells of them, and of every one that reads its source.
use Rattle.std.specs.Prelude.{ℕ, ◌+◌, ◌<◌, ◌≤◌, ◌≡◌, true, List, [], ◌∷◌, drop, Option}
use Rattle.tau_base.specs.declared.limits.TheConstants.{MAX_WORKLOAD}
use Rattle.tau_model.specs.History.{Member}
use Rattle.tau_words.specs.declared.command.Command.{Command}
use Rattle.tau_disk.specs.declared.disk.Disk.{Ghosts}
use Rattle.tau_disk.specs.Disk.{Rose}
use Rattle.tau_disk.specs.Used.{EachUsed, RoseAt, OnlyRead, AllCalls, IsClean, IsFirstStopped}
use Rattle.tau_scan.specs.Outside.{calls_to_read}
use Rattle.tau_commands.specs.declared.status.Status.{Status}
use Rattle.tau_commands.specs.declared.status.Status.TheVariants as status
use Rattle.tau_commands.specs.Ends.{wrote, OneLine}
use Rattle.tau_commands.specs.Fault.{is_refusal}
use Rattle.tau_commands.specs.Sources.{HasSource, RefusesSource, is_of_source}
use Rattle.tau_commands.specs.Outside.{Input, Output, ends_recovery, is_behind_text, is_behind_end, is_behind_reading}

-- The call at most read the first n disks, and each of its answers has its cause.
pub record HasOnlyRead {D : Type 0} (G : Ghosts D) (o : Output) (old new : List D) (answer : Status) (n : ℕ) : Type 0 where
  pub kind : ends_recovery answer ≡ true
  pub disk : (j : ℕ) → answer ≡ status.DiskFault j → (j < n) × RoseAt G.faults old new j
  pub stopped : (j : ℕ) → answer ≡ status.DiskFault j → G.tells → IsFirstStopped G.tells G.number G.fails G.short old new j
  pub calls : is_behind_reading answer ≡ true → EachUsed (AllCalls G.tells G.number G.fails G.short calls_to_read) old new n
  pub refusal : is_refusal answer ≡ true → OneLine o answer
  pub disk_line : (j : ℕ) → answer ≡ status.DiskFault j → OneLine o answer
  pub sink : answer ≡ status.WriteFault → Rose o.faults o.faults'
  pub silent : answer ≡ status.NoMemory → wrote o answer []
  pub read : EachUsed (OnlyRead G.tells G.seen G.may_leave G.moment G.may_leave_since) old new n
  pub rest : drop n new ≡ drop n old

-- The source was read for this command, and each answer that tells of it has its cause.
pub record HasReadSource (s : Input) (command : Option Command) (answer : Status) : Type 0 where
  pub read_fault : answer ≡ status.ReadFault → s.rose
  pub bad_source : is_of_source answer ≡ true → s.tells → RefusesSource command s.left answer
  pub bad_source_told : s.tells → (refusal : Status) → RefusesSource command s.left refusal → Member answer (refusal ∷ status.ReadFault ∷ status.NoMemory ∷ [])
  pub behind_text : is_behind_text answer ≡ true → s.tells → HasSource command s.left
  pub source : s.tells → (k : ℕ) × (k ≤ MAX_WORKLOAD + 1) × (s.left' ≡ drop k s.left)
  pub source_end : s.tells → is_behind_end answer ≡ true → s.left' ≡ []
