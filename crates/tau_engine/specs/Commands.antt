-- What is said of each command alone.
use Rattle.std.specs.Prelude.{ℕ, ◌<◌, ◌≤◌, ◌≡◌, ◌⊎◌, Bool, true, false, List, length, map, slice_index, Option, None, Some, Ok}
use Rattle.tau_base.specs.Modes.{format_of}
use Rattle.tau_disk.specs.declared.disk.Disk.{Ghosts}
use Rattle.tau_disk.specs.Disk.{Rose}
use Rattle.tau_disk.specs.declared.memory.MemDisk.{MemDisk}
use Rattle.tau_disk.specs.Stages.{OnlySynced}
use Rattle.tau_disk.specs.Used.{EachIn, EachUsed, AllCalls, Made}
use Rattle.tau_words.specs.declared.command.Command.{Command}
use Rattle.tau_words.specs.declared.command.Command.TheVariants.{Run, Recover, Drill, Bench, Checkpoint, Restore, Follow, Inspect, Audit}
use Rattle.tau_words.specs.declared.command.Ending.{Ending}
use Rattle.tau_text.specs.declared.load.Workload.{Workload}
use Rattle.tau_text.specs.Canonical.{declarations_text}
use Rattle.tau_scan.specs.declared.fault.LogFault.{LogFault}
use Rattle.tau_scan.specs.declared.log.Log.{Log}
use Rattle.tau_scan.specs.Begins.{begins_fault}
use Rattle.tau_scan.specs.Reading.{log_of}
use Rattle.tau_scan.specs.Taken.{Kept}
use Rattle.tau_replay.specs.Redone.{IsOrderOf}
use Rattle.tau_begin.specs.Reading.{calls_before_writes}
use Rattle.tau_commands.specs.declared.status.Status.{Status}
use Rattle.tau_commands.specs.declared.status.Status.TheVariants as status
use Rattle.tau_engine.specs.Bench.{BenchTells}
use Rattle.tau_commands.specs.Checkpoints.{OfCheckpoint, OfRestore}
use Rattle.tau_engine.specs.DiskFacts.{NextClean, NotEarlier}
use Rattle.tau_engine.specs.Drill.{DrillTells, with_turns}
use Rattle.tau_engine.specs.Opening.{EmptyAreUnborn, opening_calls}
use Rattle.tau_commands.specs.Outside.{Input, Output, HasWorkload, FailsTold, is_before_disks}
use Rattle.tau_commands.specs.Recovery.{IsUnfit, EndsAsBad, EndsTangled, images_of, OfRecover}
use Rattle.tau_engine.specs.RunSays.{IsRunRefused, RunSays}
use Rattle.tau_engine.specs.Runs.{choice_of}
use Rattle.tau_engine.specs.declared.run.Choice.{Choice}
use Rattle.tau_commands.specs.Inspecting.{OfInspect}
use Rattle.tau_commands.specs.Auditing.{OfAudit}
use Rattle.tau_commands.specs.Following.{OfFollow}
use Rattle.tau_commands.specs.Ends.{EndsWell, NoneRose, OneLine, wrote}

module _ (o : Output) (answer : Status) where
  -- The measured job tells a function of its first row and of how many calls it makes, whatever streams and workers.
  pub record OfBench (start calls : ℕ) : Type 0 where
    pub bench : BenchTells start calls (wrote o answer) answer
    pub done : (Rose o.faults o.faults' → ⊥) → EndsWell answer

module _ {D : Type 0} (G : Ghosts D) (M : Ghosts MemDisk) (s : Input) (o : Output) (old new : List D) (answer : Status) where
  -- A run goes on from what its disks hold: it ended before they were written, or it is one run on that.
  pub record OfRun (choice : Choice) : Type 0 where
    pub run : s.tells → (load : Workload) → HasWorkload s.left load → is_before_disks answer ≡ false → RunSays G choice load (record { old = old; new = new; sink = o }) answer
    -- it is refused exactly if its workload can't go on from what the disks hold
    pub bad_log : (fault : LogFault) → answer ≡ status.BadLog fault → G.tells → (load : Workload) × (s.tells → HasWorkload s.left load) × IsRunRefused (format_of choice.mode) (declarations_text load.declarations) (images_of G.seen old choice.streams) fault
    pub unfit_told : s.tells → G.tells → (load : Workload) (fault : LogFault) → HasWorkload s.left load → is_before_disks answer ≡ false → IsUnfit (format_of choice.mode) (declarations_text load.declarations) (images_of G.seen old choice.streams) fault → EndsAsBad fault answer
    pub stuck_told : s.tells → G.tells → (load : Workload) (log : Log) → HasWorkload s.left load → is_before_disks answer ≡ false → log_of (Some (format_of choice.mode)) (images_of G.seen old choice.streams) ≡ Ok log →
        begins_fault (declarations_text load.declarations) (map length (images_of G.seen old choice.streams)) log ≡ None → ((order : List Kept) → IsOrderOf log order → ⊥) → EndsTangled log answer
    -- a refusal has at most read and synced the disks, each by just these calls: a disk that fails while it is read comes before a bad log
    pub refused : (fault : LogFault) → answer ≡ status.BadLog fault → EachUsed (OnlySynced G) old new choice.streams
    pub refused_calls : (fault : LogFault) → answer ≡ status.BadLog fault → EachIn (λ j. j < choice.streams) (λ j. AllCalls G.tells G.number G.fails G.short (calls_before_writes (slice_index (map length (images_of G.seen old choice.streams)) j))) old new
    -- a disk that fails while its stream is opened is told by the one line; one that fails later is told by the report
    pub opening_fault : (j : ℕ) → answer ≡ status.DiskFault j → G.tells → FailsTold (opening_calls (map length (images_of G.seen old choice.streams)) j) (Made G.number G.short old new j) (OneLine o answer)
    -- a disk that fails while the streams are opened comes before a sink that fails
    pub write_fault_late : answer ≡ status.WriteFault → EachIn (λ j. j < choice.streams) (λ j. NextClean G.tells G.number G.fails (opening_calls (map length (images_of G.seen old choice.streams)) j)) old new
    -- so an image that a stop now may leave is one that a stop since the entry might have left
    pub moments : EmptyAreUnborn G old choice.streams → EachUsed (NotEarlier G.tells G.moment) old new choice.streams
    -- where nothing is amiss, the work is done
    pub done : s.tells → G.tells → (load : Workload) (log : Log) (order : List Kept) → HasWorkload s.left load → log_of (Some (format_of choice.mode)) (images_of G.seen old choice.streams) ≡ Ok log → IsOrderOf log order →
        begins_fault (declarations_text load.declarations) (map length (images_of G.seen old choice.streams)) log ≡ None → (s.rose → ⊥) → NoneRose G o old new answer choice.streams → EndsWell answer

  -- A drill tells of the run by turns on disks of its own that fail exactly as it says, and of what recovery finds on them.
  pub record OfDrill (n m : ℕ) (ending : Ending) : Type 0 where
    pub drill : s.tells → (load : Workload) → HasWorkload s.left load → DrillTells M n m ending (with_turns load) (wrote o answer) answer
    pub done : s.tells → (load : Workload) → HasWorkload s.left load → (s.rose → ⊥) → (Rose o.faults o.faults' → ⊥) → EndsWell answer

  -- a case each
  abbrev pub Of : Option Command → Type 0
  Of None = Unit {0}
  Of (Some (Run n m mode optimistic)) = OfRun (choice_of n m mode optimistic)
  Of (Some (Recover n p)) = OfRecover G o old new answer n
  Of (Some (Drill n m p ending)) = OfDrill n m ending
  Of (Some (Bench start calls n m)) = OfBench o answer start calls
  Of (Some (Checkpoint n p)) = OfCheckpoint G o old new answer n
  Of (Some (Restore n p)) = OfRestore G o old new answer n
  Of (Some (Follow n)) = OfFollow s o answer n
  Of (Some (Inspect n)) = OfInspect G o old new answer n
  Of (Some (Audit n m)) = OfAudit G s o old new answer n m
