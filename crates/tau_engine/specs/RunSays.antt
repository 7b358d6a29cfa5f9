-- All that is said of a call that was to run a workload: it ended before its disks were written, or it is one run on what
-- they held.
use Rattle.std.specs.Prelude.{ℕ, ◌<◌, ◌≤◌, ◌≡◌, ◌⊎◌, None, Some, Ok, Err, List, [], length, map, drop, slice_index, slice_index_or}
use Rattle.tau_base.specs.declared.format.Format.{Format}
use Rattle.tau_base.specs.Modes.{format_of}
use Rattle.tau_block.specs.Image.{HasContent}
use Rattle.tau_disk.specs.declared.disk.Disk.{Ghosts}
use Rattle.tau_disk.specs.Disk.{Rose}
use Rattle.tau_disk.specs.Stages.{OnlySynced}
use Rattle.tau_disk.specs.Used.{EachIn, EachUsed, RoseAt, AllCalls, IsClean, IsFirstStopped, Made}
use Rattle.tau_record.specs.Content.{anchors_of}
use Rattle.tau_text.specs.declared.load.Workload.{Workload}
use Rattle.tau_text.specs.Canonical.{declarations_text}
use Rattle.tau_scan.specs.declared.fault.LogFault.{LogFault}
use Rattle.tau_scan.specs.declared.log.Log.{Log}
use Rattle.tau_scan.specs.Begins.{begins_fault}
use Rattle.tau_scan.specs.Reading.{contents_of, log_of}
use Rattle.tau_scan.specs.Sound.{IsSound}
use Rattle.tau_run.specs.Outside.{Outside}
use Rattle.tau_run.specs.RunFacts.{WroteFront, RunFacts}
use Rattle.tau_run.specs.Start.{Start, IsStart, opened_at}
use Rattle.tau_begin.specs.Barrier.{IsBarrier}
use Rattle.tau_begin.specs.Opened.{IsRefusedOn}
use Rattle.tau_begin.specs.Reading.{calls_before_writes}
use Rattle.tau_crew_facts.specs.Spacing.{AreSpaced}
use Rattle.tau_commands.specs.declared.status.Status.{Status}
use Rattle.tau_commands.specs.declared.status.Status.TheVariants as status
use Rattle.tau_engine.specs.DiskFacts.{DisksWorked, NextClean, Now, ending_of}
use Rattle.tau_commands.specs.Fault.{fault_text}
use Rattle.tau_engine.specs.Opening.{opening_calls, HasBarrier, IsUnwritten, SinceBarrier, EmptyAreUnborn}
use Rattle.tau_commands.specs.Outside.{Wrote}
use Rattle.tau_commands.specs.Recovery.{images_of}
use Rattle.tau_engine.specs.Runs.{DisksAndSink, ran_by}
use Rattle.tau_engine.specs.declared.run.Choice.{Choice}

-- the image of stream j has a content, and the anchors of the run that are read of it stand in their distance, the first
-- of them from where the stream was opened
abbrev pub HasSpacedOn : Format → ℕ → ℕ → Workload → Start → List ℕ → Type 0
HasSpacedOn f n j load start x =
    (content : List ℕ) × HasContent f n j content x × AreSpaced f n j (length (anchors_of (slice_index_or start.log.streams j []))) (length (opened_at load start j)) content

-- the images hold no log, or one on which the run of a workload with this text of declarations cannot begin
abbrev pub IsRunRefused : Format → List ℕ → List (List ℕ) → LogFault → Type 0
IsRunRefused f text images fault = (log_of (Some f) images ≡ Err fault) ⊎ ((log : Log) × (log_of (Some f) images ≡ Ok log) × IsRefusedOn text (map length images) log fault)

-- a run that has begun ends so
abbrev pub EndsRun : Status → Type 0
EndsRun status.Ok = Unit {0}
EndsRun status.NoMemory = Unit {0}
EndsRun status.WriteFault = Unit {0}
EndsRun (status.DiskFault j) = Unit {0}
EndsRun _ = ⊥

-- a call that was to run may end so
abbrev pub MayEnd : Status → Type 0
MayEnd status.Ok = Unit {0}
MayEnd status.NoMemory = Unit {0}
MayEnd status.WriteFault = Unit {0}
MayEnd (status.DiskFault j) = Unit {0}
MayEnd (status.BadLog fault) = Unit {0}
MayEnd _ = ⊥

-- what the call knows of a run on streams that held this, of whose disks these are the barriers
abbrev pub outside_of : {D : Type 0} → Ghosts D → ℕ → Format → DisksAndSink D → Start → (ℕ → ℕ) → Outside
outside_of G n f w start barrier = record {
  start = start;
  began_in_order = EmptyAreUnborn G w.old n × IsSound f start.old start.log start.base;
  may_have_left = SinceBarrier G barrier w.old w.new;
  may_leave = Now G.tells G.may_leave w.old w.new;
  disk_rose = RoseAt G.faults w.old w.new;
  sink_rose = Rose w.sink.faults w.sink.faults';
  opening_calls = opening_calls (map length (images_of G.seen w.old n));
  had_calls = λ j k. G.tells → Made G.number G.short w.old w.new j k;
  wrote = Wrote w.sink.hears w.sink.held w.sink.held';
  fault_line = λ j. fault_text (status.DiskFault j);
}

module _ {D : Type 0} (G : Ghosts D) (choice : Choice) (load : Workload) (w : DisksAndSink D) (answer : Status) where
  abbrev pub images : List (List ℕ)
  images = images_of G.seen w.old choice.streams

  abbrev pub sizes : List ℕ
  sizes = map length images

  abbrev pub OneLine : Type 0
  OneLine = WroteFront (Wrote w.sink.hears w.sink.held w.sink.held') (Rose w.sink.faults w.sink.faults') (fault_text answer)

  -- how a call ended that wrote nothing on its disks
  abbrev pub EndsUnwritten : Status → Type 0
  EndsUnwritten status.NoMemory = Wrote w.sink.hears w.sink.held w.sink.held' []
  EndsUnwritten (status.DiskFault j) = (G.tells → (k : ℕ) × (k ≤ calls_before_writes (slice_index sizes j)) × Made G.number G.short w.old w.new j k) × OneLine
  EndsUnwritten (status.BadLog fault) = OneLine
  EndsUnwritten _ = ⊥

  -- The disks were at most read and synced. Since its barrier a stop leaves of a disk what a read gives, whatever the answer: so
  -- once all were read it is what they held. At a bad log all were read.
  pub record OnlyOpened : Type 0 where
    pub ends : EndsUnwritten answer
    pub only : EachUsed (OnlySynced G) w.old w.new choice.streams
    pub barrier : ℕ → ℕ
    pub barred : EachIn (λ j. j < choice.streams) (λ j d e. G.tells → HasBarrier G d e → IsUnwritten G (barrier j) d e) w.old w.new
    pub read : (fault : LogFault) → answer ≡ status.BadLog fault → EachIn (λ j. j < choice.streams) (λ j d e. G.tells → IsUnwritten G (barrier j) d e) w.old w.new

  -- no call that opens a stream was to fail
  abbrev pub OpenedClean : Type 0
  OpenedClean = EachIn (λ j. j < choice.streams) (λ j. NextClean G.tells G.number G.fails (opening_calls sizes j)) w.old w.new

  -- the disk failed once all was read, by a call that starts its stream, and one line was written
  abbrev pub FailsStarting : ℕ → Type 0
  FailsStarting j = ((k : ℕ) × (calls_before_writes (slice_index sizes j) < k) × (k ≤ opening_calls sizes j) × (G.tells → Made G.number G.short w.old w.new j k)) × OneLine

  -- all was read, and this is one run on it
  pub record HasRun : Type 0 where
    pub ends : EndsRun answer
    -- what the disks held, on which such a run may begin
    pub start : Start
    pub begins : IsStart (format_of choice.mode) choice.streams load start
    pub contents : G.tells → contents_of (format_of choice.mode) images ≡ Ok start.old
    pub fits : G.tells → begins_fault (declarations_text load.declarations) sizes start.log ≡ None
    -- the barrier of each disk
    pub barrier : ℕ → ℕ
    pub barriers : EmptyAreUnborn G w.old choice.streams → EachIn (λ j. j < choice.streams) (λ j d e. G.tells → IsBarrier G (barrier j) d e) w.old w.new
    pub facts : RunFacts (ran_by load.turns choice.style choice.streams choice.workers load) choice.streams choice.workers choice.mode load (outside_of G choice.streams (format_of choice.mode) w start barrier) (ending_of answer)
    -- a disk that fails while the streams are opened comes before one that fails later
    pub fails : (j : ℕ) → answer ≡ status.DiskFault j → FailsStarting j ⊎ OpenedClean
    -- in threads, if the run went to its end and no disk failed, its anchors stand in their distance, also if the sink failed
    pub spaced : load.turns ≡ None → DisksWorked choice.streams (RoseAt G.faults w.old w.new) answer → (j : ℕ) (x : List ℕ) → j < choice.streams → Now G.tells G.may_leave w.old w.new j x → HasSpacedOn (format_of choice.mode) choice.streams j load start x

  pub record RunSays : Type 0 where
    pub tells : OnlyOpened ⊎ HasRun
    pub kind : MayEnd answer
    pub disk : (j : ℕ) → answer ≡ status.DiskFault j → (j < choice.streams) × RoseAt G.faults w.old w.new j
    pub stopped : (j : ℕ) → answer ≡ status.DiskFault j → G.tells → IsFirstStopped G.tells G.number G.fails G.short w.old w.new j
    pub clean : answer ≡ status.Ok → EachUsed (IsClean G.tells G.number G.fails) w.old w.new choice.streams
    pub sink : answer ≡ status.WriteFault → Rose w.sink.faults w.sink.faults'
    -- a disk that fails while the streams are opened comes before a sink that fails
    pub opened : answer ≡ status.WriteFault → OpenedClean
    pub bad_log : (fault : LogFault) → answer ≡ status.BadLog fault → G.tells → IsRunRefused (format_of choice.mode) (declarations_text load.declarations) images fault
    -- a disk that fails while it is read comes before a bad log
    pub read_alone : (fault : LogFault) → answer ≡ status.BadLog fault → EachIn (λ j. j < choice.streams) (λ j. AllCalls G.tells G.number G.fails G.short (calls_before_writes (slice_index sizes j))) w.old w.new
    pub rest : drop choice.streams w.new ≡ drop choice.streams w.old
