-- What a run on open streams leaves and tells.
use Rattle.std.specs.Prelude.{ℕ, ◌<◌, ◌≤◌, ◌≡◌, ◌⊎◌, Bool, true, false, List, ◌++◌, length, map, take, Option, Some, None, Result, Ok, Err}
use Rattle.tau_base.specs.declared.value.LogMode.{LogMode}
use Rattle.tau_base.specs.declared.value.NoMemory.{NoMemory}
use Rattle.tau_disk.specs.Disk.{Rose}
use Rattle.tau_disk.specs.declared.disk.Disk.{Ghosts}
use Rattle.tau_stream.specs.declared.writer.Writer.{Writer}
use Rattle.tau_stream.specs.Writer.{disk_of}
use Rattle.tau_machine.specs.State.{Core}
use Rattle.tau_core.specs.declared.opening.Opening.{Opening}
use Rattle.tau_core.specs.declared.state.Load.{Load}
use Rattle.tau_run.specs.Gives.{GaveFrom}
use Rattle.tau_occ.specs.declared.style.Style.{Style}
use Rattle.tau_occ.specs.declared.style.Style.TheVariants.{Locking, Optimistic}
use Rattle.tau_run.specs.RunFacts.{by_turns}
use Rattle.tau_run.specs.Turns.{Progress}
use Rattle.tau_crew_facts.specs.Threads.{in_threads}
use Rattle.tau_text.specs.declared.load.Turn.{Turn}
use Rattle.tau_text.specs.declared.load.Workload.{Workload}
use Rattle.tau_report.specs.declared.report.RunEnd.{RunEnd}
use Rattle.tau_report.specs.Report.{rest_text}
use Rattle.tau_commands.specs.declared.status.Status.{Status}
use Rattle.tau_commands.specs.declared.status.Status.TheVariants as status
use Rattle.tau_commands.specs.Outside.{Output, Wrote}
use Rattle.tau_engine.specs.declared.run.Choice.{Choice}

-- how the workers of a run go about their locks, with the word `optimistic` and without it
abbrev pub style_of : Bool → Style
style_of true = Optimistic
style_of false = Locking

-- what the words of a run choose
abbrev pub choice_of : ℕ → ℕ → LogMode → Bool → Choice
choice_of n m mode optimistic = record { streams = n; workers = m; mode = mode; style = style_of optimistic }

-- How the events of a run are chosen: by turns if the workload has them, also none, else in threads.
abbrev pub ran_by : Option (List Turn) → Style → ℕ → ℕ → Workload → Bool → Load → Core → Progress → Type 0
ran_by None style n m load = in_threads style
ran_by (Some turns) style n m load = by_turns style n m load

-- The disks of a call and its sink, before it and after it.
pub record DisksAndSink (D : Type 0) : Type 1 where
  pub old : List D
  pub new : List D
  pub sink : Output

-- What was told after the acknowledgements of a run that went to its end, by the answer: the rest of the report, a
-- first part of it where the sink failed, and nothing where it had failed before.
abbrev pub TellsEnd : List (List ℕ) → RunEnd → Type 0 → List ℕ → List ℕ → Type 0 → Status → Type 0
TellsEnd tables end hears held held' rose status.Ok = (end.sink_failed ≡ false) × (end.disk ≡ None) × Wrote hears held held' (rest_text tables end.report None)
TellsEnd tables end hears held held' rose (status.DiskFault j) = (end.sink_failed ≡ false) × (end.disk ≡ Some j) × Wrote hears held held' (rest_text tables end.report (Some j))
TellsEnd tables end hears held held' rose status.WriteFault = ((end.sink_failed ≡ true) × (held' ≡ held))
    ⊎ ((end.sink_failed ≡ false) × rose × ((k : ℕ) × (k < length (rest_text tables end.report end.disk)) × Wrote hears held held' (take k (rest_text tables end.report end.disk))))
TellsEnd tables end hears held held' rose status.NoMemory = (end.sink_failed ≡ false) × (held' ≡ held)
TellsEnd tables end hears held held' rose other = ⊥

-- the same where memory ran out before its end
abbrev pub TellsRun : List (List ℕ) → Result RunEnd NoMemory → Type 0 → List ℕ → List ℕ → Type 0 → Status → Type 0
TellsRun tables (Ok end) hears held held' rose answer = TellsEnd tables end hears held held' rose answer
TellsRun tables (Err e) hears held held' rose answer = (answer ≡ status.NoMemory) × (held' ≡ held)

-- The run on these writers from a given opening, on streams that had these bytes: their disks stand in front of the others,
-- and what it told is after what the sink held.
pub record RunsFrom {D : Type 0} {G : Ghosts D} (choice : Choice) (load : Workload) (o : Opening) (bases : ℕ → List ℕ) (ws : List (Writer D G)) (w : DisksAndSink D) (answer : Status) : Type 0 where
  pub after : List (Writer D G)
  pub back : w.new ≡ map disk_of after ++ w.old
  -- what the sink held after the run, and how often it had failed
  pub mid : List ℕ
  pub count : ℕ
  pub early : w.sink.faults ≤ count
  pub late : count ≤ w.sink.faults'
  pub end : Result RunEnd NoMemory
  pub ran : GaveFrom (ran_by load.turns choice.style (length o.ends) choice.workers load) o bases choice.workers choice.mode load ws after w.sink.hears w.sink.held mid (Rose w.sink.faults count) end
  pub told : TellsRun load.declarations.tables end w.sink.hears mid w.sink.held' (Rose count w.sink.faults') answer
