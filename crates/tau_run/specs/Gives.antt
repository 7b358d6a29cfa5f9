-- What a run on open streams gives, by turns or in threads: how far it has come, what it tells at its end, and what is
-- there if memory ran out before.
use Rattle.std.specs.Prelude.{ℕ, ◌<◌, ◌≤◌, ◌≡◌, ◌⊎◌, Bool, true, false, Some, List, map, length, take, slice_get, Result, Ok, Err}
use Rattle.tau_base.specs.declared.value.LogMode.{LogMode}
use Rattle.tau_base.specs.declared.value.NoMemory.{NoMemory}
use Rattle.tau_base.specs.Modes.{format_of, most_streams}
use Rattle.tau_disk.specs.declared.disk.Disk.{Ghosts}
use Rattle.tau_stream.specs.declared.writer.Writer.{Writer}
use Rattle.tau_model.specs.History.{Act}
use Rattle.tau_model.specs.Tables.{IsTablesOf}
use Rattle.tau_machine.specs.Hands.{Txn}
use Rattle.tau_machine.specs.Events.{Event}
use Rattle.tau_machine.specs.Reports.{reported}
use Rattle.tau_machine.specs.Runs as machine
use Rattle.tau_machine.specs.State.{Core, sight}
use Rattle.tau_text.specs.declared.load.Workload.{Workload}
use Rattle.tau_report.specs.declared.report.RunEnd.{RunEnd}
use Rattle.tau_core.specs.declared.opening.Opening.{Opening}
use Rattle.tau_core.specs.declared.state.Load.{Load}
use Rattle.tau_core.specs.Opens.{load_of}
use Rattle.tau_core.specs.View.{setting_of}
use Rattle.tau_run.specs.Start.{fresh_start, catalogue_of}
use Rattle.tau_run.specs.CoreRun.{AreAcks, IsFirstState, IsGiven, IsLoadOn}
use Rattle.tau_run.specs.Fates.{fates_by}
use Rattle.tau_run.specs.Heard.{Heard}
use Rattle.tau_run.specs.Keeping.{NoneLost}
use Rattle.tau_run.specs.StopsLeave.{IsOver, NamesLowest, stops_in}
use Rattle.tau_run.specs.Turns.{Progress}
use Rattle.tau_run.specs.Writers.{EachOf, Left}

-- So far a run has come, with these acknowledgements as they were told: the state that events have led to, what each stream was
-- given, and what became of the writers. The core stands on l, and the streams had these bytes when the run began. `by` says
-- how its events were chosen, of a whole run (true) or of a part.
pub record CameTo {D : Type 0} {G : Ghosts D} (by : Bool → Load → Core → Progress → Type 0) (bases : ℕ → List ℕ) (l : Load) (ws ws' : List (Writer D G)) (acks : List (ℕ × List ℕ)) : Type 0 where
  pub opening : Core
  pub first : IsFirstState l opening
  pub state : Core
  pub events : List Event
  pub joined : List (Act Txn)
  pub led : machine.Run (setting_of l) opening events joined state
  pub part : by false l opening (record { state = state; events = events; joined = joined; told = acks })
  pub contents : List (List ℕ)
  pub streams : length contents ≡ l.streams
  pub given : (j : ℕ) (content : List ℕ) → slice_get contents j ≡ Some content → IsGiven l joined state j (bases j) content
  pub acked : AreAcks l state acks
  pub room : l.streams ≤ most_streams (format_of l.mode)
  pub stop_low : (j at : ℕ) → (state.streams j).stop ≡ Some at → j < l.streams
  pub writers : EachOf (λ j w w'. Left l state j (bases j) w w') ws ws'

abbrev pub came_far : {D : Type 0} {G : Ghosts D} {by : Bool → Load → Core → Progress → Type 0} {bases : ℕ → List ℕ} {l : Load} {ws ws' : List (Writer D G)} {acks : List (ℕ × List ℕ)} → CameTo by bases l ws ws' acks → Progress
came_far {acks = acks} t = record { state = t.state; events = t.events; joined = t.joined; told = acks }

module _ {D : Type 0} {G : Ghosts D} (by : Bool → Load → Core → Progress → Type 0) (bases : ℕ → List ℕ) (l : Load) (ws ws' : List (Writer D G)) (hears : Type 0) (held held' : List ℕ) (sink_rose : Type 0) where
  -- To its end: no call was given up, and what it tells is of that state.
  pub record Concluded (end : RunEnd) : Type 0 where
    pub acks : List (ℕ × List ℕ)
    pub came : CameTo by bases l ws ws' acks
    pub whole : by true l came.opening (came_far came)
    pub over : IsOver l.streams came.state
    pub kept : NoneLost (length l.calls) came.state
    pub heard : hears → Heard held acks end.sink_failed held'
    pub sink : end.sink_failed ≡ true → sink_rose
    pub disk : NamesLowest l.streams (stops_in came.state) end.disk
    pub told : end.report.acks ≡ acks
    pub fates : end.report.fates ≡ fates_by (length l.calls) came.joined acks
    pub order : end.report.order ≡ map (λ (t : Act Txn). t.call.call.number) (reported came.state.ends came.joined)
    pub tables : IsTablesOf (sight (setting_of l) came.state).row end.report.tables

  -- So far as memory was there: the sink holds the lines of the first acknowledgements, a first part of them where it failed.
  pub record CutOff : Type 0 where
    pub acks : List (ℕ × List ℕ)
    pub came : CameTo by bases l ws ws' acks
    pub count : ℕ
    pub sink_failed : Bool
    pub heard : hears → Heard held (take count acks) sink_failed held'
    pub sink : sink_failed ≡ true → sink_rose

  -- It may have been out of memory before it began: then nothing was touched.
  abbrev pub Gave : Result RunEnd NoMemory → Type 0
  Gave (Ok end) = Concluded end
  Gave (Err e) = CutOff ⊎ ((ws' ≡ ws) × (held' ≡ held))

-- of a workload by m workers, from a given opening
abbrev pub GaveFrom : {D : Type 0} {G : Ghosts D} (by : Bool → Load → Core → Progress → Type 0) (opening : Opening) (bases : ℕ → List ℕ) (m : ℕ) (mode : LogMode) (load : Workload) (ws ws' : List (Writer D G)) (hears : Type 0) (held held' : List ℕ) (sink_rose : Type 0) →
    Result RunEnd NoMemory → Type 0
GaveFrom by opening bases m mode load ws ws' hears held held' sink_rose result = Gave by bases (load_of load.declarations.procs load.calls mode m opening) ws ws' hears held held' sink_rose result

-- of a workload by m workers, on streams that were just created for it
abbrev pub GaveNew : {D : Type 0} {G : Ghosts D} (by : Bool → Load → Core → Progress → Type 0) (m : ℕ) (mode : LogMode) (load : Workload) (ws ws' : List (Writer D G)) (hears : Type 0) (held held' : List ℕ) (sink_rose : Type 0) → Result RunEnd NoMemory → Type 0
GaveNew by m mode load ws ws' hears held held' sink_rose result =
    (l : Load) × IsLoadOn (length ws) m mode load (fresh_start (length ws)) l × Gave by (λ j. catalogue_of load) l ws ws' hears held held' sink_rose result
