-- All that is said of a run that has come so far, whatever it began on, by what stops may leave.
use Rattle.std.proofs.Common.{ℕ, ◌<◌, ◌≤◌, ◌≡◌, inl, inr, Bool, true, false, List, length, map, refl, sym, ap, subst, ◌∙◌, arith}
use Rattle.std.specs.Prelude.{None, Result, Ok, Err}
use Rattle.tau_base.specs.declared.value.Call.{Call}
use Rattle.tau_base.specs.declared.value.LogMode.{LogMode}
use Rattle.tau_base.specs.declared.value.NoMemory.{NoMemory}
use Rattle.tau_base.specs.Modes.{format_of, most_streams}
use Rattle.tau_disk.specs.declared.disk.Disk.{Ghosts}
use Rattle.tau_stream.specs.declared.writer.Writer.{Writer}
use Rattle.tau_machine.proofs.Results.{run_theorem}
use Rattle.tau_machine.specs.Reports.{reported}
use Rattle.tau_machine.specs.State.{Core}
use Rattle.tau_text.specs.declared.load.Workload.{Workload}
use Rattle.tau_report.specs.declared.report.RunEnd.{RunEnd}
use Rattle.tau_core.specs.declared.state.Load.{Load}
use Rattle.tau_core.specs.View.{setting_of}
use Rattle.tau_scan.specs.Sound.{IsSound}
use Rattle.tau_run.specs.Start.{Start, old_at, opened_at, IsStart}
use Rattle.tau_run.specs.Run.{Run, AllAcked, told_of}
use Rattle.tau_run.specs.CoreRun.{IsCourse, IsLoadOn, IsRunOf, IsSoundLoad}
use Rattle.tau_run.specs.Gives.{CameTo, came_far, Gave}
use Rattle.tau_run.specs.Keeping.{NoneLost}
use Rattle.tau_run.specs.Outside.{Outside}
use Rattle.tau_run.specs.RecoveredFacts.{IsEnded}
use Rattle.tau_run.specs.RunFacts.{Ending, IsCoreRun, IsCoreRunAt, RunTells, RunFacts}
use Rattle.tau_run.specs.StopsLeave.{IsLeft, IsOver, stops_in}
use Rattle.tau_run.specs.Turns.{Progress}
use Rattle.tau_run.proofs.Imaged.{Leaves, imaged, acknowledged, ended}
use Rattle.tau_run.proofs.Kept.{kept_acked}
use Rattle.tau_run.proofs.Results.{history_law}
use Rattle.tau_run.proofs.Waits.{waits_for}

-- ---- the same run by other words for how its events were chosen

-- whatever was chosen by the first words was also chosen by the others
abbrev pub Also : Load → (by by' : Bool → Load → Core → Progress → Type 0) → Type 0
Also l by by' = (whole : Bool) (opening : Core) (p : Progress) → by whole l opening p → by' whole l opening p

abbrev pub came_by : {D : Type 0} {G : Ghosts D} {by by' : Bool → Load → Core → Progress → Type 0} {bases : ℕ → List ℕ} {l : Load} {ws ws' : List (Writer D G)} {acks : List (ℕ × List ℕ)} → CameTo by bases l ws ws' acks → Also l by by' → CameTo by' bases l ws ws' acks
came_by {acks = acks} t also = record {
  opening = t.opening;
  first = t.first;
  state = t.state;
  events = t.events;
  joined = t.joined;
  led = t.led;
  part = also false t.opening (record { state = t.state; events = t.events; joined = t.joined; told = acks }) t.part;
  contents = t.contents;
  streams = t.streams;
  given = t.given;
  acked = t.acked;
  room = t.room;
  stop_low = t.stop_low;
  writers = t.writers;
}

-- What a run had around it: what its streams held when it began, the load that its core stands on, its writers and its sink,
-- before and after.
pub record Around {D : Type 0} (G : Ghosts D) : Type 1 where
  pub bases : ℕ → List ℕ
  pub load : Load
  pub before : List (Writer D G)
  pub after : List (Writer D G)
  pub hears : Type 0
  pub held_before : List ℕ
  pub held_after : List ℕ
  pub sink_rose : Type 0

module _ {D : Type 0} {G : Ghosts D} (a : Around G) (by by' : Bool → Load → Core → Progress → Type 0) (also : Also a.load by by') where
  pub gave_by : (result : Result RunEnd NoMemory) → Gave by a.bases a.load a.before a.after a.hears a.held_before a.held_after a.sink_rose result → Gave by' a.bases a.load a.before a.after a.hears a.held_before a.held_after a.sink_rose result
  gave_by (Ok end) c = record {
    acks = c.acks;
    came = came_by c.came also;
    whole = also true c.came.opening (came_far c.came) c.whole;
    over = c.over;
    kept = c.kept;
    heard = c.heard;
    sink = c.sink;
    disk = c.disk;
    told = c.told;
    fates = c.fates;
    order = c.order;
    tables = c.tables;
  }
  gave_by (Err no_memory) (inl c) = inl (record { acks = c.acks; came = came_by c.came also; count = c.count; sink_failed = c.sink_failed; heard = c.heard; sink = c.sink })
  gave_by (Err no_memory) (inr none) = inr none

-- ---- on streams that begin so

-- The workload can be run from this start, and the core stands on just that.
pub record BeginsOn (n m : ℕ) (mode : LogMode) (load : Workload) (start : Start) (l : Load) : Type 0 where
  pub begins : IsStart (format_of mode) n load start
  pub sound : IsSoundLoad load
  pub load_is : IsLoadOn n m mode load start l

module _ {D : Type 0} {G : Ghosts D} {by : Bool → Load → Core → Progress → Type 0} {n m : ℕ} {mode : LogMode} {load : Workload} {start : Start} {l : Load} {ws ws' : List (Writer D G)} {acks : List (ℕ × List ℕ)} (on : BeginsOn n m mode load start l)
    (t : CameTo by (opened_at load start) l ws ws' acks) where
  -- the run that it has made
  abbrev pub run_of : Run
  run_of = record { start = start; calls = map told_of (reported t.state.ends t.joined); contents = t.contents; acks = acks }

  pub is_run : IsRunOf n l t.joined t.state load run_of
  is_run = record { calls = refl; streams = t.streams ∙ on.load_is.streams; given = t.given; acks = t.acked }

  pub course : IsCourse n m mode load start l t.joined t.state
  course = record {
    room = subst (λ (k : ℕ). k ≤ most_streams (format_of l.mode)) on.load_is.streams t.room;
    begins = subst (λ (k : LogMode). IsStart (format_of k) n load start) (sym on.load_is.mode_is) on.begins;
    load_is = on.load_is;
    sound = on.sound;
    inv = run_theorem (setting_of l) t.opening t.events t.joined t.state t.led;
    waits = waits_for n m mode load start l t.opening t.events t.joined t.state on.load_is t.led t.first;
  }

  pub core_run : (whole : Bool) → by whole l t.opening (came_far t) → IsCoreRun (by whole) n m mode load (stops_in t.state) run_of
  core_run whole h = record {
    stands_on = l;
    load_is = on.load_is;
    opening = t.opening;
    first = t.first;
    progress = came_far t;
    led = t.led;
    chosen = h;
    is = is_run;
    told = refl;
    stopped = λ j lt. refl;
  }

  -- no call of the workload is lost, if none was given up
  pub complete : IsOver n t.state → NoneLost (length l.calls) t.state → ((j : ℕ) → j < n → (t.state.streams j).stop ≡ None) → AllAcked load run_of
  complete over kept going =
      kept_acked n m mode load l t.joined t.state run_of course is_run over
      (λ k low high. kept k low (let calls : length l.calls ≡ length load.calls = ap (length {A = Call}) on.load_is.calls in omega (arith, high, calls))) going

  -- what is known of it outside
  pub facts_of : (o : Outside) → start ≡ o.start → Leaves n (opened_at load start) l t.state o.may_leave o.disk_rose →
      (o.began_in_order → IsSound (format_of mode) start.old start.log start.base × ((j : ℕ) (x : List ℕ) → j < n → o.may_have_left j x → IsLeft n j (old_at start j) (opened_at load start j) l t.state x)) →
      (ending : Ending) → IsCoreRunAt by n m mode load (stops_in t.state) run_of ending → RunTells n mode load o (stops_in t.state) run_of ending → RunFacts by n m mode load o ending
  facts_of o begun leaves left ending core told = record {
    run = run_of;
    begins = begun;
    history = history_law n m mode load l t.joined t.state run_of course is_run;
    stops = stops_in t.state;
    core = core;
    stopped = leaves.stopped;
    told = told;
    imaged = imaged n m mode load l t.joined t.state run_of course is_run o.began_in_order o.may_have_left left;
    acknowledged = acknowledged n m mode load l t.joined t.state run_of course is_run o.may_leave o.disk_rose leaves;
  }

  pub ended_of : (now : ℕ → List ℕ → Type 0) (rose : ℕ → Type 0) → Leaves n (opened_at load start) l t.state now rose → IsOver n t.state → (((j : ℕ) → j < n → stops_in t.state j ≡ None) → AllAcked load run_of) →
      IsEnded n mode load now rose run_of
  ended_of now rose leaves over complete = ended n m mode load l t.joined t.state run_of course is_run now rose leaves over complete
