-- What a run gives, as one that begins on a start: on new streams, and from an opening.
use Rattle.std.proofs.Common.{ℕ, ◌≡◌, Bool, List, length, refl, sym, ap, subst, ◌∙◌}
use Rattle.std.specs.Prelude.{Option, Some, None, Result}
use Rattle.tau_base.specs.declared.value.LogMode.{LogMode}
use Rattle.tau_base.specs.declared.value.NoMemory.{NoMemory}
use Rattle.tau_base.specs.Modes.{format_of}
use Rattle.tau_base.proofs.Lists.{length_mapped}
use Rattle.tau_disk.specs.declared.disk.Disk.{Ghosts}
use Rattle.tau_stream.specs.declared.writer.Writer.{Writer}
use Rattle.tau_machine.specs.State.{Core}
use Rattle.tau_text.specs.declared.load.Turn.{Turn}
use Rattle.tau_text.specs.declared.load.Workload.{Workload}
use Rattle.tau_report.specs.declared.report.RunEnd.{RunEnd}
use Rattle.tau_core.specs.declared.opening.Opening.{Opening}
use Rattle.tau_core.specs.declared.state.Load.{Load}
use Rattle.tau_core.specs.Opens.{load_of}
use Rattle.tau_run.specs.CoreRun.{IsLoadOn, IsOpeningOn}
use Rattle.tau_run.specs.Gives.{Gave, GaveFrom, GaveNew}
use Rattle.tau_occ.specs.declared.style.Style.TheVariants.{Locking}
use Rattle.tau_run.specs.RunFacts.{chosen_by}
use Rattle.tau_run.specs.Start.{Start, IsStart, fresh_start, opened_at, opened_with}
use Rattle.tau_run.specs.Turns.{Progress}
use Rattle.tau_run.proofs.Came.{gave_by}
use Rattle.tau_run.proofs.Fresh.{fresh_opened}
use Rattle.tau_engine.specs.Runs.{ran_by}
use Rattle.tau_engine.specs.declared.run.Choice.{Choice}

-- in a drill nothing more is asked of the events of a run in threads than that they are some
pub as_chosen : (turns : Option (List Turn)) (n m : ℕ) (load : Workload) (whole : Bool) (l : Load) (opening : Core) (p : Progress) → ran_by turns Locking n m load whole l opening p → chosen_by turns Locking n m load whole l opening p
as_chosen None n m load whole l opening p x = tt
as_chosen (Some turns) n m load whole l opening p x = x

-- it stands on a fresh start
pub gave : {D : Type 0} {G : Ghosts D} (by : ℕ → Bool → Load → Core → Progress → Type 0) (by' : Bool → Load → Core → Progress → Type 0) (n m : ℕ) (mode : LogMode) (load : Workload) →
    ((whole : Bool) (l : Load) (opening : Core) (p : Progress) → by n whole l opening p → by' whole l opening p) → (ws ws' : List (Writer D G)) → length ws ≡ n → (hears : Type 0) (held held' : List ℕ) (sink_rose : Type 0) (result : Result RunEnd NoMemory) →
    GaveNew (by (length ws)) m mode load ws ws' hears held held' sink_rose result → (l : Load) × IsLoadOn n m mode load (fresh_start n) l × Gave by' (opened_at load (fresh_start n)) l ws ws' hears held held' sink_rose result
gave by by' n m mode load also ws ws' count hears held held' sink_rose result x = (
  x.0,
  subst (λ (k : ℕ). IsLoadOn k m mode load (fresh_start k) x.0) count x.1,
  gave_by (record { bases = opened_at load (fresh_start n); load = x.0; before = ws; after = ws'; hears = hears; held_before = held; held_after = held'; sink_rose = sink_rose }) (by n) by' (λ whole opening p q. also whole x.0 opening p q) result
      (subst (λ (k : ℕ). Gave (by k) (opened_at load (fresh_start n)) x.0 ws ws' hears held held' sink_rose result) count
      (subst (λ (b : ℕ → List ℕ). Gave (by (length ws)) b x.0 ws ws' hears held held' sink_rose result) (sym (fresh_opened n load)) x.2)),
)

-- what a core stands on that was opened so
pub loaded_from : (n m : ℕ) (mode : LogMode) (load : Workload) (start : Start) → IsStart (format_of mode) n load start → (o : Opening) → IsOpeningOn load start o → IsLoadOn n m mode load start (load_of load.declarations.procs load.calls mode m o)
loaded_from n m mode load start begins o on = record {
  procs = refl;
  calls = refl;
  mode_is = refl;
  workers = refl;
  streams = ap length on.ends ∙ length_mapped (λ (old : List ℕ). length (opened_with load start old)) start.old ∙ begins.count;
  opening = on;
}

-- it stands on the start that it was opened for
pub gave_from : {D : Type 0} {G : Ghosts D} (turns : Option (List Turn)) (choice : Choice) (load : Workload) (o : Opening) (bases : ℕ → List ℕ) → length o.ends ≡ choice.streams → (ws ws' : List (Writer D G)) (hears : Type 0) (held held' : List ℕ) (sink_rose : Type 0) (result : Result RunEnd NoMemory) →
    GaveFrom (ran_by turns choice.style (length o.ends) choice.workers load) o bases choice.workers choice.mode load ws ws' hears held held' sink_rose result → Gave (ran_by turns choice.style choice.streams choice.workers load) bases (load_of load.declarations.procs load.calls choice.mode choice.workers o) ws ws' hears held held' sink_rose result
gave_from turns choice load o bases count ws ws' hears held held' sink_rose result x =
    subst (λ (k : ℕ). Gave (ran_by turns choice.style k choice.workers load) bases (load_of load.declarations.procs load.calls choice.mode choice.workers o) ws ws' hears held held' sink_rose result) count x
