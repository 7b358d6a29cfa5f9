-- What a run by turns gives, by the core with which it begins.
use Rattle.std.proofs.Common.{ℕ, Bool, List, length, subst}
use Rattle.std.specs.Prelude.{Result}
use Rattle.tau_base.specs.declared.value.LogMode.{LogMode}
use Rattle.tau_base.specs.declared.value.NoMemory.{NoMemory}
use Rattle.tau_disk.specs.declared.disk.Disk.{Ghosts}
use Rattle.tau_stream.specs.declared.writer.Writer.{Writer}
use Rattle.tau_text.specs.Canonical.{declarations_text}
use Rattle.tau_text.specs.declared.load.Workload.{Workload}
use Rattle.tau_report.specs.declared.report.RunEnd.{RunEnd}
use Rattle.tau_core.specs.declared.opening.Opening.{Opening}
use Rattle.tau_core.specs.declared.state.Load.{Load}
use Rattle.tau_core.specs.State.{Plain}
use Rattle.tau_core.specs.Opens.{Opened, OpenedFresh, catalogue_size, load_of}
use Rattle.tau_occ.specs.declared.style.Style.{Style}
use Rattle.tau_run.specs.Start.{catalogue_of}
use Rattle.tau_run.specs.Gives.{Gave, GaveFrom, GaveNew}
use Rattle.tau_run.specs.RunFacts.{by_turns}
use Rattle.tau_run.specs.Turns.{Progress}
use Rattle.tau_machine.specs.State.{Core}
use Rattle.tau_run.proofs.Begun.{gave_new, loaded}
use Rattle.tau_run.proofs.Came.{gave_by}
use Rattle.tau_step.specs.Counts.{counting}

module _ {D : Type 0} {G : Ghosts D} (style : Style) (m : ℕ) (mode : LogMode) (load : Workload) (ws ws' : List (Writer D G)) (hears : Type 0) (held held' : List ℕ) (sink_rose : Type 0) where
  -- on new streams
  pub turns_new : (p : Plain) → OpenedFresh load.declarations.procs load.calls mode m (length ws) (catalogue_size (declarations_text load.declarations)) p → (r : Result RunEnd NoMemory) →
      Gave (counting ws ws' (by_turns style p.load.streams p.load.workers load)) (λ j. catalogue_of load) p.load ws ws' hears held held' sink_rose r → GaveNew (counting ws ws' (by_turns style (length ws) m load)) m mode load ws ws' hears held held' sink_rose r
  turns_new p q r gave =
      let on = loaded m mode load ws ws' hears held held' sink_rose p q in
      gave_new m mode load ws ws' hears held held' sink_rose p q (counting ws ws' (by_turns style (length ws) m load)) r
      (subst (λ (k : ℕ). Gave (counting ws ws' (by_turns style k m load)) (λ j. catalogue_of load) p.load ws ws' hears held held' sink_rose r) on.streams
      (subst (λ (k : ℕ). Gave (counting ws ws' (by_turns style p.load.streams k load)) (λ j. catalogue_of load) p.load ws ws' hears held held' sink_rose r) on.workers gave))

  -- the same without the calls of the disks
  gave_plain : (by : Bool → Load → Core → Progress → Type 0) (bases : ℕ → List ℕ) (l : Load) (r : Result RunEnd NoMemory) → Gave (counting ws ws' by) bases l ws ws' hears held held' sink_rose r → Gave by bases l ws ws' hears held held' sink_rose r
  gave_plain by bases l r gave =
      gave_by (record { bases = bases; load = l; before = ws; after = ws'; hears = hears; held_before = held; held_after = held'; sink_rose = sink_rose }) (counting ws ws' by) by (λ whole opening p q. q.0) r gave

  pub turns_plain : (r : Result RunEnd NoMemory) → GaveNew (counting ws ws' (by_turns style (length ws) m load)) m mode load ws ws' hears held held' sink_rose r → GaveNew (by_turns style (length ws) m load) m mode load ws ws' hears held held' sink_rose r
  turns_plain r gave = (gave.0, gave.1, gave_plain (by_turns style (length ws) m load) (λ j. catalogue_of load) gave.0 r gave.2)

  -- from a given state
  pub turns_from : (o : Opening) (p : Plain) → Opened (load_of load.declarations.procs load.calls mode m o) p → (bases : ℕ → List ℕ) (r : Result RunEnd NoMemory) →
      Gave (counting ws ws' (by_turns style p.load.streams p.load.workers load)) bases p.load ws ws' hears held held' sink_rose r → GaveFrom (by_turns style (length o.ends) m load) o bases m mode load ws ws' hears held held' sink_rose r
  turns_from o p q bases r gave = subst (λ (l : Load). Gave (by_turns style l.streams l.workers load) bases l ws ws' hears held held' sink_rose r) q.load (gave_plain (by_turns style p.load.streams p.load.workers load) bases p.load r gave)
