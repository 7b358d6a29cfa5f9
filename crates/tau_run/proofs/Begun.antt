-- The core with which a run begins.
use Rattle.std.proofs.Common.{ℕ, ◌≡◌, Bool, List, [], length, replicate, refl, sym, ap, subst, ◌∙◌, arith}
use Rattle.std.specs.Prelude.{slice_index, Result}
use Rattle.std.proofs.lemmas.List.{length-replicate, get_or-replicate}
use Rattle.tau_base.specs.declared.value.LogMode.{LogMode}
use Rattle.tau_base.specs.declared.value.NoMemory.{NoMemory}
use Rattle.tau_base.specs.Modes.{format_of}
use Rattle.tau_disk.specs.declared.disk.Disk.{Ghosts}
use Rattle.tau_stream.specs.declared.writer.Writer.{Writer}
use Rattle.tau_machine.specs.State.{Core}
use Rattle.tau_text.specs.Canonical.{declarations_text}
use Rattle.tau_text.specs.declared.load.Workload.{Workload}
use Rattle.tau_report.specs.declared.report.RunEnd.{RunEnd}
use Rattle.tau_core.specs.declared.opening.Opening.{Opening}
use Rattle.tau_core.specs.declared.state.Load.{Load}
use Rattle.tau_core.specs.State.{Plain}
use Rattle.tau_core.specs.Opens.{Opened, OpenedFresh, catalogue_size, load_of}
use Rattle.tau_run.specs.Start.{fresh_start, catalogue_of}
use Rattle.tau_run.proofs.Fresh.{fresh_load}
use Rattle.tau_run.specs.CoreRun.{IsLoadOn}
use Rattle.tau_run.specs.Gives.{Gave, GaveFrom, GaveNew}
use Rattle.tau_run.specs.Turns.{Progress}
use Rattle.tau_run.specs.Writers.{AreNew, IsBegun}

module _ {D : Type 0} {G : Ghosts D} (m : ℕ) (mode : LogMode) (load : Workload) (ws ws' : List (Writer D G)) (hears : Type 0) (held held' : List ℕ) (sink_rose : Type 0) where
  -- on new streams
  module _ (p : Plain) (q : OpenedFresh load.declarations.procs load.calls mode m (length ws) (catalogue_size (declarations_text load.declarations)) p) where
    pub fresh_opened : Opened p.load p
    fresh_opened = subst (λ (l : Load). Opened l p) (sym q.2.load) q.2

    ends_long : length q.0.ends ≡ length ws
    ends_long = ap (length {A = ℕ}) q.1.ends ∙ length-replicate (length ws) (length (catalogue_of load))

    pub loaded : IsLoadOn (length ws) m mode load (fresh_start (length ws)) p.load
    loaded = subst (λ (l : Load). IsLoadOn (length ws) m mode load (fresh_start (length ws)) l) (sym q.2.load) (fresh_load (length ws) m mode load (load_of load.declarations.procs load.calls mode m q.0) refl refl refl refl ends_long q.1)

    pub fresh_begun : AreNew (format_of mode) (λ j. catalogue_of load) ws → IsBegun (format_of p.load.mode) (λ j. catalogue_of load) ws p.load.opening
    fresh_begun new = subst (λ (l : Load). IsBegun (format_of l.mode) (λ j. catalogue_of load) ws l.opening) (sym q.2.load) (record {
      count = sym ends_long;
      long = λ j lt. sym (ap (λ (v : List ℕ). slice_index v j) q.1.ends ∙ get_or-replicate (length ws) j (length (catalogue_of load)) 0 (let e = ends_long in omega arith));
      new = new;
    })

    pub gave_new : (by : Bool → Load → Core → Progress → Type 0) (r : Result RunEnd NoMemory) → Gave by (λ j. catalogue_of load) p.load ws ws' hears held held' sink_rose r → GaveNew by m mode load ws ws' hears held held' sink_rose r
    gave_new by r gave = (p.load, loaded, gave)

  -- from a given state
  module _ (o : Opening) (p : Plain) (q : Opened (load_of load.declarations.procs load.calls mode m o) p) where
    pub given_begun : (bases : ℕ → List ℕ) → IsBegun (format_of mode) bases ws o → IsBegun (format_of p.load.mode) bases ws p.load.opening
    given_begun bases b = subst (λ (l : Load). IsBegun (format_of l.mode) bases ws l.opening) (sym q.load) b

    pub gave_from : (by : Bool → Load → Core → Progress → Type 0) (bases : ℕ → List ℕ) (r : Result RunEnd NoMemory) → Gave by bases p.load ws ws' hears held held' sink_rose r → GaveFrom by o bases m mode load ws ws' hears held held' sink_rose r
    gave_from by bases r gave = subst (λ (l : Load). Gave by bases l ws ws' hears held held' sink_rose r) q.load gave

-- what a run on new streams stands on is there, if it is begun or not
pub fresh_there : (n m : ℕ) (mode : LogMode) (load : Workload) → (l : Load) × IsLoadOn n m mode load (fresh_start n) l
fresh_there n m mode load =
    let o : Opening = record { rows = []; floor = replicate n 0; ends = replicate n (length (catalogue_of load)); anchors = record { items = replicate n 0 } } in
    (load_of load.declarations.procs load.calls mode m o, fresh_load n m mode load (load_of load.declarations.procs load.calls mode m o) refl refl refl refl (length-replicate n (length (catalogue_of load))) (record { rows = refl; floor = refl; ends = refl; anchors = refl }))
