-- What is said of a call that has opened its streams, by turns or in threads.
use Rattle.std.proofs.Common.{ℕ, ◌<◌, ◌≤◌, ◌≡◌, inl, inr, Bool, List, [], ◌++◌, map, length, refl, sym, ap, subst, ◌∙◌, Option, Result, Ok, Err, arith}
use Rattle.std.specs.Prelude.{Some, None, slice_index_or}
use Rattle.std.proofs.lemmas.List.{append-nil}
use Rattle.std.proofs.lemmas.Option.{get_or_from_slice_get}
use Rattle.tau_base.specs.declared.value.LogMode.{LogMode}
use Rattle.tau_base.specs.declared.value.NoMemory.{NoMemory}
use Rattle.tau_base.specs.Modes.{format_of, most_streams}
use Rattle.tau_base.proofs.Lists.{some_at}
use Rattle.tau_block.specs.Image.{HasContent}
use Rattle.tau_disk.specs.declared.disk.Disk.{Ghosts}
use Rattle.tau_disk.specs.Disk.{Rose}
use Rattle.tau_disk.specs.Used.{EachIn}
use Rattle.tau_stream.specs.declared.writer.Writer.{Writer}
use Rattle.tau_stream.specs.Writer.{disk_of}
use Rattle.tau_open.proofs.Closed.{each_back, rest_back}
use Rattle.tau_machine.specs.State.{Core}
use Rattle.tau_text.specs.declared.load.Turn.{Turn}
use Rattle.tau_text.specs.declared.load.Workload.{Workload}
use Rattle.tau_text.specs.Canonical.{declarations_text}
use Rattle.tau_report.specs.declared.report.RunEnd.{RunEnd}
use Rattle.tau_core.specs.declared.opening.Opening.{Opening}
use Rattle.tau_core.specs.declared.state.Load.{Load}
use Rattle.tau_core.specs.Opens.{load_of}
use Rattle.tau_run.specs.Start.{Start, IsStart, opened_at}
use Rattle.tau_run.specs.CoreRun.{IsLoadOn, IsOpeningOn, IsSoundLoad}
use Rattle.tau_run.specs.Gives.{CameTo, Concluded, Gave, GaveFrom}
use Rattle.tau_run.specs.StopsLeave.{IsOver, NamesLowest, stops_in}
use Rattle.tau_run.specs.Turns.{Progress}
use Rattle.tau_run.proofs.Came as of
use Rattle.tau_run.proofs.Came.{BeginsOn}
use Rattle.tau_run.proofs.Results.{ends_law}
use Rattle.tau_crew_facts.specs.Threads.{in_threads}
use Rattle.tau_crew_facts.proofs.Apart as apart
use Rattle.tau_begin.specs.Opened.{IsOpenRun, TouchedAt}
use Rattle.tau_commands.specs.declared.status.Status.{Status}
use Rattle.tau_commands.specs.declared.status.Status.TheVariants as status
use Rattle.tau_commands.specs.Outside.{Output}
use Rattle.tau_engine.specs.DiskFacts.{Now}
use Rattle.tau_engine.specs.Runs.{DisksAndSink, RunsFrom, TellsRun, ran_by}
use Rattle.tau_engine.specs.declared.run.Choice.{Choice}
use Rattle.tau_engine.specs.RunSays.{RunSays, HasSpacedOn}
use Rattle.tau_engine.proofs.OnOpened as on
use Rattle.tau_engine.proofs.OnStart as run
use Rattle.tau_engine.proofs.OnlyTouched as touched
use Rattle.tau_engine.proofs.Ran.{gave_from, loaded_from}
use Rattle.tau_engine.proofs.RefusedOpening.{says_memory}
use Rattle.tau_engine.proofs.Streams.{OnlyNow}

module _ {D : Type 0} {G : Ghosts D} (only_now : OnlyNow G) (choice : Choice) (load : Workload) (some : 1 ≤ choice.streams) (room : choice.streams ≤ most_streams (format_of choice.mode)) (workers : 1 ≤ choice.workers) (sound : IsSoundLoad load) (old mid : List D) (there : choice.streams ≤ length old)
    (o : Opening) (ws : List (Writer D G)) (is_open : IsOpenRun G (format_of choice.mode) choice.streams (declarations_text load.declarations) old mid o ws) where
  abbrev n : ℕ
  n = choice.streams

  abbrev m : ℕ
  m = choice.workers

  abbrev mode : LogMode
  mode = choice.mode

  abbrev pub start : Start
  start = run.start only_now choice load old mid there o ws is_open

  begins : IsStart (format_of mode) n load start
  begins = (on.opened G (format_of mode) n load old there is_open.sizes is_open.starts is_open.begun).starts

  opening_on : IsOpeningOn load start o
  opening_on = on.opening_on G (format_of mode) n load old there is_open.sizes is_open.starts is_open.begun o is_open.opening

  abbrev l : Load
  l = load_of load.declarations.procs load.calls mode m o

  load_is : IsLoadOn n m mode load start l
  load_is = loaded_from n m mode load start begins o opening_on

  abbrev by : Bool → Load → Core → Progress → Type 0
  by = ran_by load.turns choice.style n m load

  abbrev begun_on : BeginsOn n m mode load start l
  begun_on = record { begins = begins; sound = sound; load_is = load_is }

  module _ (out : Output) (after : List (Writer D G)) (new : List D) (back : new ≡ map (disk_of {D = D} {G = G}) after ++ mid) (held1 : List ℕ) (faults1 : ℕ) (early : out.faults ≤ faults1) where
    abbrev with_sink : DisksAndSink D
    with_sink = record { old = old; new = new; sink = out }

    -- ---- nothing was done

    none_begun : after ≡ ws → out.held' ≡ out.held → RunSays G choice load with_sink status.NoMemory
    none_begun same_writers same =
        let back_same : new ≡ map (disk_of {D = D} {G = G}) ws ++ mid = back ∙ ap (λ (w : List (Writer D G)). map (disk_of {D = D} {G = G}) w ++ mid) same_writers in
        let each : EachIn (λ j. j < n) (TouchedAt G (format_of mode) is_open.sizes is_open.starts) old new = each_back n old new mid ws is_open.count back_same (TouchedAt G (format_of mode) is_open.sizes is_open.starts)
        (λ j d lt was. let (e, is, made) = is_open.disks j d lt was in (e, is, made.0)) in
        says_memory G only_now choice load some room workers sound old new there (rest_back n old new mid ws is_open.count back_same ∙ is_open.rest) out
        (inr (touched.memory_told only_now choice load some room workers sound old new there is_open.sizes is_open.starts is_open.begun each out (λ told. same ∙ sym (append-nil out.held))))

    -- ---- its anchors, in threads, if no disk failed

    module _ (threads : load.turns ≡ None) (e : RunEnd) (c : Concluded (in_threads choice.style) (opened_at load start) l ws after out.hears out.held held1 (Rose out.faults faults1) e) (none : e.disk ≡ None) where
      abbrev t : CameTo by (opened_at load start) l ws after c.acks
      t = of.came_by c.came (λ whole opening p x. subst (λ (turns : Option (List Turn)). ran_by turns choice.style n m load whole l opening p) (sym threads) x)

      going : NamesLowest l.streams (stops_in c.came.state) None
      going = subst (λ (o : Option ℕ). NamesLowest l.streams (stops_in c.came.state) o) none c.disk

      goes : (j : ℕ) → j < n → (c.came.state.streams j).stop ≡ None
      goes j lt = going j (let same = load_is.streams in omega (arith, lt, same))

      whole_now : (j : ℕ) (x : List ℕ) → j < n → Now G.tells G.may_leave old new j x → HasContent (format_of mode) n j (slice_index_or c.came.contents j []) x
      whole_now j x lt now =
          let over : IsOver n c.came.state = subst (λ (k : ℕ). IsOver k c.came.state) load_is.streams c.over in
          let leaves = run.leaves_now only_now choice load old mid there o ws is_open sound l load_is after new back c.acks t in
          let last = ends_law n m mode load l c.came.joined c.came.state (of.run_of begun_on t) (of.course begun_on t) (of.is_run begun_on t) over in
          let p = leaves.present j x lt now in
          last.2 j lt (goes j lt) x p.0 p.1 p.2

      spaced : (j : ℕ) (x : List ℕ) → j < n → Now G.tells G.may_leave old new j x → HasSpacedOn (format_of mode) n j load start x
      spaced j x lt now =
          let content = some_at c.came.contents j (let a = c.came.streams in let b = load_is.streams in omega (arith, lt, a, b)) in
          let same : slice_index_or c.came.contents j [] ≡ content.0 = get_or_from_slice_get c.came.contents j content.0 [] content.1 in (
            content.0,
            subst (λ (b : List ℕ). HasContent (format_of mode) n j b x) same (whole_now j x lt now),
            apart.thread_spaced begun_on choice.style c.came c.whole c.over going j content.0 lt content.1,
          )

    abbrev Spaces : Result RunEnd NoMemory → Type 0
    Spaces (Ok e) = load.turns ≡ None → e.disk ≡ None → (j : ℕ) (x : List ℕ) → j < n → Now G.tells G.may_leave old new j x → HasSpacedOn (format_of mode) n j load start x
    Spaces (Err e) = Unit {0}

    spaces : (turns : Option (List Turn)) → load.turns ≡ turns → (end : Result RunEnd NoMemory) → GaveFrom (ran_by turns choice.style (length o.ends) m load) o (opened_at load start) m mode load ws after out.hears out.held held1 (Rose out.faults faults1) end → Spaces end
    spaces turns is (Err e) x = tt
    spaces None is (Ok e) x = λ threads none j y lt now. spaced is e x none j y lt now
    spaces (Some turns) is (Ok e) x = λ threads. absurd (let bad : None ≡ Some turns = sym threads ∙ is in cc bad)

    says_gave : faults1 ≤ out.faults' → (end : Result RunEnd NoMemory) → Gave by (opened_at load start) l ws after out.hears out.held held1 (Rose out.faults faults1) end → Spaces end →
        (answer : Status) → TellsRun load.declarations.tables end out.hears held1 out.held' (Rose faults1 out.faults') answer → RunSays G choice load with_sink answer
    says_gave late (Ok e) c spaced answer told =
        let over : IsOver n c.came.state = subst (λ (k : ℕ). IsOver k c.came.state) load_is.streams c.over in
        let complete = of.complete begun_on c.came over c.kept in
        run.tells_end only_now choice load old mid there o ws is_open sound l load_is after new back c.acks c.came e c.whole over complete out held1 faults1 early late c.heard c.sink
        (subst (λ (k : ℕ). NamesLowest k (stops_in c.came.state) e.disk) load_is.streams c.disk) c.told c.fates c.order c.tables spaced answer told
    says_gave late (Err no_memory) (inl c) spaced answer told =
        subst (λ (a : Status). RunSays G choice load with_sink a) (sym told.0)
        (run.cuts_off only_now choice load old mid there o ws is_open sound l load_is after new back c.acks c.came out held1 faults1 late c.count c.sink_failed c.heard c.sink told.1)
    says_gave late (Err no_memory) (inr none) spaced answer told =
        subst (λ (a : Status). RunSays G choice load with_sink a) (sym told.0) (none_begun none.0 (told.1 ∙ none.1))

  pub says_run : (out : Output) (new : List D) (answer : Status) → RunsFrom choice load o (opened_at load start) ws (record { old = mid; new = new; sink = out }) answer →
      RunSays G choice load (record { old = old; new = new; sink = out }) answer
  says_run out new answer r =
      says_gave out r.after new r.back r.mid r.count r.early r.late r.end (gave_from load.turns choice load o (opened_at load start) load_is.streams ws r.after out.hears out.held r.mid (Rose out.faults r.count) r.end r.ran)
      (spaces out r.after new r.back r.mid r.count r.early load.turns refl r.end r.ran) answer r.told
