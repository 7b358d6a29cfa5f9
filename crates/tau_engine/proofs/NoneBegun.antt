-- A run that has made nothing, whatever it begins on: each image has what was there, or what its stream was opened with.
use Rattle.std.proofs.Common.{ℕ, ◌<◌, ◌≤◌, ◌≡◌, ◌⊎◌, inl, inr, false, List, [], refl, sym, ap, subst, ◌∙◌}
use Rattle.std.specs.Prelude.{Option, None, Some, true}
use Rattle.std.proofs.lemmas.List.{append-nil}
use Rattle.tau_base.specs.declared.value.Key.{Key}
use Rattle.tau_base.specs.declared.value.Value.{Value}
use Rattle.tau_base.specs.declared.value.LogMode.{LogMode}
use Rattle.tau_base.specs.Modes.{format_of, most_streams}
use Rattle.tau_block.specs.Image.{HasContent}
use Rattle.tau_model.specs.Tables.{db_of_rows}
use Rattle.tau_machine.specs.State.{Core}
use Rattle.tau_text.specs.declared.load.Turn.{Turn}
use Rattle.tau_text.specs.declared.load.Workload.{Workload}
use Rattle.tau_core.specs.declared.state.Load.{Load}
use Rattle.tau_core.specs.View.{setting_of}
use Rattle.tau_scan.specs.Sound.{IsSound}
use Rattle.tau_run.specs.Run.{Run, has_ack}
use Rattle.tau_run.specs.Outside.{Outside}
use Rattle.tau_run.specs.Start.{Start, IsStart, old_at, opened_at}
use Rattle.tau_machine.specs.Runs as machine
use Rattle.tau_run.specs.CoreRun.{IsCourse, IsFirstState, IsRunOf, IsSoundLoad}
use Rattle.tau_run.specs.StopsLeave.{IsLeft}
use Rattle.tau_run.specs.RunFacts.{Ending, turns_of, IsCoreRun, IsCoreRunAt, RunTells, RunFacts}
use Rattle.tau_run.specs.RunFacts as told
use Rattle.tau_run.specs.Schedule.{here, todos_of}
use Rattle.tau_run.specs.Turns.{begun}
use Rattle.tau_run.proofs.Imaged.{imaged}
use Rattle.tau_run.proofs.NotBegun.{nothing_begun}
use Rattle.tau_run.proofs.Results.{history_law}
use Rattle.tau_engine.specs.Runs.{ran_by}
use Rattle.tau_engine.specs.declared.run.Choice.{Choice}
use Rattle.tau_engine.proofs.NotBegun.{never_stopped}

module _ (choice : Choice) (load : Workload) (start : Start) (rows : List (Key × Value)) (some : 1 ≤ choice.streams) (room : choice.streams ≤ most_streams (format_of choice.mode)) (workers : 1 ≤ choice.workers) (begins : IsStart (format_of choice.mode) choice.streams load start) (sound : IsSoundLoad load) (rows_are : db_of_rows rows ≡ start.base) where
  abbrev n : ℕ
  n = choice.streams

  abbrev m : ℕ
  m = choice.workers

  abbrev mode : LogMode
  mode = choice.mode

  abbrev Nothing : Type 0
  Nothing = (l : Load) × (opening : Core) × (run : Run) × IsFirstState l opening × machine.Run (setting_of l) opening [] [] opening × IsCourse n m mode load run.start l [] opening × IsRunOf n l [] opening load run × (run.start ≡ start) × (run.calls ≡ []) × (run.acks ≡ [])

  abbrev nothing : Nothing
  nothing = nothing_begun n m mode load start rows some room workers begins sound rows_are

  abbrev l : Load
  l = nothing.0

  abbrev opening : Core
  opening = nothing.1

  abbrev pub run : Run
  run = nothing.2

  pub same_start : run.start ≡ start
  same_start = nothing.7

  pub no_calls : run.calls ≡ []
  no_calls = nothing.8

  pub no_acks : run.acks ≡ []
  no_acks = nothing.9

  -- no event was chosen, by turns or in threads
  none_chosen : (turns : Option (List Turn)) → ran_by turns choice.style n m load false l opening (begun opening)
  none_chosen None = ((refl, refl), tt)
  none_chosen (Some turns) = ((λ w. []), (todos_of (setting_of l) m n (turns_of load), here))

  core : IsCoreRun (ran_by load.turns choice.style n m load false) n m mode load (λ j. None) run
  core = record {
    stands_on = l;
    load_is = nothing.5.load_is;
    opening = opening;
    first = nothing.3;
    progress = begun opening;
    led = nothing.4;
    chosen = none_chosen load.turns;
    is = nothing.6;
    told = no_acks;
    stopped = λ j lt. nothing.4.opens.stops j;
  }

  -- a run may end so before it began
  abbrev pub MayEnd : Ending → Type 0
  MayEnd (told.DiskFailed j) = Unit {0}
  MayEnd told.NoMemory = Unit {0}
  MayEnd _ = ⊥

  core_at : (ending : Ending) → MayEnd ending → IsCoreRunAt (ran_by load.turns choice.style n m load) n m mode load (λ j. None) run ending
  core_at told.Done may = absurd may
  core_at (told.DiskFailed j) may = inr (no_calls, no_acks, λ i lt. refl)
  core_at told.SinkFailed may = absurd may
  core_at told.NoMemory may = core
  core_at told.NotBegun may = absurd may

  is_left : (j : ℕ) (x : List ℕ) → HasContent (format_of mode) n j (old_at start j) x ⊎ HasContent (format_of mode) n j (opened_at load start j) x → IsLeft n j (old_at start j) (opened_at load start j) l opening x
  is_left j x (inl none) = inl (subst (λ (k : LogMode). HasContent (format_of k) n j (old_at start j) x) (sym nothing.5.load_is.mode_is) none)
  is_left j x (inr all) =
      let has : HasContent (format_of l.mode) n j (opened_at load start j) x = subst (λ (k : LogMode). HasContent (format_of k) n j (opened_at load start j) x) (sym nothing.5.load_is.mode_is) all in
      inr ([], record { count = 0; spelled = refl; has = subst (λ (c : List ℕ). HasContent (format_of l.mode) n j c x) (sym (append-nil (opened_at load start j))) has })

  no_ack : (k : ℕ) → has_ack run k ≡ true → ⊥
  no_ack k e = let f : false ≡ true = sym (ap (λ (acks : List (ℕ × List ℕ)). has_ack (record { start = run.start; calls = run.calls; contents = run.contents; acks = acks }) k) no_acks) ∙ e in cc f

  pub facts_of_nothing : (o : Outside) → start ≡ o.start → (ending : Ending) → MayEnd ending →
      (o.began_in_order → IsSound (format_of mode) start.old start.log start.base × ((j : ℕ) (x : List ℕ) → j < n → o.may_have_left j x → HasContent (format_of mode) n j (old_at start j) x ⊎ HasContent (format_of mode) n j (opened_at load start j) x)) →
      RunTells n mode load o (λ j. None) run ending → RunFacts (ran_by load.turns choice.style n m load) n m mode load o ending
  facts_of_nothing o begun ending may left tells = record {
    run = run;
    begins = same_start ∙ begun;
    history = history_law n m mode load l [] opening run nothing.5 nothing.6;
    stops = λ j. None;
    core = core_at ending may;
    stopped = λ j k e. absurd (never_stopped k e);
    told = tells;
    imaged = imaged n m mode load l [] opening run nothing.5 nothing.6 o.began_in_order o.may_have_left
        (subst (λ (b : Start). o.began_in_order → IsSound (format_of mode) b.old b.log b.base × ((j : ℕ) (x : List ℕ) → j < n → o.may_have_left j x → IsLeft n j (old_at b j) (opened_at load b j) l opening x)) (sym same_start)
        (λ u. ((left u).0, λ j x lt q. is_left j x ((left u).1 j x lt q))));
    acknowledged = λ images from log reads x q e. absurd (no_ack x.call.number e);
  }
