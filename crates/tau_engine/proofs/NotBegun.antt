-- A run that has made nothing: its streams have nothing, or the catalogue alone.
use Rattle.std.proofs.Common.{ℕ, zero, suc, ◌+◌, ◌<◌, ◌≤◌, ◌≡◌, ◌⊎◌, inl, inr, Bool, true, false, List, [], ◌∷◌, map, length, replicate, refl, sym, ap, subst, ◌∙◌, arith, lt-ltb}
use Rattle.std.specs.Prelude.{Some, None, nat_lt, slice_get, slice_index, take}
use Rattle.std.proofs.Math.Seq.{take-length}
use Rattle.std.proofs.Math.Nat.{mod-lt}
use Rattle.std.proofs.lemmas.List.{append-nil, length-replicate}
use Rattle.std.proofs.lemmas.Bool.{cases_Bool}
use Rattle.std.proofs.lemmas.Bool.Decides.{nat_tests}
use Rattle.tau_base.specs.declared.format.Format.{Format}
use Rattle.tau_base.specs.declared.format.Format.TheVariants.{One}
use Rattle.tau_base.specs.declared.value.LogMode.{LogMode}
use Rattle.tau_base.specs.Modes.{format_of}
use Rattle.tau_block.specs.Image.{HasContent}
use Rattle.tau_model.specs.History.{Member, Numbered}
use Rattle.tau_model.specs.Tables.{db_of_rows}
use Rattle.tau_machine.specs.Accounts.{in_worker}
use Rattle.tau_machine.specs.Worker.{Worker}
use Rattle.tau_machine.specs.State.{Core}
use Rattle.tau_machine.specs.Invariant.{Invariant}
use Rattle.tau_machine.specs.Reports.{reported}
use Rattle.tau_machine.specs.Runs.{IsOpening, Run as MachineRun}
use Rattle.tau_machine.proofs.Runs.{run_invariant}
use Rattle.tau_text.specs.declared.load.Workload.{Workload}
use Rattle.tau_core.specs.declared.state.Load.{Load}
use Rattle.tau_core.specs.View.{setting_of, call_of, worker_of, from_on}
use Rattle.tau_core.proofs.Turns.{call_there, once_there, whose_there}
use Rattle.tau_run.specs.Run.{Run, told_of, IsHistory}
use Rattle.tau_run.specs.Outside.{Outside}
use Rattle.tau_run.specs.Start.{fresh_start, catalogue_of, old_at, opened_at}
use Rattle.tau_run.proofs.Fresh.{fresh_begins, fresh_is_sound, fresh_olds, fresh_opened, fresh_load}
use Rattle.tau_run.specs.CoreRun.{IsLoadOn, IsFirstState, IsGiven, IsRunOf}
use Rattle.tau_run.specs.StopsLeave.{IsLeft}
use Rattle.tau_engine.proofs.Chosen.{chosen}
use Rattle.tau_occ.specs.declared.style.Style.TheVariants.{Locking}
use Rattle.tau_run.specs.RunFacts.{Ending, chosen_by, IsCoreRun, IsCoreRunAt, RunTells, RunFacts, turns_of}
use Rattle.tau_run.specs.RunFacts as told
use Rattle.tau_run.specs.StopsLeave.{NamesLowest}
use Rattle.tau_run.specs.Schedule.{here, todos_of}
use Rattle.tau_run.specs.Turns.{begun}
use Rattle.tau_run.proofs.Acked.{whole}
use Rattle.tau_run.proofs.History.{is_set, is_history}
use Rattle.tau_run.proofs.Order.{once}
use Rattle.tau_run.proofs.Reading.{IsCatalogue}
use Rattle.tau_run.proofs.Recovered.{recovered}
use Rattle.tau_run.proofs.Streams.{AreSound, IsDeclaredCourse}
use Rattle.tau_engine.proofs.Opened.{low_streams}
use Rattle.tau_base.proofs.Lists.{got_within}
use Rattle.tau_base.proofs.Logic.{replicated}

pub never_stopped : (k : ℕ) → None ≡ Some k → ⊥
never_stopped k e = cc

-- ---- lists of one value

got_same : (n : ℕ) (x y : List ℕ) (j : ℕ) → slice_get (replicate n x) j ≡ Some y → x ≡ y
got_same zero x y j e = absurd (cc)
got_same (suc n) x y zero e = cc
got_same (suc n) x y (suc j) e = got_same n x y j e

no_more : (n j : ℕ) → slice_index (replicate n 0) j ≤ 0
no_more zero j = omega arith
no_more (suc n) zero = omega arith
no_more (suc n) (suc j) = no_more n j

lengths_same : (n : ℕ) (x : List ℕ) → map length (replicate n x) ≡ replicate n (length x)
lengths_same zero x = refl
lengths_same (suc n) x = ap (λ (l : List ℕ). length x ∷ l) (lengths_same n x)

module _ (n m : ℕ) (mode : LogMode) (load : Workload) (some : 1 ≤ n) (room : n ≤ 16) (narrow : format_of mode ≡ One) (workers : 1 ≤ m) (sound : IsCatalogue load) where
  abbrev catalogue : List ℕ
  catalogue = catalogue_of load

  -- what a run stands on
  abbrev l : Load
  l = record {
    procs = load.declarations.procs;
    calls = load.calls;
    mode = mode;
    workers = m;
    streams = n;
    opening = record { rows = []; floor = replicate n 0; ends = replicate n (length catalogue); anchors = record { items = replicate n 0 } };
  }

  load_is : IsLoadOn n m mode load (fresh_start n) l
  load_is = fresh_load n m mode load l refl refl refl refl refl (record { rows = refl; floor = refl; ends = refl; anchors = refl })

  -- a worker that has begun nothing
  abbrev resting_on : List Numbered → Worker
  resting_on calls = record { waiting = calls; hand = None; left = []; committed = [] }

  abbrev waits_at : Bool → ℕ → List Numbered
  waits_at true w = from_on load.calls m (w + 1)
  waits_at false w = []

  -- the state in which nothing has happened
  abbrev first : Core
  first = record {
    shards = λ i. record { rows = db_of_rows []; entries = λ x. None; floor = [] };
    workers = λ w. resting_on (waits_at (nat_lt w m) w);
    outboxes = λ w. record { posted = []; pending = [] };
    streams = λ j. record { posted = []; moved = []; anchors = []; stop = None };
    acked = λ w. [];
    ends = replicate n (length catalogue);
    gathered = replicate n (length catalogue);
    plv = replicate n (length catalogue);
  }

  -- what holds of each worker that rests on its calls, or on none, holds of each worker
  by_worker : (P : ℕ → Worker → Type 0) → ((w : ℕ) → w < m → P w (resting_on (from_on load.calls m (w + 1)))) → ((w : ℕ) → P w (resting_on [])) → (w : ℕ) → P w (first.workers w)
  by_worker P there none w = elim (cases_Bool (nat_lt w m)) [
    | inl low ↦ (let lt : w < m = grind (arith, nat_tests, low) in subst (λ (b : Bool). P w (resting_on (waits_at b w))) (sym low) (there w lt))
    | inr high ↦ subst (λ (b : Bool). P w (resting_on (waits_at b w))) (sym high) (none w)
  ]

  opens : IsOpening (setting_of l) first
  opens = record {
    count = length-replicate n (length catalogue);
    small = λ w. mod-lt w {m = n} (omega (arith, some));
    ends = refl;
    gathered = refl;
    plv = refl;
    rows = λ x. refl;
    entries = λ i x. refl;
    floors = λ i j. omega arith;
    narrow = λ i. omega arith;
    hands = λ w. refl;
    left = λ w. refl;
    committed = λ w. refl;
    pending = λ w. refl;
    posted = λ w. refl;
    own = λ j. refl;
    moved = λ j. refl;
    anchors = λ j. refl;
    acked = λ w. refl;
    stops = λ j. refl;
    calls = by_worker (λ w wk. (c : Numbered) → Member c wk.waiting → call_of load.calls c.number ≡ Some c.call) (λ w lt c q. call_there load.calls m w c q) (λ w c q. absurd q);
    once = by_worker (λ w wk. (k : ℕ) → in_worker k wk ≤ 1) (λ w lt k. (let e = once_there load.calls m w k workers in omega (arith, e))) (λ w k. omega arith);
    whose = by_worker (λ w wk. (k : ℕ) → 1 ≤ in_worker k wk → worker_of m k ≡ w) (λ w lt k e. whose_there load.calls m w k workers lt (omega (arith, e))) (λ w k e. absurd (omega (arith, e)));
  }

  starts : IsFirstState l first
  starts = record {
    floor_low = λ i lt j. no_more n j;
    floor_high = λ i lt j. omega arith;
    waiting = λ w lt. (let low : nat_lt w m ≡ true = lt-ltb w m lt in ap (λ (b : Bool). waits_at b w) low);
  }

  led : MachineRun (setting_of l) first [] [] first
  led = record { opens = opens; leads = (refl, refl) }

  inv : Invariant (setting_of l) [] first
  inv = run_invariant (setting_of l) first [] [] first led

  are_sound : AreSound l load []
  are_sound = record { catalogue = sound; declared = λ t q up. absurd q }

  -- the run
  abbrev pub empty_run : Run
  empty_run = record { start = fresh_start n; calls = []; contents = replicate n catalogue; acks = [] }

  none_reported : reported first.ends [] ≡ []
  none_reported = once (setting_of l) [] first inv

  base_at : (j : ℕ) → opened_at load (fresh_start n) j ≡ catalogue
  base_at j = ap (λ (b : ℕ → List ℕ). b j) (fresh_opened n load)

  is_run : IsRunOf n l [] first load empty_run
  is_run = record {
    calls = sym (ap (map told_of) none_reported);
    streams = length-replicate n catalogue;
    given = λ j content e.
        (let lt : j < n = subst (λ (k : ℕ). j < k) (length-replicate n catalogue) (got_within (replicate n catalogue) j content e) in
        let is = got_same n catalogue content j e in
        subst (λ (b : List ℕ). IsGiven l [] first j b content) (sym (base_at j)) (record {
          waiting = [];
          moved = sym (replicated n (length catalogue) j lt);
          rest = refl;
          records = refl;
          anchors = refl;
          named = tt;
          bytes = [];
          spelled = refl;
          is = sym is ∙ sym (append-nil catalogue);
        }));
    acks = λ w. refl;
  }

  was_opened : (j : ℕ) (content : List ℕ) → slice_get (replicate n catalogue) j ≡ Some content → take (length (opened_at load (fresh_start n) j)) content ≡ opened_at load (fresh_start n) j
  was_opened j content e =
      subst (λ (b : List ℕ). take (length b) content ≡ b) (sym (base_at j)) (subst (λ (c : List ℕ). take (length catalogue) c ≡ catalogue) (got_same n catalogue content j e) (take-length catalogue))

  history : IsHistory n m load empty_run
  history = is_history (setting_of l) [] first inv n m load empty_run (is_set n m mode load (fresh_start n) l (length-replicate n []) load_is) is_run.calls is_run.streams (lengths_same n catalogue) is_run.acks

  core : IsCoreRun (chosen_by load.turns Locking n m load false) n m mode load (λ j. None) empty_run
  core = record {
    stands_on = l;
    load_is = load_is;
    opening = first;
    first = starts;
    progress = begun first;
    led = led;
    chosen = chosen load.turns false n m load l first (begun first) ((λ w. []), (todos_of (setting_of l) m n (turns_of load), here));
    is = is_run;
    told = refl;
    stopped = λ j lt. refl;
  }

  -- a run may end so before it began
  abbrev pub MayEnd : Ending → Type 0
  MayEnd told.Done = ⊥
  MayEnd (told.DiskFailed j) = Unit {0}
  MayEnd told.SinkFailed = ⊥
  MayEnd told.NoMemory = Unit {0}
  MayEnd told.NotBegun = Unit {0}

  core_at : (ending : Ending) → MayEnd ending → IsCoreRunAt (chosen_by load.turns Locking n m load) n m mode load (λ j. None) empty_run ending
  core_at told.Done may = absurd may
  core_at (told.DiskFailed j) may = inr (refl, refl, λ i lt. refl)
  core_at told.SinkFailed may = absurd may
  core_at told.NoMemory may = core
  core_at told.NotBegun may = (refl, refl)

  course : IsDeclaredCourse n m mode load (fresh_start n) l [] first
  course = record { room = low_streams (format_of mode) n room; begins = fresh_begins (format_of mode) n load; load_is = load_is; sound = are_sound; inv = inv; waits = λ t q up. absurd q }

  is_left : (j : ℕ) (x : List ℕ) → HasContent One n j [] x ⊎ HasContent One n j catalogue x → IsLeft n j [] catalogue l first x
  is_left j x (inl none) = inl (subst (λ (f : Format). HasContent f n j [] x) (sym narrow) none)
  is_left j x (inr all) =
      let has : HasContent (format_of mode) n j catalogue x = subst (λ (f : Format). HasContent f n j catalogue x) (sym narrow) all in
      inr ([], record { count = 0; spelled = refl; has = subst (λ (c : List ℕ). HasContent (format_of mode) n j c x) (sym (append-nil catalogue)) has })

  as_left : (j : ℕ) (x : List ℕ) → IsLeft n j [] catalogue l first x → IsLeft n j (old_at (fresh_start n) j) (opened_at load (fresh_start n) j) l first x
  as_left j x left =
      subst (λ (a : ℕ → List ℕ). IsLeft n j (a j) (opened_at load (fresh_start n) j) l first x) (sym (fresh_olds n)) (subst (λ (b : ℕ → List ℕ). IsLeft n j [] (b j) l first x) (sym (fresh_opened n load)) left)

  -- all that is said of it, where each image has nothing or the catalogue
  abbrev built_of_none : (o : Outside) → fresh_start n ≡ o.start → (ending : Ending) → MayEnd ending →
      (o.began_in_order → (j : ℕ) (x : List ℕ) → j < n → o.may_have_left j x → HasContent One n j [] x ⊎ HasContent One n j catalogue x) →
      RunTells n mode load o (λ j. None) empty_run ending → RunFacts (chosen_by load.turns Locking n m load) n m mode load o ending
  built_of_none o begun ending may left tells = record {
    run = empty_run;
    begins = begun;
    history = history;
    stops = λ j. None;
    core = core_at ending may;
    stopped = λ j k e. absurd (never_stopped k e);
    told = tells;
    imaged =
        (let w = whole n m mode load l [] first empty_run course is_run in
        record {
          opened = was_opened;
          whole = w.0;
          reads = w.1;
          records = w.2;
          each = λ u images from. recovered n m mode load l [] first empty_run course is_run (fresh_is_sound (format_of mode) n) images from.0
              (λ j image e.
              let lt : j < n = subst (λ (k : ℕ). j < k) from.0 (got_within images j image e) in
              as_left j image (is_left j image (left u j image lt (from.1 j image e))));
        });
    acknowledged = λ images from log reads x q e. absurd q;
  }

  -- so it is where a disk failed before it began
  pub told_of_failed : (j : ℕ) (o : Outside) → fresh_start n ≡ o.start → (o.began_in_order → (i : ℕ) (x : List ℕ) → i < n → o.may_have_left i x → HasContent One n i [] x ⊎ HasContent One n i catalogue x) →
      RunTells n mode load o (λ i. None) empty_run (told.DiskFailed j) →
      (facts : RunFacts (chosen_by load.turns Locking n m load) n m mode load o (told.DiskFailed j)) × (facts.run.acks ≡ [])
      × ((none : (facts.run.calls ≡ []) × (facts.run.acks ≡ []) × NamesLowest n facts.stops None) × (facts.core ≡ inr none))
  unfolding core_at
  told_of_failed j o begun left tells = (built_of_none o begun (told.DiskFailed j) tt left tells, refl, ((refl, refl, λ i lt. refl), refl))
