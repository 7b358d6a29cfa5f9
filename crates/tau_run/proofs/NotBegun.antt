-- A run that has made nothing: its streams have what they held first.
use Rattle.std.proofs.Common.{ℕ, ◌+◌, ◌<◌, ◌≤◌, ◌≡◌, inl, inr, Bool, true, false, List, [], map, length, refl, sym, ap, subst, ◌∙◌, arith, lt-ltb}
use Rattle.std.specs.Prelude.{Some, None, nat_lt}
use Rattle.std.proofs.Math.Nat.{mod-lt}
use Rattle.std.proofs.lemmas.List.{append-nil}
use Rattle.std.proofs.lemmas.Bool.{cases_Bool}
use Rattle.std.proofs.lemmas.Bool.Decides.{nat_tests}
use Rattle.tau_base.specs.declared.value.Key.{Key}
use Rattle.tau_base.specs.declared.value.Value.{Value}
use Rattle.tau_base.specs.declared.value.LogMode.{LogMode}
use Rattle.tau_base.specs.Modes.{format_of, most_streams}
use Rattle.tau_base.specs.Vectors.{AtMost}
use Rattle.tau_base.proofs.Lists.{got_mapped, got_or, got_within, length_mapped, map_map}
use Rattle.tau_base.proofs.Vectors.{at_most_itself, at_most_within}
use Rattle.tau_model.specs.History.{Member, Numbered}
use Rattle.tau_model.specs.Tables.{db_of_rows}
use Rattle.tau_machine.specs.Accounts.{in_worker}
use Rattle.tau_machine.specs.Invariant.{Invariant}
use Rattle.tau_machine.specs.Reports.{reported}
use Rattle.tau_machine.specs.Runs.{IsOpening}
use Rattle.tau_machine.specs.Runs as machine
use Rattle.tau_machine.specs.State.{Core}
use Rattle.tau_machine.specs.Worker.{Worker}
use Rattle.tau_machine.proofs.Runs.{run_invariant}
use Rattle.tau_text.specs.declared.load.Workload.{Workload}
use Rattle.tau_record.specs.Content.{anchors_of}
use Rattle.tau_core.specs.declared.state.Load.{Load}
use Rattle.tau_core.specs.View.{setting_of, call_of, worker_of, from_on}
use Rattle.tau_core.proofs.Turns.{call_there, once_there, whose_there}
use Rattle.tau_run.specs.CoreRun.{IsLoadOn, IsFirstState, IsRunOf}
use Rattle.tau_run.specs.Laws.{NothingBegun}
use Rattle.tau_run.specs.Run.{Run, told_of, IsHistory}
use Rattle.tau_run.specs.Start.{Start, opened_with, opened_at, IsStart}
use Rattle.tau_run.proofs.Begins.{elv_at, elv_wide, old_within}
use Rattle.tau_run.proofs.History.{is_set, is_history}
use Rattle.tau_run.proofs.Order.{once}
use Rattle.tau_run.proofs.Reading.{IsCatalogue}
use Rattle.tau_run.proofs.Streams.{IsDeclaredCourse}

module _ (n m : ℕ) (mode : LogMode) (load : Workload) (start : Start) (rows : List (Key × Value)) (some : 1 ≤ n) (room : n ≤ most_streams (format_of mode)) (workers : 1 ≤ m) (begins : IsStart (format_of mode) n load start)
    (rows_are : db_of_rows rows ≡ start.base) where
  -- what a run stands on
  abbrev pub stands_on : Load
  stands_on = record {
    procs = load.declarations.procs;
    calls = load.calls;
    mode = mode;
    workers = m;
    streams = n;
    opening = record {
      rows = rows;
      floor = start.log.elv;
      ends = map (λ old. length (opened_with load start old)) start.old;
      anchors = record { items = map (λ ps. length (anchors_of ps)) start.log.streams };
    };
  }

  abbrev l : Load
  l = stands_on

  pub load_is : IsLoadOn n m mode load start stands_on
  load_is = record { procs = refl; calls = refl; mode_is = refl; workers = refl; streams = refl; opening = record { rows = rows_are; floor = refl; ends = refl; anchors = refl } }

  -- a worker that has begun nothing
  abbrev resting_on : List Numbered → Worker
  resting_on calls = record { waiting = calls; hand = None; left = []; committed = [] }

  abbrev waits_at : Bool → ℕ → List Numbered
  waits_at true w = from_on load.calls m (w + 1)
  waits_at false w = []

  -- the state in which nothing has happened
  abbrev pub first : Core
  first = record {
    shards = λ i. record { rows = db_of_rows rows; entries = λ x. None; floor = start.log.elv };
    workers = λ w. resting_on (waits_at (nat_lt w m) w);
    outboxes = λ w. record { posted = []; pending = [] };
    streams = λ j. record { posted = []; moved = []; anchors = []; stop = None };
    acked = λ w. [];
    ends = map (λ old. length (opened_with load start old)) start.old;
    gathered = map (λ old. length (opened_with load start old)) start.old;
    plv = map (λ old. length (opened_with load start old)) start.old;
  }

  -- what holds of each worker that rests on its calls, or on none, holds of each worker
  by_worker : (P : ℕ → Worker → Type 0) → ((w : ℕ) → w < m → P w (resting_on (from_on load.calls m (w + 1)))) → ((w : ℕ) → P w (resting_on [])) → (w : ℕ) → P w (first.workers w)
  by_worker P there none w = elim (cases_Bool (nat_lt w m)) [
    | inl low ↦ (let lt : w < m = grind (arith, nat_tests, low) in subst (λ (b : Bool). P w (resting_on (waits_at b w))) (sym low) (there w lt))
    | inr high ↦ subst (λ (b : Bool). P w (resting_on (waits_at b w))) (sym high) (none w)
  ]

  -- the floor is what was there, which is no more than what each stream holds then
  low_floor : AtMost start.log.elv first.ends
  low_floor = at_most_within start.log.elv first.ends (λ j lt.
      let low : j < n = (let wide = elv_wide (format_of mode) n load start begins in omega (arith, wide, lt)) in
      let old = elv_at (format_of mode) n load start begins j low in
      let now = (is_set n m mode load start l begins.count load_is).opening j low in
      let grown = old_within (format_of mode) n load start begins j in
      omega (arith, old, now, grown))

  pub opens : IsOpening (setting_of stands_on) first
  opens = record {
    count = length_mapped (λ (old : List ℕ). length (opened_with load start old)) start.old ∙ begins.count;
    small = λ w. mod-lt w {m = n} (omega (arith, some));
    ends = refl;
    gathered = refl;
    plv = refl;
    rows = λ x. refl;
    entries = λ i x. refl;
    floors = λ i. low_floor;
    narrow = λ i. (let wide = elv_wide (format_of mode) n load start begins in omega (arith, wide));
    hands = λ w. refl;
    left = λ w. refl;
    committed = λ w. refl;
    pending = λ w. refl;
    posted = λ w. refl;
    own = λ j. refl;
    moved = λ j. refl;
    anchors = λ j. refl;
    acked = λ w. refl;
    stops = λ j. refl;
    calls = by_worker (λ w wk. (c : Numbered) → Member c wk.waiting → call_of load.calls c.number ≡ Some c.call) (λ w lt c q. call_there load.calls m w c q) (λ w c q. absurd q);
    once = by_worker (λ w wk. (k : ℕ) → in_worker k wk ≤ 1) (λ w lt k. (let e = once_there load.calls m w k workers in omega (arith, e))) (λ w k. omega arith);
    whose = by_worker (λ w wk. (k : ℕ) → 1 ≤ in_worker k wk → worker_of m k ≡ w) (λ w lt k e. whose_there load.calls m w k workers lt (omega (arith, e))) (λ w k e. absurd (omega (arith, e)));
  }

  pub first_is : IsFirstState stands_on first
  first_is = record {
    floor_low = λ i lt. at_most_itself start.log.elv;
    floor_high = λ i lt. at_most_itself start.log.elv;
    waiting = λ w lt. (let low : nat_lt w m ≡ true = lt-ltb w m lt in ap (λ (b : Bool). waits_at b w) low);
  }

  pub led : machine.Run (setting_of stands_on) first [] [] first
  led = record { opens = opens; leads = (refl, refl) }

  pub inv : Invariant (setting_of stands_on) [] first
  inv = run_invariant (setting_of stands_on) first [] [] first led

  pub course : IsCatalogue load → IsDeclaredCourse n m mode load start stands_on [] first
  course sound = record { room = room; begins = begins; load_is = load_is; sound = record { catalogue = sound; declared = λ t q up. absurd q }; inv = inv; waits = λ t q up. absurd q }

  -- the run
  abbrev pub empty_run : Run
  empty_run = record { start = start; calls = []; contents = map (opened_with load start) start.old; acks = [] }

  none_reported : reported first.ends [] ≡ []
  none_reported = once (setting_of l) [] first inv

  pub is_run : IsRunOf n stands_on [] first load empty_run
  is_run = record {
    calls = sym (ap (map told_of) none_reported);
    streams = length_mapped (opened_with load start) start.old ∙ begins.count;
    given = λ j content e.
        (let w = got_mapped (opened_with load start) start.old j content e in
        let lt : j < n = (let within = got_within start.old j w.0 w.1 in let count = begins.count in omega (arith, within, count)) in
        let is : opened_at load start j ≡ content = ap (opened_with load start) (got_or start.old j w.0 [] w.1) ∙ w.2 in
        record {
          waiting = [];
          moved = sym ((is_set n m mode load start l begins.count load_is).opening j lt);
          rest = refl;
          records = refl;
          anchors = refl;
          named = tt;
          bytes = [];
          spelled = refl;
          is = sym is ∙ sym (append-nil (opened_at load start j));
        });
    acks = λ w. refl;
  }

  pub history : IsHistory n m load empty_run
  history = is_history (setting_of l) [] first inv n m load empty_run (is_set n m mode load start l begins.count load_is) is_run.calls is_run.streams (map_map length (opened_with load start) start.old) is_run.acks

pub nothing_begun : NothingBegun
nothing_begun n m mode load start rows some room workers begins sound rows_are =
    let catalogue : IsCatalogue load = record { short = sound.short; bytes = sound.bytes; read = sound.read } in
    let c = course n m mode load start rows some room workers begins rows_are catalogue in (
      stands_on n m mode load start rows some room workers begins rows_are,
      first n m mode load start rows some room workers begins rows_are,
      empty_run n m mode load start rows some room workers begins rows_are,
      first_is n m mode load start rows some room workers begins rows_are,
      led n m mode load start rows some room workers begins rows_are,
      record { room = c.room; begins = c.begins; load_is = c.load_is; sound = sound; inv = c.inv; waits = c.waits },
      is_run n m mode load start rows some room workers begins rows_are,
      refl,
      refl,
      refl,
    )
