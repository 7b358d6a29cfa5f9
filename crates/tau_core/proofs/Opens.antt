-- A state in which nothing has happened is an opening of the machine, and stands.
use Rattle.std.proofs.Common.{ℕ, suc, ◌+◌, ◌-◌, ◌<◌, ◌≤◌, ◌≡◌, Bool, true, false, List, [], ◌∷◌, ◌++◌, length, refl, sym, ap, subst, ◌∙◌, Option, arith}
use Rattle.std.specs.Prelude.{Some, None, if◌then◌else◌, is_some, IsTrue, map, slice_get}
use Rattle.std.proofs.lemmas.Option.{slice_get_within, get_or_from_slice_get}
use Rattle.tau_base.specs.declared.limits.TheConstants.{MAX_BODY, SHARDS}
use Rattle.tau_base.specs.declared.value.Call.{Call}
use Rattle.tau_base.specs.declared.value.Key.{Key}
use Rattle.tau_base.specs.Shards.{shard_number}
use Rattle.tau_base.specs.Vectors.{AtMost}
use Rattle.tau_proc.specs.Takes.{takes}
use Rattle.tau_model.specs.Tables.{db_of_rows}
use Rattle.tau_model.specs.History.{Act, Numbered, Member}
use Rattle.tau_model.specs.declared.committed.Committed.{Committed}
use Rattle.tau_machine.specs.Accounts.{in_worker}
use Rattle.std.proofs.Math.Nat.{mod-lt}
use Rattle.tau_machine.specs.Hands.{Txn, Hand}
use Rattle.tau_shard.specs.Shard as machine
use Rattle.tau_machine.specs.Worker.{Worker}
use Rattle.tau_machine.specs.Pieces.{placed_in}
use Rattle.tau_machine.specs.Runs.{IsOpening}
use Rattle.tau_machine.proofs.Runs.{run_invariant}
use Rattle.tau_outbox.specs.declared.Piece.{Piece}
use Rattle.tau_shard.specs.Plain.{PlainShard}
use Rattle.tau_shard.specs.Read.{shard_of}
use Rattle.tau_txn.specs.Txn.{PlainTxn, hand_in, RunsBy, leaves_in}
use Rattle.tau_core.specs.declared.state.Load.{Load}
use Rattle.tau_core.specs.Plain.{PlainSeat, PlainStream}
use Rattle.tau_core.specs.State.{Plain}
use Rattle.tau_core.specs.View.{call_of, worker_of, from_on, again_in, all_numbered, committed_by, setting_of, core_of, shard_in, worker_in, worker_at, pending_in, anchors_in, stop_in}
use Rattle.tau_core.specs.Pieces.{IsPieceOf, Paired}
use Rattle.tau_core.specs.Stands.{is_open, open_calls, AreNumbers, SoundSeat, Sound, anchors_at, Stands}
use Rattle.tau_core.specs.Opens.{IsUnlocked, Opens, Opened, calls_of, nothing}
use Rattle.tau_core.proofs.Numbers.{numbers}
use Rattle.tau_core.proofs.Shards.{shard_small}
use Rattle.tau_core.proofs.Turns.{call_there, once_there, whose_there, stands_there}
use Rattle.tau_base.proofs.Lists.{some_at}

-- a worker that has begun none of these calls
abbrev resting_on : List Numbered → Worker
resting_on calls = record { waiting = calls; hand = None; left = []; committed = [] }

no_hand : {A : Type 0} {hand : Option Hand} → hand ≡ None → (h : Hand) → hand ≡ Some h → A
no_hand none h f = absurd (let bad : None ≡ Some h = sym none ∙ f in cc)

no_true : {A : Type 0} {b : Bool} → b ≡ false → b ≡ true → A
no_true none f = absurd (let bad : false ≡ true = sym none ∙ f in cc)

no_place : {A : Type 0} {place : Option (Act Txn)} (t : Act Txn) → place ≡ None → place ≡ Some t → A
no_place t none f = absurd (let bad : None ≡ Some t = sym none ∙ f in cc)

no_number : {A : Type 0} {again : Option ℕ} (n : ℕ) → again ≡ None → again ≡ Some n → A
no_number n none f = absurd (let bad : None ≡ Some n = sym none ∙ f in cc)

no_entry : {A : Type 0} {entry : Option machine.Entry} (t : machine.Entry) → entry ≡ None → entry ≡ Some t → A
no_entry t none f = absurd (let bad : None ≡ Some t = sym none ∙ f in cc)

module _ (p : Plain) (o : Opens p.load p) where
  shard_unlocked : (i : ℕ) (s : PlainShard) → slice_get p.shards i ≡ Some s → IsUnlocked p.load.opening.floor s
  shard_unlocked i s e = (o.shards.each i s e).unlocked

  no_entries : (i : ℕ) (x : Key) (q : Option PlainShard) → slice_get p.shards i ≡ q → (shard_in q).entries x ≡ None
  no_entries i x None e = refl
  no_entries i x (Some s) e = (shard_unlocked i s e).entries x

  low_floor : (i : ℕ) (q : Option PlainShard) → slice_get p.shards i ≡ q → AtMost (shard_in q).floor p.load.opening.ends
  low_floor i None e j = omega arith
  low_floor i (Some s) e j = (let a = (shard_unlocked i s e).high j in let b = o.sound.fits.covered j in omega arith)

  narrow_floor : (i : ℕ) (q : Option PlainShard) → slice_get p.shards i ≡ q → length (shard_in q).floor ≤ p.load.streams
  narrow_floor i None e = omega arith
  narrow_floor i (Some s) e = (let a = (shard_unlocked i s e).narrow in let b = o.sound.fits.floor in let c = o.sound.ends in omega arith)

  rows_there : (x : Key) → shard_number x < SHARDS → (shard_in (slice_get p.shards (shard_number x))).rows x ≡ db_of_rows p.load.opening.rows x
  rows_there x lt =
      let within : shard_number x < length p.shards = (let e = o.shards.count in omega arith) in
      let found = some_at p.shards (shard_number x) within in
      ap (λ (q : Option PlainShard). (shard_in q).rows x) found.1 ∙ (o.shards.each (shard_number x) found.0 found.1).rows x refl

  none_committed : (w : ℕ) → committed_by p.load.workers w p.committed ≡ []
  none_committed w = ap (committed_by p.load.workers w) o.committed

  seat_rests : (w : ℕ) (s : PlainSeat) → slice_get p.seats w ≡ Some s → worker_at p w ≡ resting_on (from_on p.load.calls p.load.workers (w + 1))
  seat_rests w s e =
      let r = o.seats.each w s e in
      ap (λ (q : Option PlainSeat). worker_in p.load q (committed_by p.load.workers w p.committed)) e ∙ (λ i. record {
        waiting = again_in p.load.calls (r.again i) ++ from_on p.load.calls p.load.workers (r.next i);
        hand = hand_in p.load.procs (r.txn i);
        left = all_numbered p.load.calls (r.left i);
        committed = none_committed w i;
      })

  none_rests : (w : ℕ) → slice_get p.seats w ≡ None → worker_at p w ≡ resting_on []
  none_rests w e =
      ap (λ (q : Option PlainSeat). worker_in p.load q (committed_by p.load.workers w p.committed)) e ∙ ap (λ (c : List Committed). worker_in p.load None c) (none_committed w)

  -- what holds of each worker that rests on its calls, or on none, holds of each worker
  by_worker : (P : ℕ → Worker → Type 0) → ((w : ℕ) → w < p.load.workers → P w (resting_on (from_on p.load.calls p.load.workers (w + 1)))) → ((w : ℕ) → P w (resting_on [])) → (w : ℕ) → P w (worker_at p w)
  by_worker P some none w = by_case (slice_get p.seats w) refl
    where
      by_case : (q : Option PlainSeat) → slice_get p.seats w ≡ q → P w (worker_at p w)
      by_case None e = subst (P w) (sym (none_rests w e)) (none w)
      by_case (Some s) e =
          let within = slice_get_within p.seats w s e in
          let lt : w < p.load.workers = (let c = o.seats.count in omega arith) in
          subst (P w) (sym (seat_rests w s e)) (some w lt)

  none_pending : (w : ℕ) (q : Option PlainSeat) → slice_get p.seats w ≡ q → pending_in q ≡ []
  none_pending w None e = refl
  none_pending w (Some s) e = ap (map (λ c. record { number = c.number; lv = c.lv })) (o.seats.each w s e).pending

  none_anchors : (j : ℕ) (q : Option PlainStream) → slice_get p.streams j ≡ q → anchors_in q ≡ []
  none_anchors j None e = refl
  none_anchors j (Some s) e = (o.streams.each j s e).anchors

  none_stop : (j : ℕ) (q : Option PlainStream) → slice_get p.streams j ≡ q → stop_in q ≡ None
  none_stop j None e = refl
  none_stop j (Some s) e = (o.streams.each j s e).stop

  is_opening : IsOpening (setting_of p.load) (core_of p nothing)
  is_opening = record {
    count = o.sound.ends;
    small = λ w. (let e = o.sound.streams_low in omega arith);
    ends = o.ends;
    gathered = o.gathered;
    plv = o.plv;
    rows = λ x. rows_there x (shard_small x);
    entries = λ i x. no_entries i x (slice_get p.shards i) refl;
    floors = λ i. low_floor i (slice_get p.shards i) refl;
    narrow = λ i. narrow_floor i (slice_get p.shards i) refl;
    hands = by_worker (λ w wk. wk.hand ≡ None) (λ w lt. refl) (λ w. refl);
    left = by_worker (λ w wk. wk.left ≡ []) (λ w lt. refl) (λ w. refl);
    committed = by_worker (λ w wk. wk.committed ≡ []) (λ w lt. refl) (λ w. refl);
    pending = λ w. none_pending w (slice_get p.seats w) refl;
    posted = λ w. refl;
    own = λ j. refl;
    moved = λ j. refl;
    anchors = λ j. none_anchors j (slice_get p.streams j) refl;
    acked = λ w. refl;
    stops = λ j. none_stop j (slice_get p.streams j) refl;
    calls = by_worker (λ w wk. (c : Numbered) → Member c wk.waiting → call_of p.load.calls c.number ≡ Some c.call)
        (λ w lt c m. call_there p.load.calls p.load.workers w c m) (λ w c m. absurd m);
    once = by_worker (λ w wk. (n : ℕ) → in_worker n wk ≤ 1)
        (λ w lt n. (let e = once_there p.load.calls p.load.workers w n o.sound.workers_low in omega arith)) (λ w n. omega arith);
    whose = by_worker (λ w wk. (n : ℕ) → 1 ≤ in_worker n wk → worker_of p.load.workers n ≡ w)
        (λ w lt n e. whose_there p.load.calls p.load.workers w n o.sound.workers_low lt (omega arith)) (λ w n e. absurd (omega arith));
  }

  seat_sound : (w : ℕ) (s : PlainSeat) → slice_get p.seats w ≡ Some s → SoundSeat p.load w s
  seat_sound w s e =
      let r = o.seats.each w s e in
      let within = slice_get_within p.seats w s e in
      let lt : w < p.load.workers = (let c = o.seats.count in omega arith) in
      let next = r.next in
      let none : hand_in p.load.procs s.txn ≡ None = ap (hand_in p.load.procs) r.txn in
      let still : is_some s.txn.hand ≡ false = ap (λ (t : PlainTxn). is_some t.hand) r.txn in
      record {
        txn = record {
          worker = ap (λ (t : PlainTxn). t.worker) r.txn;
          width = ap (λ (t : PlainTxn). t.width) r.txn;
          mode = ap (λ (t : PlainTxn). t.mode) r.txn;
          runs = subst (λ (t : PlainTxn). RunsBy p.load.procs t) (sym r.txn) tt;
          stays = still ∙ sym (ap is_some none);
          leaving = ap leaves_in r.txn;
          call = λ h f. no_hand none h f;
          whose = λ h f. no_hand none h f;
        };
        store = record {
          ends = λ f. no_true still f;
          leaves = λ f. no_true still f;
          posts = λ t f. no_place t (ap placed_in none) f;
          low = omega arith;
          high = omega arith;
          again = λ n f. no_number n r.again f;
          left = subst (λ (l : List ℕ). AreNumbers p.load l) (sym r.left) tt;
        };
      }

  none_open : (l : Load) (xs : List PlainSeat) → ((w : ℕ) (s : PlainSeat) → slice_get xs w ≡ Some s → is_open (hand_in l.procs s.txn) ≡ false) → open_calls l xs ≡ 0
  none_open l [] f = refl
  none_open l (x ∷ xs) f =
      let first : is_open (hand_in l.procs x.txn) ≡ false = f 0 x refl in
      let rest : open_calls l xs ≡ 0 = none_open l xs (λ w s e. f (suc w) s e) in
      λ i. (if first i then 1 else 0) + rest i

  -- each call, by its number
  calls_taken : (n : ℕ) (c : Call) → call_of p.load.calls n ≡ Some c → IsTrue (takes p.load.procs c)
  calls_taken n c e =
      let q = numbers p.load n c e in
      let same : q.call ≡ c = (let f : Some q.call ≡ Some c = sym q.is ∙ e in cc) in
      let got = get_or_from_slice_get p.load.calls (n - 1) q.call q.call q.got in
      subst (λ (x : Call). IsTrue (takes p.load.procs x)) (got ∙ same) (o.sound.calls.taken (n - 1) q.call (slice_get_within p.load.calls (n - 1) q.call q.got))

  is_sound : Sound p
  is_sound =
      let none = none_open p.load p.seats (λ w s e. ap is_open (ap (hand_in p.load.procs) (o.seats.each w s e).txn)) in
      record {
        workers_low = o.sound.workers_low;
        workers_high = o.sound.workers_high;
        streams_low = o.sound.streams_low;
        streams_high = o.sound.streams_high;
        few = o.sound.calls.count;
        takes = calls_taken;
        opened = o.sound.fits.anchors ∙ o.sound.ends;
        shards = o.shards.count;
        seats = o.seats.count;
        streams = o.streams.count_is;
        ends = ap length o.ends ∙ o.sound.ends;
        gathered = ap length o.gathered ∙ o.sound.ends;
        plv = ap length o.plv ∙ o.sound.ends;
        seat = seat_sound;
        wide = λ j s e. (
          subst (λ (l : List (List ℕ)). (a : List ℕ) → Member a l → length a ≡ p.load.streams) (sym (o.streams.each j s e).anchors) (λ a m. absurd m),
          subst (λ (l : List ℕ). length l ≤ MAX_BODY) (sym (o.streams.each j s e).body) (omega arith),
        );
        narrow = λ i s e. record { floor = narrow_floor i (Some s) e; entries = λ x t f. no_entry t ((shard_unlocked i s e).entries x) f };
        room = omega (arith, none);
      }

  is_standing : Stands p [] nothing
  is_standing = record {
    sound = is_sound;
    inv = run_invariant (setting_of p.load) (core_of p nothing) [] [] (core_of p nothing) (record { opens = is_opening; leads = (refl, refl) });
    order = o.committed;
    posted = λ w s e. subst (λ (l : List Piece). Paired (IsPieceOf p.load (anchors_at p)) l []) (sym (o.seats.each w s e).pieces) tt;
    own = λ j s e. subst (λ (l : List Piece). Paired (IsPieceOf p.load (anchors_at p)) l []) (sym (o.streams.each j s e).own) tt;
    placed = λ w s t e f. no_place t (ap placed_in (ap (hand_in p.load.procs) (o.seats.each w s e).txn)) f;
    gathered = λ j s e. (o.streams.each j s e).body;
  }

  floor_there : (P : List ℕ → Type 0) → ((s : PlainShard) → IsUnlocked p.load.opening.floor s → P (shard_of s).floor) → (i : ℕ) → i < SHARDS → P (shard_in (slice_get p.shards i)).floor
  floor_there P f i lt =
      let within : i < length p.shards = (let e = o.shards.count in omega arith) in
      let found = some_at p.shards i within in
      subst (λ (q : Option PlainShard). P (shard_in q).floor) (sym found.1) (f found.0 (shard_unlocked i found.0 found.1))

  call_waits : (k : ℕ) → 1 ≤ k → k ≤ length p.load.calls → (w : ℕ) × (1 ≤ in_worker k (worker_at p w))
  call_waits k some high =
      let w = worker_of p.load.workers k in
      let lt : w < length p.seats = (let c = o.seats.count in let low = o.sound.workers_low in let few = mod-lt (k - 1) {m = p.load.workers} (omega (arith, low)) in omega (arith, c, few)) in
      let found = some_at p.seats w lt in
      let there = stands_there p.load.calls p.load.workers k o.sound.workers_low some high in
      (w, subst (λ (wk : Worker). 1 ≤ in_worker k wk) (sym (seat_rests w found.0 found.1)) (omega (arith, there)))

  calls_wait : (w : ℕ) → w < p.load.workers → (worker_at p w).waiting ≡ calls_of p.load w
  calls_wait w lt =
      let within : w < length p.seats = (let c = o.seats.count in omega arith) in
      let found = some_at p.seats w within in
      ap (λ (wk : Worker). wk.waiting) (seat_rests w found.0 found.1)

  is_opened : Opened p.load p
  is_opened = record {
    load = refl;
    opening = is_opening;
    stands = is_standing;
    waits = call_waits;
    waiting = calls_wait;
    floor_low = floor_there (λ v. AtMost p.load.opening.floor v) (λ s u. u.low);
    floor_high = floor_there (λ v. AtMost v p.load.opening.floor) (λ s u. u.high);
  }

-- where nothing has happened, an opening of the machine, which stands
pub opened : (l : Load) (p : Plain) → Opens l p → Opened l p
opened l p o = subst (λ (x : Load). Opened x p) o.load (is_opened p (subst (λ (x : Load). Opens x p) (sym o.load) o))
