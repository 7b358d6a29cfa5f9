-- What a worker's call does next, and what stands after it in the core.
use Rattle.std.proofs.Common.{ℕ, ◌%◌, ◌≤◌, ◌≡◌, true, List, [], ◌∷◌, length, refl, sym, ap, subst, ◌∙◌, arith, inl, inr}
use Rattle.std.specs.Prelude.{Option, Some, None}
use Rattle.std.specs.Map.{lookup}
use Rattle.std.specs.FinMap.Entries.{is_sorted}
use Rattle.tau_base.specs.declared.value.Key.{Key}
use Rattle.tau_base.specs.declared.value.Value.{Value}
use Rattle.tau_base.specs.declared.value.Mode.{Mode}
use Rattle.tau_base.specs.declared.value.LogMode.{LogMode}
use Rattle.tau_base.specs.Database.{same_key, key_cmp}
use Rattle.tau_proc.specs.declared.proc.Proc.{Proc}
use Rattle.tau_proc.specs.declared.reply.Reply.{Reply}
use Rattle.tau_proc.specs.declared.reply.Want.{Want}
use Rattle.tau_proc.specs.declared.reply.Want.TheVariants.{Read, Write, Finished}
use Rattle.tau_proc.specs.Effect.{Effect}
use Rattle.tau_proc.specs.Progress.{buffered, next_want}
use Rattle.tau_base.specs.declared.value.Mode.TheVariants as mode
use Rattle.tau_base.specs.declared.value.LogMode.TheVariants.{Values, Commands, WideValues, WideCommands}
use Rattle.tau_record.specs.declared.entry.Entry.TheVariants.{Written, Command}
use Rattle.tau_model.specs.declared.committed.Spot.{Spot}
use Rattle.tau_model.specs.History.{Act, updating}
use Rattle.tau_model.specs.Committed.{lv_at}
use Rattle.tau_model.specs.Logged.{lv}
use Rattle.tau_machine.specs.Stage.{Stage, Ends, stage}
use Rattle.tau_machine.specs.Hands as theory
use Rattle.tau_machine.specs.Hands.{Hand, act_of, lv_of, unplaced_at, spot_of, committed_of}
use Rattle.tau_machine.specs.Worker.{Worker, lock_of, unlocked, write_want, settled, hand_quit, hand_freed, hand_joined}
use Rattle.tau_txn.specs.declared.standing.Standing.{Standing}
use Rattle.tau_txn.specs.declared.standing.Standing.TheVariants.{Running, Quitting, Placed, Freeing, LeftOver}
use Rattle.tau_txn.specs.declared.action.Action.{Action}
use Rattle.tau_txn.specs.declared.action.Action.TheVariants as action
use Rattle.tau_txn.specs.Hand.{PlainHand}
use Rattle.tau_txn.specs.Read.{hand_of, phase_in, act_in, placed_act, effect_of, effect_in}
use Rattle.tau_txn.specs.Actions.{action_of}
use Rattle.tau_txn.specs.Kept.{KeepsHand, is_leaving}
use Rattle.tau_txn.specs.Next.{next_by, Means, Reads, FreesBy, Locks, Quits, Commits, Posts, Frees, Finishes, act_at}
use Rattle.tau_txn.specs.Progress.{IsRunBy, IsFinished, HasCommitted}
use Rattle.tau_txn.specs.Narrow.{listed}
use Rattle.tau_txn.specs.Record.{entry_of, spot_by, kept_joined, kept_reading, kept_by}
use Rattle.tau_txn.specs.Steps.{locked_with, lock_in, lock_by, record_of}
use Rattle.tau_txn.specs.Txn.{PlainTxn, shown, hand_in, joined_by, lv_by}
use Rattle.tau_txn.proofs.Asked.{Asked, asked_at, LockAsked, QuitAsked, CommitAsked, FreesWith, FreeAsked, DoneAsked}
use Rattle.tau_txn.proofs.Bridge.{Effected, effected, lock_is}
use Rattle.tau_txn.proofs.Lowest.{FirstHeld, first_held}
use Rattle.tau_txn.proofs.Nexts.{next_is_that, freeing_finished}

-- a call that shows in the core's hand is not left over
pub record Shows (procs : List Proc) (w : ℕ) (h : PlainHand) (hand : Hand) : Type 0 where
  pub there : h.standing ≡ LeftOver → ⊥
  pub is : hand_of procs w h ≡ hand

pub shows : (procs : List Proc) (w : ℕ) (h : PlainHand) (hand : Hand) → shown procs w h.standing h ≡ Some hand → Shows procs w h hand
shows procs w h hand = at h.standing refl
  where
    some : (s : Standing) → h.standing ≡ s → (s ≡ LeftOver → ⊥) → Some (hand_of procs w h) ≡ Some hand → Shows procs w h hand
    some s e not' is = record { there = λ left. not' (sym e ∙ left); is = cc }

    at : (s : Standing) → h.standing ≡ s → shown procs w s h ≡ Some hand → Shows procs w h hand
    at Running e is = some Running e (λ (b : Running ≡ LeftOver). cc) is
    at Quitting e is = some Quitting e (λ (b : Quitting ≡ LeftOver). cc) is
    at Placed e is = some Placed e (λ (b : Placed ≡ LeftOver). cc) is
    at Freeing e is = some Freeing e (λ (b : Freeing ≡ LeftOver). cc) is
    at LeftOver e is = cc

-- what it does next is what the core's hand does next
pub next_of : (procs : List Proc) (w : ℕ) (h : PlainHand) (hand : Hand) → IsRunBy procs h → is_sorted key_cmp (buffered h.machine) ≡ true → shown procs w h.standing h ≡ Some hand →
    next_by h.standing h ≡ action_of procs w h.leaves (length h.bytes) hand
next_of procs w h hand run sorted is =
    let s = shows procs w h hand is in
    next_is_that procs w h run sorted s.there ∙ ap (action_of procs w h.leaves (length h.bytes)) s.is

-- a call in hand always does something next
never_nothing : (procs : List Proc) (width : ℕ) (h : PlainHand) → IsRunBy procs h → KeepsHand width h → Asked h action.Nothing → ⊥
never_nothing procs width h run keeps (inl q) = let a = keeps.settled.holds q.0 in let b : length h.held ≡ 0 = ap length q.1 in omega (arith, a, b)
never_nothing procs width h run keeps (inr f) = f.1 (freeing_finished procs h run f.0)

pub never_rests : (procs : List Proc) (width : ℕ) (h : PlainHand) → IsRunBy procs h → KeepsHand width h → next_by h.standing h ≡ action.Nothing → ⊥
never_rests procs width h run keeps e = never_nothing procs width h run keeps (asked_at h action.Nothing e)

module _ (procs : List Proc) (w width : ℕ) (mode : LogMode) (h : PlainHand) where
  abbrev pub txn : PlainTxn
  txn = record { worker = w; width = width; mode = mode; hand = Some h }

  module _ (run : IsRunBy procs h) (keeps : KeepsHand width h) (sorted : is_sorted key_cmp (buffered h.machine) ≡ true) where
    shown_at : (s : Standing) → h.standing ≡ s → (s ≡ LeftOver → ⊥) → hand_in procs txn ≡ Some (hand_of procs w h)
    shown_at Running e there = ap (λ (s : Standing). shown procs w s h) e
    shown_at Quitting e there = ap (λ (s : Standing). shown procs w s h) e
    shown_at Placed e there = ap (λ (s : Standing). shown procs w s h) e
    shown_at Freeing e there = ap (λ (s : Standing). shown procs w s h) e
    shown_at LeftOver e there = absurd (there refl)

    phase_at : (s : Standing) → h.standing ≡ s → (hand_of procs w h).phase ≡ phase_in procs w s h
    phase_at s e = ap (λ (r : Standing). phase_in procs w r h) e

    running_shown : h.standing ≡ Running → hand_in procs txn ≡ Some (hand_of procs w h)
    running_shown e = shown_at Running e (λ (b : Running ≡ LeftOver). cc)

    lock_means : (x : Key) (m : Mode) → LockAsked h x m → Locks procs txn x m
    lock_means x m l = record {
      hand = hand_of procs w h;
      is = running_shown l.running;
      phase = phase_at Running l.running;
      next = lock_is procs h run (run.holds l.running) sorted (next_want h.machine) refl ∙ l.lock;
    }

    quit_means : (x : Key) → QuitAsked h x → Quits procs txn x
    quit_means x q = at h.standing refl q.leaving
      where
        f : FirstHeld x h.held
        f = first_held x h.held keeps.shaped.ascend q.key

        at : (s : Standing) → h.standing ≡ s → is_leaving s h.leaves ≡ true → Quits procs txn x
        at Running e l = record { hand = hand_of procs w h; mode = f.mode; is = running_shown e; phase = inr (phase_at Running e, l); held = f.held_in; lowest = f.lowest }
        at Quitting e l = record { hand = hand_of procs w h; mode = f.mode; is = shown_at Quitting e (λ (b : Quitting ≡ LeftOver). cc); phase = inl (phase_at Quitting e); held = f.held_in; lowest = f.lowest }
        at Placed e l = cc
        at Freeing e l = cc
        at LeftOver e l = cc

    some_updating : (ws : List (Key × Value)) → 1 ≤ length ws → updating ws ≡ true
    some_updating [] e = absurd (omega (arith, e))
    some_updating (x ∷ ws) e = refl

    finished_at : (reply : Reply) → next_want h.machine ≡ Finished reply → Effected procs h run
    finished_at reply e = effected procs h run (subst IsFinished (sym e) tt)

    replies_at : (reply : Reply) (e : next_want h.machine ≡ Finished reply) → (finished_at reply e).reply ≡ reply
    replies_at reply e = let f : Finished (finished_at reply e).reply ≡ Finished reply = sym (finished_at reply e).finished ∙ e in cc

    commit_means : (size : ℕ) → CommitAsked h size → Commits procs txn size
    commit_means size k =
        let e = finished_at k.reply k.finished in
        record {
          hand = hand_of procs w h;
          effect = record { reads = run.follows.reads; writes = buffered h.machine; reply = e.reply };
          is = running_shown k.running;
          phase = phase_at Running k.running;
          ended = e.ended;
          locked = lock_is procs h run (run.holds k.running) sorted (next_want h.machine) refl ∙ ap lock_by k.finished;
          updates = some_updating (buffered h.machine) k.some;
          size_is = k.size_is;
        }

    post_means : h.standing ≡ Placed → Posts procs txn
    post_means e = record { hand = hand_of procs w h; act = act_in procs w h; is = shown_at Placed e (λ (b : Placed ≡ LeftOver). cc); phase = phase_at Placed e }

    -- the act of a call that frees its keys
    record Freed (reply : Reply) (v : List ℕ) (ws : List (Key × Value)) : Type 0 where
      act : Act theory.Txn
      is : hand_in procs txn ≡ Some (hand_of procs w h)
      act_is : FreesBy procs (joined_by h.standing) w (hand_of procs w h) act
      writes_are : ws ≡ act.effect.writes
      reply_is : reply ≡ act.effect.reply
      lv_is : v ≡ lv_of act

    freed_as : (reply : Reply) (v : List ℕ) (ws : List (Key × Value)) → next_want h.machine ≡ Finished reply → FreesWith h v ws → Freed reply v ws
    freed_as reply v ws e (inl f) =
        let d = finished_at reply e in
        record {
          act = act_in procs w h;
          is = shown_at Freeing f.0 (λ (b : Freeing ≡ LeftOver). cc);
          act_is = subst (λ (s : Standing). FreesBy procs (joined_by s) w (hand_of procs w h) (act_in procs w h)) (sym f.0) (phase_at Freeing f.0);
          writes_are = f.2 ∙ sym d.writes;
          reply_is = sym (d.replies ∙ replies_at reply e);
          lv_is = f.1 ∙ run.vector (subst HasCommitted (sym f.0) tt)
              ∙ ap (λ (l : List (Key × Value)). lv_of (record (act_in procs w h) { effect = record (effect_of procs h) { writes = l } })) (sym d.writes);
        }
    freed_as reply v ws e (inr f) =
        let d = finished_at reply e in
        let reads = f.0 in
        record {
          act = record {
            call = record { call = record { number = h.number; call = h.call }; worker = w; place = unplaced_at h.dep; anchor = 0 };
            effect = record { reads = run.follows.reads; writes = buffered h.machine; reply = d.reply };
          };
          is = running_shown reads.running;
          act_is = subst (λ (s : Standing). FreesBy procs (joined_by s) w (hand_of procs w h) (record {
            call = record { call = record { number = h.number; call = h.call }; worker = w; place = unplaced_at h.dep; anchor = 0 };
            effect = record { reads = run.follows.reads; writes = buffered h.machine; reply = d.reply };
          })) (sym reads.running) (record { effect = record { reads = run.follows.reads; writes = buffered h.machine; reply = d.reply }; phase = phase_at Running reads.running; ended = d.ended; no_write = reads.none; is = refl });
          writes_are = f.2 ∙ sym reads.none;
          reply_is = sym (replies_at reply e);
          lv_is = f.1 ∙ sym (ap (λ (l : List (Key × Value)). lv_of (record {
            call = record { call = record { number = h.number; call = h.call }; worker = w; place = unplaced_at h.dep; anchor = 0 };
            effect = record { reads = run.follows.reads; writes = l; reply = d.reply };
          })) reads.none);
        }

    free_means : (x : Key) (write : Option Value) → FreeAsked h x write → Frees procs txn x write
    free_means x write f =
        let d = freed_as f.reply f.vector f.writes f.finished f.why in
        let k = first_held x h.held keeps.shaped.ascend f.key in
        record { hand = hand_of procs w h; act = d.act; mode = k.mode; is = d.is; act_is = d.act_is; held = k.held_in; lowest = k.lowest; write_is = f.write_is ∙ ap (lookup (same_key x)) d.writes_are }

    done_means : (reply : Reply) (v : List ℕ) → DoneAsked h reply v → Finishes procs txn reply v
    done_means reply v f =
        let d = freed_as reply v f.writes f.finished f.why in
        record { hand = hand_of procs w h; act = d.act; is = d.is; act_is = d.act_is; held = f.held; reply_is = d.reply_is; lv_is = d.lv_is }

    means_at : (a : Action) → Asked h a → Means procs txn a
    means_at (action.Lock x m) q = lock_means x m q
    means_at (action.Quit x) q = quit_means x q
    means_at (action.Commit size) q = commit_means size q
    means_at action.Post q = post_means q
    means_at (action.Free x write) q = free_means x write q
    means_at (action.Done reply v) q = done_means reply v q
    means_at action.LeftOver q = record { hand = h; is = refl; tries = (keeps.settled.last q).1; held = (keeps.settled.last q).0; gone = ap (λ (s : Standing). shown procs w s h) q }
    means_at action.Nothing q = absurd (never_nothing procs width h run keeps q)

    pub means_of : Means procs txn (next_by h.standing h)
    means_of = means_at (next_by h.standing h) (asked_at h (next_by h.standing h) refl)

-- the core's hand after a lock
pub locked_in : (w : ℕ) (h new : PlainHand) (value : Value) (dep : List ℕ) →
    ((procs : List Proc) (u : ℕ) (l : Key × Mode) → lock_in h ≡ Some l → hand_of procs u new ≡ locked_with (hand_of procs u h) l.0 l.1 value dep) → new.standing ≡ Running →
    (procs : List Proc) (hand : Hand) (x : Key) (m : Mode) → next_by h.standing h ≡ action.Lock x m → shown procs w h.standing h ≡ Some hand →
    shown procs w new.standing new ≡ Some (locked_with hand x m value dep)
locked_in w h new value dep locked running procs hand x m asks' is =
    ap (λ (s : Standing). shown procs w s new) running
    ∙ ap (λ (a : Hand). Some a) (locked procs w (x, m) (asked_at h (action.Lock x m) asks').lock)
    ∙ ap (λ (a : Hand). Some (locked_with a x m value dep)) (shows procs w h hand is).is

-- the core's hand once its record has its place
pub placed_in : (procs : List Proc) (w width : ℕ) (mode : LogMode) (stream start : ℕ) (h new : PlainHand) → stream ≡ w % width → new.standing ≡ Placed →
    ((procs : List Proc) (u : ℕ) → hand_of procs u new ≡ hand_joined (hand_of procs u h) (theory.Placed (placed_act procs u stream start h)) h.dep) →
    (hand : Hand) → shown procs w h.standing h ≡ Some hand →
    shown procs w new.standing new ≡ Some (hand_joined hand (theory.Placed (act_at procs (record { worker = w; width = width; mode = mode; hand = Some h }) start hand)) hand.dep)
placed_in procs w width mode stream start h new own stands placed hand is =
    ap (λ (s : Standing). shown procs w s new) stands
    ∙ ap (λ (a : Hand). Some a) (placed procs w)
    ∙ ap (λ (k : ℕ). Some (hand_joined (hand_of procs w h) (theory.Placed (placed_act procs w k start h)) h.dep)) own
    ∙ ap (λ (a : Hand). Some (hand_joined a (theory.Placed (act_at procs (record { worker = w; width = width; mode = mode; hand = Some h }) start a)) a.dep)) (shows procs w h hand is).is

-- the core's worker after a key was given back
pub quit_in : (procs : List Proc) (w width : ℕ) (h : PlainHand) (after : Worker → Worker) →
    ((wk : Worker) (x : Key) → next_by h.standing h ≡ action.Quit x → after wk ≡ settled (length h.dep) wk (hand_quit (hand_of procs w h) x h.leaves)) → length h.dep ≡ width →
    (wk : Worker) (hand : Hand) (x : Key) → next_by h.standing h ≡ action.Quit x → shown procs w h.standing h ≡ Some hand → after wk ≡ settled width wk (hand_quit hand x h.leaves)
quit_in procs w width h after quit wide wk hand x asks' is =
    quit wk x asks' ∙ ap (λ (n : ℕ). settled n wk (hand_quit (hand_of procs w h) x h.leaves)) wide ∙ ap (λ (a : Hand). settled width wk (hand_quit a x h.leaves)) (shows procs w h hand is).is

-- the core's hand after a key was freed
pub freed_in : (procs : List Proc) (w : ℕ) (h : PlainHand) (after : Option Hand) →
    ((x : Key) (write : Option Value) (act : Act theory.Txn) → next_by h.standing h ≡ action.Free x write → FreesBy procs (joined_by h.standing) w (hand_of procs w h) act →
    after ≡ Some (hand_freed (hand_joined (hand_of procs w h) (theory.Freeing act) h.dep) x)) →
    (hand : Hand) (act : Act theory.Txn) (x : Key) (write : Option Value) → next_by h.standing h ≡ action.Free x write → shown procs w h.standing h ≡ Some hand →
    FreesBy procs (joined_by h.standing) w hand act → after ≡ Some (hand_freed (hand_joined hand (theory.Freeing act) hand.dep) x)
freed_in procs w h after freed hand act x write asks' is frees =
    let e = (shows procs w h hand is).is in
    freed x write act asks' (subst (λ (a : Hand). FreesBy procs (joined_by h.standing) w a act) (sym e) frees) ∙ ap (λ (a : Hand). Some (hand_freed (hand_joined a (theory.Freeing act) a.dep) x)) e

-- what is kept of a call that has joined the committed ones, or is read-only

spot_is : (ws : List (Key × Value)) (h : PlainHand) (t : theory.Txn) → t.place.stream ≡ h.stream → t.place.start ≡ h.start → t.place.past ≡ h.past → t.anchor ≡ h.anchor →
    spot_by ws h ≡ spot_of (updating ws) t
spot_is [] h t a b c d = refl
spot_is (x ∷ ws) h t a b c d = rw (a, b, c, d) refl

pub joined_is_kept : (procs : List Proc) (w : ℕ) (h : PlainHand) (hand : Hand) (act : Act theory.Txn) → IsRunBy procs h → shown procs w h.standing h ≡ Some hand → act_of hand.phase ≡ Some act →
    kept_by h.standing h ≡ Some (committed_of act)
joined_is_kept procs w h hand act run is acts = at h.standing refl
  where
    there : act_of (phase_in procs w h.standing h) ≡ Some act
    there = ap (λ (a : Hand). act_of a.phase) (shows procs w h hand is).is ∙ acts

    finished : HasCommitted h.standing → kept_joined (next_want h.machine) h ≡ Some (committed_of (act_in procs w h))
    finished joined =
        let e = effected procs h run (run.finished joined) in
        ap (λ (x : Want). kept_joined x h) e.finished
        ∙ ap (λ (r : Reply). Some (record { number = h.number; reply = r; dep = h.dep; lv = h.lv; spot = spot_by (buffered h.machine) h })) (sym e.replies)
        ∙ ap (λ (v : List ℕ). Some (record { number = h.number; reply = (effect_of procs h).reply; dep = h.dep; lv = v; spot = spot_by (buffered h.machine) h })) (run.vector joined)
        ∙ ap (λ (s : Option Spot). Some (record {
          number = h.number;
          reply = (effect_of procs h).reply;
          dep = h.dep;
          lv = lv (updating (buffered h.machine)) (record { stream = h.stream; start = h.start; past = h.past; dep = h.dep });
          spot = s;
        })) (spot_is (buffered h.machine) h (act_in procs w h).call refl refl refl refl)
        ∙ ap (λ (ws : List (Key × Value)). Some (record {
          number = h.number;
          reply = (effect_of procs h).reply;
          dep = h.dep;
          lv = lv (updating ws) (record { stream = h.stream; start = h.start; past = h.past; dep = h.dep });
          spot = spot_of (updating ws) (act_in procs w h).call;
        })) (sym e.writes)

    same : (s : Standing) → h.standing ≡ s → act_of (phase_in procs w s h) ≡ Some (act_in procs w h) → Some (committed_of (act_in procs w h)) ≡ Some (committed_of act)
    same s e p = let q : Some (act_in procs w h) ≡ Some act = sym p ∙ sym (ap (λ (r : Standing). act_of (phase_in procs w r h)) e) ∙ there in let r : act_in procs w h ≡ act = cc in ap (λ (a : Act theory.Txn). Some (committed_of a)) r

    none : (s : Standing) → h.standing ≡ s → act_of (phase_in procs w s h) ≡ None → ⊥
    none s e p = let q : None ≡ Some act = sym p ∙ sym (ap (λ (r : Standing). act_of (phase_in procs w r h)) e) ∙ there in cc

    at : (s : Standing) → h.standing ≡ s → kept_by s h ≡ Some (committed_of act)
    at Running e = absurd (none Running e refl)
    at Quitting e = absurd (none Quitting e refl)
    at Placed e = finished (subst HasCommitted (sym e) tt) ∙ same Placed e refl
    at Freeing e = finished (subst HasCommitted (sym e) tt) ∙ same Freeing e refl
    at LeftOver e = absurd (none LeftOver e refl)

pub reading_is_kept : (procs : List Proc) (w : ℕ) (h : PlainHand) (hand : Hand) (act : Act theory.Txn) → IsRunBy procs h → is_sorted key_cmp (buffered h.machine) ≡ true →
    shown procs w h.standing h ≡ Some hand → Reads procs w hand act → kept_by h.standing h ≡ Some (committed_of act)
reading_is_kept procs w h hand act run sorted is reads = at h.standing refl
  where
    s : Shows procs w h hand
    s = shows procs w h hand is

    ended : stage procs h.call h.seen ≡ Ends reads.effect
    ended = ap (λ (a : Hand). stage procs a.call.call a.seen) s.is ∙ reads.ended

    running : (r : Standing) → h.standing ≡ r → phase_in procs w r h ≡ theory.Running
    running r e = sym (ap (λ (r : Standing). phase_in procs w r h) e) ∙ ap (λ (a : Hand). a.phase) s.is ∙ reads.phase

    -- it has ended, so it has no lock left
    finished : (want : Want) → next_want h.machine ≡ want → h.standing ≡ Running → IsFinished want
    finished (Read k) e r =
        let l : lock_of (stage procs h.call h.seen) h.held ≡ Some (k, mode.Read) = lock_is procs h run (run.holds r) sorted (Read k) e in
        let none : lock_of (stage procs h.call h.seen) h.held ≡ None = ap (λ (t : Stage). lock_of t h.held) ended ∙ ap (λ (ws : List (Key × Value)). write_want (unlocked ws h.held)) reads.no_write in
        let bad : Some (k, mode.Read) ≡ None = sym l ∙ none in cc
    finished (Write k) e r =
        let l : lock_of (stage procs h.call h.seen) h.held ≡ Some (k, mode.Write) = lock_is procs h run (run.holds r) sorted (Write k) e in
        let none : lock_of (stage procs h.call h.seen) h.held ≡ None = ap (λ (t : Stage). lock_of t h.held) ended ∙ ap (λ (ws : List (Key × Value)). write_want (unlocked ws h.held)) reads.no_write in
        let bad : Some (k, mode.Write) ≡ None = sym l ∙ none in cc
    finished (Finished reply) e r = tt

    runs' : h.standing ≡ Running → kept_reading (next_want h.machine) (buffered h.machine) h ≡ Some (committed_of act)
    runs' r =
        let e = effected procs h run (finished (next_want h.machine) refl r) in
        let same : ◌≡◌ {A = Stage} (Ends (record { reads = run.follows.reads; writes = buffered h.machine; reply = e.reply })) (Ends reads.effect) = sym e.ended ∙ ended in
        let there : ◌≡◌ {A = Effect} (record { reads = run.follows.reads; writes = buffered h.machine; reply = e.reply }) reads.effect = cc in
        let no_write : buffered h.machine ≡ [] = ap (λ (x : Effect). x.writes) there ∙ reads.no_write in
        ap (λ (x : Want). kept_reading x (buffered h.machine) h) e.finished
        ∙ ap (λ (ws : List (Key × Value)). kept_reading (Finished e.reply) ws h) no_write
        ∙ ap (λ (r : Reply). Some (record { number = h.number; reply = r; dep = h.dep; lv = h.dep; spot = None })) (ap (λ (x : Effect). x.reply) there)
        ∙ ap (λ (a : Hand). Some (record { number = a.call.number; reply = reads.effect.reply; dep = a.dep; lv = a.dep; spot = None })) s.is
        ∙ ap (λ (ws : List (Key × Value)). Some (record {
          number = hand.call.number;
          reply = reads.effect.reply;
          dep = hand.dep;
          lv = lv (updating ws) (unplaced_at hand.dep);
          spot = spot_of (updating ws) (record { call = hand.call; worker = w; place = unplaced_at hand.dep; anchor = 0 });
        })) (sym reads.no_write)
        ∙ ap (λ (a : Act theory.Txn). Some (committed_of a)) (sym reads.is)

    at : (r : Standing) → h.standing ≡ r → kept_by r h ≡ Some (committed_of act)
    at Running e = runs' e
    at Quitting e = let bad : theory.Quitting ≡ theory.Running = running Quitting e in cc
    at Placed e = let bad : theory.Placed (act_in procs w h) ≡ theory.Running = running Placed e in cc
    at Freeing e = let bad : theory.Freeing (act_in procs w h) ≡ theory.Running = running Freeing e in cc
    at LeftOver e = absurd (s.there e)

-- the record of a call that was prepared, as that of the act that it becomes
pub record_is : (procs : List Proc) (w width : ℕ) (mode : LogMode) (start : ℕ) (h : PlainHand) (hand : Hand) → IsRunBy procs h → IsFinished (next_want h.machine) → shown procs w h.standing h ≡ Some hand →
    record_of mode h ≡ entry_of mode (act_at procs (record { worker = w; width = width; mode = mode; hand = Some h }) start hand)
record_is procs w width Values start h hand run finished is =
    let e = effected procs h run finished in
    ap (λ (ws : List (Key × Value)). Written h.number h.anchor h.dep ws) (sym e.writes)
    ∙ ap (λ (a : Hand). Written a.call.number h.anchor a.dep (effect_in (stage procs a.call.call a.seen)).writes) (shows procs w h hand is).is
record_is procs w width Commands start h hand run finished is = ap (λ (a : Hand). Command a.call.number h.anchor a.dep a.call.call) (shows procs w h hand is).is
record_is procs w width WideValues start h hand run finished is =
    let e = effected procs h run finished in
    ap (λ (ws : List (Key × Value)). Written h.number h.anchor h.dep ws) (sym e.writes)
    ∙ ap (λ (a : Hand). Written a.call.number h.anchor a.dep (effect_in (stage procs a.call.call a.seen)).writes) (shows procs w h hand is).is
record_is procs w width WideCommands start h hand run finished is = ap (λ (a : Hand). Command a.call.number h.anchor a.dep a.call.call) (shows procs w h hand is).is

-- the vector of a call that frees its keys
pub freed_lv : (procs : List Proc) (w : ℕ) (h : PlainHand) (hand : Hand) (act : Act theory.Txn) → IsRunBy procs h → shown procs w h.standing h ≡ Some hand → FreesBy procs (joined_by h.standing) w hand act →
    lv_by h.standing h ≡ lv_of act
freed_lv procs w h hand act run is frees = at h.standing refl frees
  where
    s : Shows procs w h hand
    s = shows procs w h hand is

    phase : (r : Standing) → h.standing ≡ r → hand.phase ≡ phase_in procs w r h
    phase r e = sym (ap (λ (r : Standing). phase_in procs w r h) (sym e) ∙ ap (λ (a : Hand). a.phase) s.is)

    at : (r : Standing) → h.standing ≡ r → FreesBy procs (joined_by r) w hand act → lv_by r h ≡ lv_of act
    at Running e f =
        ap (λ (a : Hand). a.dep) s.is
        ∙ ap (λ (ws : List (Key × Value)). lv (updating ws) (unplaced_at hand.dep)) (sym f.no_write) ∙ ap lv_of (sym f.is)
    at Quitting e f = let bad : theory.Quitting ≡ theory.Running = sym (phase Quitting e) ∙ f.phase in cc
    at Placed e f = let bad : theory.Placed (act_in procs w h) ≡ theory.Freeing act = sym (phase Placed e) ∙ f in cc
    at Freeing e f =
        let there : theory.Freeing (act_in procs w h) ≡ theory.Freeing act = sym (phase Freeing e) ∙ f in
        let same : act_in procs w h ≡ act = cc in
        let joined = subst HasCommitted (sym e) tt in
        run.vector joined
        ∙ ap (λ (ws : List (Key × Value)). lv (updating ws) (record { stream = h.stream; start = h.start; past = h.past; dep = h.dep })) (sym (effected procs h run (run.finished joined)).writes)
        ∙ ap lv_of same
    at LeftOver e f = absurd (s.there e)

-- the vector of a call that has joined the committed ones is that of its place
pub lv_kept : (procs : List Proc) (h : PlainHand) → IsRunBy procs h → HasCommitted h.standing → h.lv ≡ lv_at h.dep (spot_by (buffered h.machine) h)
lv_kept procs h run joined = run.vector joined ∙ at (buffered h.machine)
  where
    at : (ws : List (Key × Value)) → lv (updating ws) (record { stream = h.stream; start = h.start; past = h.past; dep = h.dep }) ≡ lv_at h.dep (spot_by ws h)
    at [] = refl
    at (w ∷ ws) = refl

-- what is put of a call that has joined the committed ones
pub joined_put : (h : PlainHand) (said : Reply) (spot : Option Spot) → next_want h.machine ≡ Finished said → spot ≡ spot_by (buffered h.machine) h
    → h.lv ≡ lv_at h.dep (spot_by (buffered h.machine) h)
    → record { number = h.number; reply = said; dep = h.dep; lv = lv_at h.dep spot; spot = spot } ∷ [] ≡ listed (kept_joined (next_want h.machine) h)
joined_put h said spot want is vector =
    (λ i. record { number = h.number; reply = said; dep = h.dep; lv = lv_at h.dep (is i); spot = is i } ∷ [])
    ∙ (λ i. record { number = h.number; reply = said; dep = h.dep; lv = sym vector i; spot = spot_by (buffered h.machine) h } ∷ [])
    ∙ ap (λ (w : Want). listed (kept_joined w h)) (sym want)

-- what is put of a call that has finished and writes nothing
pub reading_put : (h : PlainHand) (said : Reply) → next_want h.machine ≡ Finished said → buffered h.machine ≡ []
    → record { number = h.number; reply = said; dep = h.dep; lv = h.dep; spot = None } ∷ [] ≡ listed (kept_reading (next_want h.machine) (buffered h.machine) h)
reading_put h said want none = λ i. listed (kept_reading (sym want i) (sym none i) h)
