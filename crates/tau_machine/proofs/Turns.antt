-- Events before the commit: a call begins, takes locks, meets Busy and quits.
use Rattle.std.proofs.Common.{ℕ, Bool, true, false, ◌≡◌, ◌⊎◌, inl, inr, List, [], ◌∷◌, refl, sym, ap, subst, ◌∙◌, Option}
use Rattle.std.specs.Prelude.{Some, None, ◌==◌}
use Rattle.std.proofs.lemmas.Bool.{cases_Bool, both_ways}
use Rattle.tau_base.specs.declared.value.Key.{Key}
use Rattle.tau_base.specs.declared.value.Value.{Value}
use Rattle.tau_base.specs.declared.value.Mode.{Mode}
use Rattle.tau_base.specs.declared.value.Mode.TheVariants.{Read, Write}
use Rattle.tau_model.specs.History.{Numbered, Act}
use Rattle.tau_proc.specs.Effect.{Effect, has_key}
use Rattle.tau_base.specs.Database.{same_key}
use Rattle.tau_base.proofs.Keys.{same_key_itself}
use Rattle.tau_machine.specs.Stage.{Stage, Wants, Ends, stage}
use Rattle.tau_machine.specs.Hands.{Txn, Phase, Running, Quitting, Hand, mode_of, hold, without, held_in, act_in, act_of}
use Rattle.tau_machine.specs.Good.{InPhase, Good}
use Rattle.tau_base.specs.declared.limits.TheConstants.{MAX_TRIES}
use Rattle.tau_shard.specs.Shard.{at, Entry, entry_in, held_as, shard_locked, shard_quit}
use Rattle.tau_machine.specs.Worker.{Worker, fresh, begun_by, held_writing, unlocked, write_want, lock_of, hand_locked, settled_by, settled, hand_busy, hand_quit}
use Rattle.tau_machine.specs.State.{Setting, Core, shard_at, sight, hand_of}
use Rattle.tau_machine.specs.Invariant.{CoreGood}
use Rattle.tau_machine.specs.Events.{with_worker, with_shard, ready, lock_next, Conflicts, Locks, Refuses, Quits}
use Rattle.tau_shard.proofs.At.{at_same, at_itself, entry_same, entry_other, cases_key}
use Rattle.tau_machine.proofs.Modes.{hold_same, hold_other, without_same, without_other}
use Rattle.tau_machine.proofs.Own.{uncommitted, Alone, alone_before, alone_less}
use Rattle.tau_machine.proofs.Locks.{lock_read, lock_write, runs_begun}
use Rattle.tau_machine.proofs.States.{hands_at, hand_at, again, Shows, Holders, worker_moved, lock_moved}
use Rattle.tau_base.proofs.Logic.{or_true, or_left}

-- which key is locked next
unlocked_some : (ws : List (Key × Value)) (held : List (Key × Mode)) (x : Key) → unlocked ws held ≡ Some x → has_key x ws ≡ true
unlocked_some [] held x e = cc
unlocked_some (w ∷ ws) held x e = elim (cases_Bool (held_writing (mode_of w.0 held))) [
  | inl y ↦ or_true (same_key x w.0) (has_key x ws) (unlocked_some ws held x (rw y at e))
  | inr n ↦
      let found : Some w.0 ≡ Some x = rw n at e in let is : w.0 ≡ x = cc in
      or_left (same_key x w.0) (has_key x ws) (subst (λ (k : Key). same_key k w.0 ≡ true) is (same_key_itself w.0))
]

pub unlocked_none : (ws : List (Key × Value)) (held : List (Key × Mode)) → unlocked ws held ≡ None → (x : Key) → has_key x ws ≡ true → mode_of x held ≡ Some Write
unlocked_none [] held e x h = absurd (both_ways false refl h)
unlocked_none (w ∷ ws) held e x h = elim (cases_Bool (held_writing (mode_of w.0 held))) [
  | inl y ↦ elim (cases_key x w.0) [
    | inl is ↦ subst (λ (k : Key). mode_of k held ≡ Some Write) (sym is) (writing (mode_of w.0 held) y)
    | inr ne ↦ unlocked_none ws held (rw y at e) x (rw ne at h)
  ]
  | inr n ↦ let bad : Some w.0 ≡ None = rw n at e in cc
]
  where
    writing : (m : Option Mode) → held_writing m ≡ true → m ≡ Some Write
    writing None q = absurd (both_ways false refl q)
    writing (Some Read) q = absurd (both_ways false refl q)
    writing (Some Write) q = refl

module _ (set : Setting) (K : List (Act Txn)) (s : Core) (g : CoreGood set K s) (w : ℕ) where
  -- a worker whose call has not committed goes on with one that has not
  idle_moved : (wk : Worker) → act_in (hand_of s w) ≡ None → act_in wk.hand ≡ None → Alone (hand_of s) w wk.hand →
      ((h : Hand) → wk.hand ≡ Some h → InPhase set.procs set.width K (sight set s) w h h.phase) →
      Good set.procs set.width set.base K (λ u. (at w wk s.workers u).hand) (sight set s)
  idle_moved wk before after alone fine =
      let now : (at w wk s.workers w).hand ≡ wk.hand = hand_at s.workers w wk in
      uncommitted set.procs set.width set.base K (sight set s) (hand_of s) (λ u. (at w wk s.workers u).hand) w (λ u ne. hands_at s.workers w wk u ne) g.good before
      (ap act_in now ∙ after)
      (subst (λ (o : Option Hand). Alone (hand_of s) w o) (sym now) alone)
      (λ h e. fine h (sym now ∙ e))

  -- a resting worker begins its next call
  pub begun_good : CoreGood set K (with_worker s w (ready set s w))
  begun_good = by_case (s.workers w).hand (s.workers w).waiting refl refl
    where
      stays : CoreGood set K (with_worker s w (s.workers w))
      stays = subst (λ (f : ℕ → Worker). CoreGood set K (record s { workers = f })) (sym (at_itself w s.workers)) g

      by_case : (o : Option Hand) (cs : List Numbered) → (s.workers w).hand ≡ o → (s.workers w).waiting ≡ cs →
          CoreGood set K (with_worker s w (begun_by set.width (s.workers w) o cs))
      by_case (Some h) cs e f = stays
      by_case None [] e f = stays
      by_case None (c ∷ cs) e f =
          worker_moved set K s g w (record (s.workers w) { hand = Some (fresh set.width c 0); waiting = cs }) refl
          (λ y. sym (ap (λ (o : Option Hand). held_in o y) e))
          (idle_moved (record (s.workers w) { hand = Some (fresh set.width c 0); waiting = cs }) (ap act_in e) refl
          (λ u x m n ne p q k. cc)
          (λ h is. let same : fresh set.width c 0 ≡ h = cc in subst (λ (i : Hand). InPhase set.procs set.width K (sight set s) w i i.phase) same
          (runs_begun set.procs set.width K (sight set s) c 0 false)))

  -- no other worker holds the key in a conflicting mode
  free_of : (x : Key) (m : Mode) → (Conflicts set (shard_at set s x) w x m → ⊥) →
      (u : ℕ) (n : Mode) → (u ≡ w → ⊥) → held_in (hand_of s u) x ≡ Some n → (m ≡ Write) ⊎ (n ≡ Write) → ⊥
  free_of x m free u n ne e c = free (u, n, ne, g.locks u x ∙ e, c)

  module _ (wk : Worker) (h : Hand) (is : s.workers w ≡ wk) (now : wk.hand ≡ Some h) where
    was : hand_of s w ≡ Some h
    was = ap (λ (k : Worker). k.hand) is ∙ now

    module _ (x : Key) (m : Mode) where
      locked_shows : Shows (shard_at set s x) (shard_locked (shard_at set s x) w x m)
      locked_shows = record {
        row = λ y. refl;
        write_lv = λ y. elim (cases_key y x) [
          | inl same ↦ subst (λ (k : Key). (entry_in (shard_locked (shard_at set s x) w x m) k).write_lv ≡ (entry_in (shard_at set s x) k).write_lv) (sym same)
              (ap (λ (e : Entry). e.write_lv) (entry_same (shard_at set s x) x (held_as (entry_in (shard_at set s x) x) w (Some m))))
          | inr ne ↦ ap (λ (e : Entry). e.write_lv) (entry_other (shard_at set s x) x y (held_as (entry_in (shard_at set s x) x) w (Some m)) ne)
        ];
        read_lv = λ y. elim (cases_key y x) [
          | inl same ↦ subst (λ (k : Key). (entry_in (shard_locked (shard_at set s x) w x m) k).read_lv ≡ (entry_in (shard_at set s x) k).read_lv) (sym same)
              (ap (λ (e : Entry). e.read_lv) (entry_same (shard_at set s x) x (held_as (entry_in (shard_at set s x) x) w (Some m))))
          | inr ne ↦ ap (λ (e : Entry). e.read_lv) (entry_other (shard_at set s x) x y (held_as (entry_in (shard_at set s x) x) w (Some m)) ne)
        ];
      }

      locked_holders : (after : Hand) → after.held ≡ hold x m h.held → Holders set s w x (Some m) (Some after) (shard_locked (shard_at set s x) w x m)
      locked_holders after held = record {
        entry = ap (λ (e : Entry). e.holders) (entry_same (shard_at set s x) x (held_as (entry_in (shard_at set s x) x) w (Some m)));
        others = λ y ne. ap (λ (e : Entry). e.holders) (entry_other (shard_at set s x) x y (held_as (entry_in (shard_at set s x) x) w (Some m)) ne);
        hand = ap (λ (l : List (Key × Mode)). mode_of x l) held ∙ hold_same x m h.held;
        rest = λ y ne. ap (λ (l : List (Key × Mode)). mode_of y l) held ∙ hold_other y x m h.held ne ∙ sym (ap (λ (o : Option Hand). held_in o y) was);
      }

      quit_shows : Shows (shard_at set s x) (shard_quit (shard_at set s x) w x)
      quit_shows = record {
        row = λ y. refl;
        write_lv = λ y. elim (cases_key y x) [
          | inl same ↦ subst (λ (k : Key). (entry_in (shard_quit (shard_at set s x) w x) k).write_lv ≡ (entry_in (shard_at set s x) k).write_lv) (sym same)
              (ap (λ (e : Entry). e.write_lv) (entry_same (shard_at set s x) x (held_as (entry_in (shard_at set s x) x) w None)))
          | inr ne ↦ ap (λ (e : Entry). e.write_lv) (entry_other (shard_at set s x) x y (held_as (entry_in (shard_at set s x) x) w None) ne)
        ];
        read_lv = λ y. elim (cases_key y x) [
          | inl same ↦ subst (λ (k : Key). (entry_in (shard_quit (shard_at set s x) w x) k).read_lv ≡ (entry_in (shard_at set s x) k).read_lv) (sym same)
              (ap (λ (e : Entry). e.read_lv) (entry_same (shard_at set s x) x (held_as (entry_in (shard_at set s x) x) w None)))
          | inr ne ↦ ap (λ (e : Entry). e.read_lv) (entry_other (shard_at set s x) x y (held_as (entry_in (shard_at set s x) x) w None) ne)
        ];
      }

      quit_holders : (o : Option Hand) → ((y : Key) → held_in o y ≡ mode_of y (without x h.held)) → Holders set s w x None o (shard_quit (shard_at set s x) w x)
      quit_holders o held = record {
        entry = ap (λ (e : Entry). e.holders) (entry_same (shard_at set s x) x (held_as (entry_in (shard_at set s x) x) w None));
        others = λ y ne. ap (λ (e : Entry). e.holders) (entry_other (shard_at set s x) x y (held_as (entry_in (shard_at set s x) x) w None) ne);
        hand = held x ∙ without_same x h.held;
        rest = λ y ne. held y ∙ without_other y x h.held ne ∙ sym (ap (λ (o : Option Hand). held_in o y) was);
      }

    abbrev lock_hand : Key → Mode → Hand
    lock_hand x m = hand_locked h x m ((shard_at set s x).rows x) (entry_in (shard_at set s x) x).write_lv (entry_in (shard_at set s x) x).read_lv

    abbrev lock_worker : Key → Mode → Worker
    lock_worker x m = record wk { hand = Some (lock_hand x m) }

    abbrev LockGood : Key → Mode → Type 0
    LockGood x m = CoreGood set K (with_shard (with_worker s w (lock_worker x m)) (set.shard_of x) (shard_locked (shard_at set s x) w x m))

    lock_moves : (x : Key) (m : Mode) → (lock_hand x m).held ≡ hold x m h.held → Good set.procs set.width set.base K (λ u. (at w (lock_worker x m) s.workers u).hand) (sight set s) → LockGood x m
    lock_moves x m held good = lock_moved set K s g w x (Some m) (lock_worker x m) (shard_locked (shard_at set s x) w x m)
        (ap (λ (k : Worker). k.committed) (sym is)) (locked_shows x m) refl (locked_holders x m (lock_hand x m) held) good

    read_good : (x : Key) → h.phase ≡ Running → (rs : List (Key × Value)) → stage set.procs h.call.call h.seen ≡ Wants rs x → (Conflicts set (shard_at set s x) w x Read → ⊥) → LockGood x Read
    read_good x phase rs wants free = lock_moves x Read refl
        (lock_read set.procs set.width set.base K (sight set s) (hand_of s) (λ u. (at w (lock_worker x Read) s.workers u).hand) w
        (λ u ne. hands_at s.workers w (lock_worker x Read) u ne) g.good h x was phase rs wants
        (λ u ne e. free_of x Read free u Write ne e (inr refl)) (hand_at s.workers w (lock_worker x Read)))

    write_good : (x : Key) → h.phase ≡ Running → (e : Effect) → stage set.procs h.call.call h.seen ≡ Ends e → has_key x e.writes ≡ true → (Conflicts set (shard_at set s x) w x Write → ⊥) → LockGood x Write
    write_good x phase e ends writes free = lock_moves x Write refl
        (lock_write set.procs set.width set.base K (sight set s) (hand_of s) (λ u. (at w (lock_worker x Write) s.workers u).hand) w
        (λ u ne. hands_at s.workers w (lock_worker x Write) u ne) g.good h x was phase e ends writes
        (λ u n ne q. free_of x Write free u n ne q (inl refl)) (hand_at s.workers w (lock_worker x Write)))

    -- a lock is granted
    pub lock_good : (x : Key) (m : Mode) → h.phase ≡ Running → lock_next set h ≡ Some (x, m) → (Conflicts set (shard_at set s x) w x m → ⊥) → LockGood x m
    lock_good x m phase next free = by_stage (stage set.procs h.call.call h.seen) refl next
      where
        by_want : (e : Effect) (o : Option Key) → stage set.procs h.call.call h.seen ≡ Ends e → unlocked e.writes h.held ≡ o → write_want o ≡ Some (x, m) → LockGood x m
        by_want e None p q n = cc
        by_want e (Some y) p q n =
            let pair : ◌≡◌ {A = Key × Mode} (y, Write) (x, m) = cc in
            let key : y ≡ x = ap (λ (k : Key × Mode). k.0) pair in
            let mode : Write ≡ m = ap (λ (k : Key × Mode). k.1) pair in
            subst (λ (k : Mode). LockGood x k) mode
            (write_good x phase e p (unlocked_some e.writes h.held x (q ∙ ap (λ (k : Key). Some k) key)) (subst (λ (k : Mode). Conflicts set (shard_at set s x) w x k → ⊥) (sym mode) free))

        by_stage : (t : Stage) → stage set.procs h.call.call h.seen ≡ t → lock_of t h.held ≡ Some (x, m) → LockGood x m
        by_stage (Wants rs y) p n =
            let pair : ◌≡◌ {A = Key × Mode} (y, Read) (x, m) = cc in
            let key : y ≡ x = ap (λ (k : Key × Mode). k.0) pair in
            let mode : Read ≡ m = ap (λ (k : Key × Mode). k.1) pair in
            subst (λ (k : Mode). LockGood x k) mode
            (read_good x phase rs (p ∙ ap (λ (k : Key). Wants rs k) key) (subst (λ (k : Mode). Conflicts set (shard_at set s x) w x k → ⊥) (sym mode) free))
        by_stage (Ends e) p n = by_want e (unlocked e.writes h.held) p refl n

    -- a call that is to quit, and what becomes of it
    settled_good : (i : Hand) → i.phase ≡ Quitting →
        ((settled set.width wk i).committed ≡ wk.committed) × ((y : Key) → held_in (settled set.width wk i).hand y ≡ mode_of y i.held) × (act_in (settled set.width wk i).hand ≡ None) ×
        ((j : Hand) → (settled set.width wk i).hand ≡ Some j → InPhase set.procs set.width K (sight set s) w j j.phase)
    settled_good i quits = by_case i.held i.given_up (i.tries == MAX_TRIES) refl
      where
        by_case : (l : List (Key × Mode)) (up last : Bool) → i.held ≡ l →
            ((settled_by set.width wk i l up last).committed ≡ wk.committed) × ((y : Key) → held_in (settled_by set.width wk i l up last).hand y ≡ mode_of y i.held) ×
            (act_in (settled_by set.width wk i l up last).hand ≡ None) ×
            ((j : Hand) → (settled_by set.width wk i l up last).hand ≡ Some j → InPhase set.procs set.width K (sight set s) w j j.phase)
        by_case (k ∷ ks) up last e = (
          refl,
          λ y. refl,
          ap act_of quits,
          λ j p. let same : i ≡ j = cc in subst (λ (q : Hand). InPhase set.procs set.width K (sight set s) w q q.phase) same
              (subst (λ (q : Phase). InPhase set.procs set.width K (sight set s) w i q) (sym quits) tt),
        )
        by_case [] true last e = (refl, λ y. ap (λ (l : List (Key × Mode)). mode_of y l) (sym e), refl, λ j p. cc)
        by_case [] false true e = (refl, λ y. ap (λ (l : List (Key × Mode)). mode_of y l) (sym e), refl, λ j p. cc)
        by_case [] false false e = (
          refl,
          λ y. ap (λ (l : List (Key × Mode)). mode_of y l) (sym e),
          refl,
          λ j p. let same : fresh set.width i.call i.tries ≡ j = cc in subst (λ (q : Hand). InPhase set.procs set.width K (sight set s) w q q.phase) same
              (runs_begun set.procs set.width K (sight set s) i.call i.tries false),
        )

    settles_good : (i : Hand) → i.phase ≡ Quitting → i.held ≡ h.held → act_of h.phase ≡ None → CoreGood set K (with_worker s w (settled set.width wk i))
    settles_good i quits keeps idle =
        let (kept, held, act, fine) = settled_good i quits in
        let same : (y : Key) → held_in (settled set.width wk i).hand y ≡ held_in (hand_of s w) y =
        (λ y. held y ∙ ap (λ (l : List (Key × Mode)). mode_of y l) keeps ∙ sym (ap (λ (o : Option Hand). held_in o y) was)) in
        worker_moved set K s g w (settled set.width wk i) (kept ∙ ap (λ (k : Worker). k.committed) (sym is)) same
        (idle_moved (settled set.width wk i) (ap act_in was ∙ idle) act
        (alone_less (hand_of s) w (settled set.width wk i).hand (alone_before (hand_of s) w g.good.apart) (λ x m e. sym (same x) ∙ e)) fine)

    -- the call meets Busy
    pub busy_good : h.phase ≡ Running → CoreGood set K (with_worker s w (settled set.width wk (hand_busy h)))
    busy_good phase = settles_good (hand_busy h) refl refl (ap act_of phase)

    -- a call without keys that is let go is as one that is given up and settled
    pub let_go_good : act_of h.phase ≡ None → h.held ≡ [] → CoreGood set K (with_worker s w (record wk { hand = None }))
    let_go_good idle empty =
        let i : Hand = record h { phase = Quitting; given_up = true } in
        subst (λ (k : Worker). CoreGood set K (with_worker s w k)) (ap (λ (l : List (Key × Mode)). settled_by set.width wk i l true (i.tries == MAX_TRIES)) empty)
        (settles_good i refl refl idle)

    -- the call gives a key back
    pub quit_good : (x : Key) (m : Mode) (up : Bool) → act_of h.phase ≡ None → mode_of x h.held ≡ Some m →
        CoreGood set K (with_shard (with_worker s w (settled set.width wk (hand_quit h x up))) (set.shard_of x) (shard_quit (shard_at set s x) w x))
    quit_good x m up phase there =
        let (kept, held, act, fine) = settled_good (hand_quit h x up) refl in
        lock_moved set K s g w x None (settled set.width wk (hand_quit h x up)) (shard_quit (shard_at set s x) w x) (kept ∙ ap (λ (k : Worker). k.committed) (sym is))
        (quit_shows x m) refl (quit_holders x m (settled set.width wk (hand_quit h x up)).hand held)
        (idle_moved (settled set.width wk (hand_quit h x up)) (ap act_in was ∙ phase) act
        (alone_less (hand_of s) w (settled set.width wk (hand_quit h x up)).hand (alone_before (hand_of s) w g.good.apart)
        (λ y n e. let q : mode_of y (without x h.held) ≡ Some n = sym (held y) ∙ e in ap (λ (o : Option Hand). held_in o y) was ∙ less y n q)) fine)
      where
        less : (y : Key) (n : Mode) → mode_of y (without x h.held) ≡ Some n → mode_of y h.held ≡ Some n
        less y n e = elim (cases_key y x) [
          | inl same ↦ absurd (let at' : mode_of x (without x h.held) ≡ Some n = subst (λ (k : Key). mode_of k (without x h.held) ≡ Some n) same e in
              let bad : None ≡ Some n = sym (without_same x h.held) ∙ at' in cc)
          | inr ne ↦ sym (without_other y x h.held ne) ∙ e
        ]

module _ (set : Setting) (K : List (Act Txn)) where
  pub locks_good : (s s' : Core) (w : ℕ) → CoreGood set K s → Locks set w s s' → CoreGood set K s'
  locks_good s s' w g q = subst (λ (c : Core). CoreGood set K c) (sym q.after)
      (subst (λ (c : Core). CoreGood set K (with_shard c (set.shard_of q.key) (shard_locked (shard_at set s q.key) w q.key q.mode)))
      (again s w (record (ready set s w) { hand = Some (hand_locked q.hand q.key q.mode ((shard_at set s q.key).rows q.key) (entry_in (shard_at set s q.key) q.key).write_lv (entry_in (shard_at set s q.key) q.key).read_lv) }) (ready set s w))
      (lock_good set K (with_worker s w (ready set s w)) (begun_good set K s g w) w (ready set s w) q.hand (at_same w (ready set s w) s.workers) q.is
      q.key q.mode q.phase q.next q.free))

  pub refuses_good : (s s' : Core) (w : ℕ) → CoreGood set K s → Refuses set w s s' → CoreGood set K s'
  refuses_good s s' w g q = subst (λ (c : Core). CoreGood set K c) (sym q.after)
      (subst (λ (c : Core). CoreGood set K c) (again s w (settled set.width (ready set s w) (hand_busy q.hand)) (ready set s w))
      (busy_good set K (with_worker s w (ready set s w)) (begun_good set K s g w) w (ready set s w) q.hand (at_same w (ready set s w) s.workers) q.is q.phase))

  pub quits_good : (s s' : Core) (w : ℕ) (up : Bool) → CoreGood set K s → Quits set w up s s' → CoreGood set K s'
  quits_good s s' w up g q = subst (λ (c : Core). CoreGood set K c) (sym q.after)
      (quit_good set K s g w (s.workers w) q.hand refl q.is q.key q.mode up
      (elim q.phase [ inl e ↦ ap act_of e | inr e ↦ ap act_of e.0 ]) q.held)
