-- What is left of a worker falls with each event of its own.
use Rattle.std.proofs.Common.{ℕ, suc, ◌+◌, ◌-◌, ◌*◌, ◌<◌, ◌≤◌, ◌==◌, ◌≡◌, Bool, true, false, inl, inr, List, [], ◌∷◌, ◌++◌, length, refl, sym, ap, subst, ◌∙◌, Option, arith}
use Rattle.std.specs.Prelude.{Some, None, ◌||◌}
use Rattle.std.proofs.lemmas.Bool.{cases_Bool}
use Rattle.tau_base.specs.declared.limits.TheConstants.{MAX_TRIES}
use Rattle.tau_base.specs.declared.value.Call.{Call}
use Rattle.tau_base.specs.declared.value.Key.{Key}
use Rattle.tau_base.specs.declared.value.Mode.{Mode}
use Rattle.tau_base.specs.declared.value.Mode.TheVariants.{Read, Write}
use Rattle.tau_base.specs.declared.value.Value.{Value}
use Rattle.tau_base.specs.Database.{same_key}
use Rattle.tau_proc.specs.declared.proc.Proc.{Proc}
use Rattle.tau_model.specs.History.{Act, Numbered}
use Rattle.tau_machine.specs.Hands.{Txn, committed_of, Phase, Running, Quitting, Placed, Freeing, Hand, mode_of, without, hold}
use Rattle.tau_shard.specs.Shard.{at, entry_in}
use Rattle.tau_machine.specs.Stage.{Stage, Wants, Ends, stage}
use Rattle.tau_machine.specs.State.{Setting, Core}
use Rattle.tau_machine.specs.Worker.{Worker, fresh, begun, begun_by, held_writing, unlocked, write_want, lock_of, hand_locked, settled, settled_by, hand_busy, hand_quit, hand_joined, hand_freed}
use Rattle.tau_machine.specs.Events.{Event, Lock, Busy, Quit, Commit, Post, Free, FirstFree, Done, DoneReading, Drop, Gather, PlaceAnchor, Persist, Ack, Stop, Resume, Leads, ready, Locks, Refuses, Quits, Commits, Posts, Reads, Frees, Finishes}
use Rattle.tau_shard.proofs.At.{at_same, cases_key}
use Rattle.tau_machine.proofs.Modes.{hold_same, hold_other}
use Rattle.tau_run.specs.Turns.{IsOwn}
use Rattle.tau_step.specs.Remains.{times, not_held, writes_left, size_of, locks_left, try_left, up_left, phase_left, hand_left, hand_in_left, calls_left, worker_left}
use Rattle.tau_step.proofs.Readings.{reads_few, reads_fewer, hold_more, writes_few}
use Rattle.tau_machine.proofs.Locks.{read_write}

-- a call in hand that runs has tries left
abbrev pub HasTries : Worker → Type 0
HasTries wk = (h : Hand) → wk.hand ≡ Some h → h.phase ≡ Running → h.tries < MAX_TRIES

-- ---- keys

none_some : (a : Key × Mode) → None ≡ Some a → ⊥
none_some a e = cc

some_is : (a b : Key × Mode) → Some a ≡ Some b → a ≡ b
some_is a b e = cc e

wants_no_read : (o : Option Key) (key : Key) → write_want o ≡ Some (key, Read) → ⊥
wants_no_read None key p = none_some (key, Read) p
wants_no_read (Some k) key p = read_write (sym (ap (λ (l : Key × Mode). l.1) (some_is (k, Write) (key, Read) p)))

wants_write : (o : Option Key) (key : Key) → write_want o ≡ Some (key, Write) → o ≡ Some key
wants_write None key p = absurd (none_some (key, Write) p)
wants_write (Some k) key p = ap (λ (l : Key × Mode). Some l.0) (some_is (k, Write) (key, Write) p)

without_few : (x : Key) (held : List (Key × Mode)) → length (without x held) ≤ length held
without_few x [] = omega arith
without_few x (e ∷ es) = elim (cases_Bool (same_key x e.0)) [
  | inl is ↦ rw is (omega (arith, without_few x es))
  | inr no' ↦ rw no' (omega (arith, without_few x es))
]

without_fewer : (x : Key) (m : Mode) (held : List (Key × Mode)) → mode_of x held ≡ Some m → length (without x held) < length held
without_fewer x m [] e = cc
without_fewer x m (k ∷ ks) e = elim (cases_Bool (same_key x k.0)) [
  | inl is ↦ rw is (omega (arith, without_few x ks))
  | inr no' ↦ rw no' (omega (arith, without_fewer x m ks (rw no' at e)))
]

not_held_few : (ws : List (Key × Value)) (held : List (Key × Mode)) → not_held ws held ≤ length ws
not_held_few [] held = omega arith
not_held_few (w ∷ ws) held = elim (cases_Bool (held_writing (mode_of w.0 held))) [
  | inl is ↦ rw is (omega (arith, not_held_few ws held))
  | inr no' ↦ rw no' (omega (arith, not_held_few ws held))
]

one_more : (w x : Key) (held : List (Key × Mode)) → held_writing (mode_of w held) ≡ true → held_writing (mode_of w (hold x Write held)) ≡ true
one_more w x held is = elim (cases_key w x) [
  | inl same ↦ subst (λ (k : Key). held_writing (mode_of k (hold x Write held)) ≡ true) (sym same) (ap held_writing (hold_same x Write held))
  | inr ne ↦ ap held_writing (hold_other w x Write held ne) ∙ is
]

not_held_less : (ws : List (Key × Value)) (x : Key) (held : List (Key × Mode)) → not_held ws (hold x Write held) ≤ not_held ws held
not_held_less [] x held = omega arith
not_held_less (w ∷ ws) x held = elim (cases_Bool (held_writing (mode_of w.0 held))) [
  | inl is ↦ rw (is, one_more w.0 x held is) (omega (arith, not_held_less ws x held))
  | inr no' ↦ rw no' (elim (cases_Bool (held_writing (mode_of w.0 (hold x Write held)))) [
    | inl now ↦ rw now (omega (arith, not_held_less ws x held))
    | inr read_write ↦ rw read_write (omega (arith, not_held_less ws x held))
  ])
]

not_held_fewer : (ws : List (Key × Value)) (x : Key) (held : List (Key × Mode)) → unlocked ws held ≡ Some x → not_held ws (hold x Write held) < not_held ws held
not_held_fewer [] x held e = cc
not_held_fewer (w ∷ ws) x held e = elim (cases_Bool (held_writing (mode_of w.0 held))) [
  | inl is ↦ rw (is, one_more w.0 x held is) (omega (arith, not_held_fewer ws x held (rw is at e)))
  | inr no' ↦
      (let found : Some w.0 ≡ Some x = rw no' at e in
      let same : w.0 ≡ x = cc in
      let now : held_writing (mode_of w.0 (hold x Write held)) ≡ true = subst (λ (k : Key). held_writing (mode_of k (hold x Write held)) ≡ true) (sym same) (ap held_writing (hold_same x Write held)) in
      rw (no', now) (omega (arith, not_held_less ws x held)))
]

module _ (procs : List Proc) where
  writes_most : (c : Call) (seen : List (Key × Value)) (s : Stage) (held : List (Key × Mode)) → stage procs c seen ≡ s → writes_left (size_of procs c) s held ≤ size_of procs c
  writes_most c seen (Wants rs k) held e = omega arith
  writes_most c seen (Ends f) held e = omega (arith, not_held_few f.writes held, writes_few procs c seen f e)

  locks_most : (c : Call) (seen : List (Key × Value)) (held : List (Key × Mode)) → locks_left procs c seen held ≤ 2 * size_of procs c
  locks_most c seen held = omega (arith, reads_few procs c seen, writes_most c seen (stage procs c seen) held refl)

  -- a lock leaves fewer
  wanted : (c : Call) (seen : List (Key × Value)) (held : List (Key × Mode)) (key : Key) (row : Value) (s : Stage) → stage procs c seen ≡ s → lock_of s held ≡ Some (key, Read) →
      locks_left procs c (seen ++ (key, row) ∷ []) (hold key Read held) < locks_left procs c seen held
  wanted c seen held key row (Wants rs x) e is =
      let same : x ≡ key = ap (λ (l : Key × Mode). l.0) (some_is (x, Read) (key, Read) is) in
      let fewer = reads_fewer procs c seen key row rs (e ∙ ap (λ (k : Key). Wants rs k) same) in
      let most = writes_most c (seen ++ (key, row) ∷ []) (stage procs c (seen ++ (key, row) ∷ [])) (hold key Read held) refl in
      let all : writes_left (size_of procs c) (stage procs c seen) held ≡ size_of procs c = ap (λ (s : Stage). writes_left (size_of procs c) s held) e in
      omega (arith, fewer, most, all)
  wanted c seen held key row (Ends f) e is = absurd (wants_no_read (unlocked f.writes held) key is)

  written : (c : Call) (seen : List (Key × Value)) (held : List (Key × Mode)) (key : Key) (s : Stage) → stage procs c seen ≡ s → lock_of s held ≡ Some (key, Write) →
      locks_left procs c seen (hold key Write held) < locks_left procs c seen held
  written c seen held key (Wants rs x) e is = absurd (read_write (ap (λ (l : Key × Mode). l.1) (some_is (x, Read) (key, Write) is)))
  written c seen held key (Ends f) e is =
      let fewer = not_held_fewer f.writes key held (wants_write (unlocked f.writes held) key is) in
      let was : writes_left (size_of procs c) (stage procs c seen) held ≡ not_held f.writes held = ap (λ (s : Stage). writes_left (size_of procs c) s held) e in
      let now : writes_left (size_of procs c) (stage procs c seen) (hold key Write held) ≡ not_held f.writes (hold key Write held) = ap (λ (s : Stage). writes_left (size_of procs c) s (hold key Write held)) e in
      omega (arith, fewer, was, now)

  -- by its phase
  hand_at : (h : Hand) (p : Phase) → h.phase ≡ p → hand_left procs h ≡ times (MAX_TRIES - h.tries) (try_left procs h.call.call + 5) + phase_left procs h.call.call h.seen h.held h.given_up p
  hand_at h p e = ap (λ (q : Phase). times (MAX_TRIES - h.tries) (try_left procs h.call.call + 5) + phase_left procs h.call.call h.seen h.held h.given_up q) e

  locked_left : (h : Hand) (key : Key) (mode : Mode) (row : Value) (write_lv read_lv : List ℕ) → h.phase ≡ Running → lock_of (stage procs h.call.call h.seen) h.held ≡ Some (key, mode) →
      hand_left procs (hand_locked h key mode row write_lv read_lv) < hand_left procs h
  locked_left h key Read row write_lv read_lv runs next =
      let fewer = wanted h.call.call h.seen h.held key row (stage procs h.call.call h.seen) refl next in
      let more = hold_more key Read h.held in
      let was = hand_at h Running runs in
      let now = hand_at (hand_locked h key Read row write_lv read_lv) Running runs in
      omega (arith, fewer, more, was, now)
  locked_left h key Write row write_lv read_lv runs next =
      let fewer = written h.call.call h.seen h.held key (stage procs h.call.call h.seen) refl next in
      let more = hold_more key Write h.held in
      let was = hand_at h Running runs in
      let now = hand_at (hand_locked h key Write row write_lv read_lv) Running runs in
      omega (arith, fewer, more, was, now)

  fresh_left : (width : ℕ) (c : Numbered) (tries : ℕ) → hand_left procs (fresh width c tries) ≤ times (MAX_TRIES - tries) (try_left procs c.call + 5) + try_left procs c.call
  fresh_left width c tries = omega (arith, locks_most c.call [] [])

  begun_left : (width : ℕ) (wk : Worker) → worker_left procs (begun width wk) ≤ worker_left procs wk
  begun_left width wk = by wk.hand wk.waiting refl refl
    where
      by : (o : Option Hand) (cs : List Numbered) → wk.hand ≡ o → wk.waiting ≡ cs → worker_left procs (begun_by width wk o cs) ≤ worker_left procs wk
      by (Some h) cs e f = omega arith
      by None [] e f = omega arith
      by None (c ∷ cs) e f =
          let hand : hand_in_left procs wk.hand ≡ 0 = ap (hand_in_left procs) e in
          let calls : calls_left procs wk.waiting ≡ (try_left procs c.call + 5) + times MAX_TRIES (try_left procs c.call + 5) + calls_left procs cs = ap (calls_left procs) f in
          let first = fresh_left width c 0 in
          omega (arith, hand, calls, first)

  begun_tries : (width : ℕ) (wk : Worker) → HasTries wk → HasTries (begun width wk)
  begun_tries width wk has = by wk.hand wk.waiting refl
    where
      by : (o : Option Hand) (cs : List Numbered) → wk.hand ≡ o → HasTries (begun_by width wk o cs)
      by (Some h) cs e = has
      by None [] e = has
      by None (c ∷ cs) e = λ h is runs. (let same : fresh width c 0 ≡ h = cc in let none : 0 ≡ h.tries = ap (λ (x : Hand). x.tries) same in omega (arith, none))

  one_less : (k : ℕ) (cost : ℕ) → k < MAX_TRIES → times (MAX_TRIES - k) cost ≡ cost + times (MAX_TRIES - (k + 1)) cost
  one_less k cost lt = let e : MAX_TRIES - k ≡ suc (MAX_TRIES - (k + 1)) = omega (arith, lt) in ap (λ (n : ℕ). times n cost) e

  -- a call that quits
  settled_left : (width : ℕ) (wk : Worker) (h : Hand) (most : ℕ) → h.phase ≡ Quitting → times (MAX_TRIES - h.tries) (try_left procs h.call.call + 5) + length h.held + try_left procs h.call.call + 1 < most →
      worker_left procs (settled width wk h) < calls_left procs wk.waiting + most
  settled_left width wk h most quits less = by h.held h.given_up (h.tries == MAX_TRIES) refl
    where
      by : (held : List (Key × Mode)) (up last : Bool) → h.held ≡ held → worker_left procs (settled_by width wk h held up last) < calls_left procs wk.waiting + most
      by (k ∷ ks) up last e = let now = hand_at h Quitting quits in omega (arith, less, now)
      by [] true last e = omega (arith, less)
      by [] false true e = omega (arith, less)
      by [] false false e = let again = fresh_left width h.call h.tries in omega (arith, less, again)

  with_hand : (wk : Worker) (h : Hand) → wk.hand ≡ Some h → worker_left procs wk ≡ calls_left procs wk.waiting + hand_left procs h
  with_hand wk h e = ap (λ (o : Option Hand). calls_left procs wk.waiting + hand_in_left procs o) e

module _ (set : Setting) (w : ℕ) where
  abbrev left_at : Core → ℕ
  left_at s = worker_left set.procs (s.workers w)

  at_worker : (s : Core) (wk : Worker) → worker_left set.procs (at w wk s.workers w) ≡ worker_left set.procs wk
  at_worker s wk = ap (worker_left set.procs) (at_same w wk s.workers)

  locks_fall : (s s' : Core) → Locks set w s s' → left_at s' < left_at s
  locks_fall s s' q =
      let b = ready set s w in
      let sh = s.shards (set.shard_of q.key) in
      let h = hand_locked q.hand q.key q.mode (sh.rows q.key) (entry_in sh q.key).write_lv (entry_in sh q.key).read_lv in
      let after = ap (λ (c : Core). worker_left set.procs (c.workers w)) q.after ∙ at_worker s (record b { hand = Some h }) in
      let less = locked_left set.procs q.hand q.key q.mode (sh.rows q.key) (entry_in sh q.key).write_lv (entry_in sh q.key).read_lv q.phase q.next in
      let was = with_hand set.procs b q.hand q.is in
      let begins = begun_left set.procs set.width (s.workers w) in
      omega (arith, after, less, was, begins)

  refuses_fall : (s s' : Core) → HasTries (s.workers w) → Refuses set w s s' → left_at s' < left_at s
  refuses_fall s s' has q =
      let b = ready set s w in
      let tries = begun_tries set.procs set.width (s.workers w) has q.hand q.is q.phase in
      let after = ap (λ (c : Core). worker_left set.procs (c.workers w)) q.after ∙ at_worker s (settled set.width b (hand_busy q.hand)) in
      let was = with_hand set.procs b q.hand q.is in
      let phase = hand_at set.procs q.hand Running q.phase in
      let cost = one_less set.procs q.hand.tries (try_left set.procs q.hand.call.call + 5) tries in
      let less = settled_left set.procs set.width b (hand_busy q.hand) (hand_left set.procs q.hand) refl (omega (arith, phase, cost)) in
      let begins = begun_left set.procs set.width (s.workers w) in
      omega (arith, after, was, less, begins)

  quits_fall : (s s' : Core) → Quits set w false s s' → left_at s' < left_at s
  quits_fall s s' q =
      let wk = s.workers w in
      let h = hand_quit q.hand q.key false in
      let after = ap (λ (c : Core). worker_left set.procs (c.workers w)) q.after ∙ at_worker s (settled set.width wk h) in
      let was = with_hand set.procs wk q.hand q.is in
      let fewer = without_fewer q.key q.mode q.hand.held q.held in
      let enough : times (MAX_TRIES - q.hand.tries) (try_left set.procs q.hand.call.call + 5) + length (without q.key q.hand.held) + try_left set.procs q.hand.call.call + 1 < hand_left set.procs q.hand = elim q.phase [
        | inl quits ↦ (let phase = hand_at set.procs q.hand Quitting quits in omega (arith, phase, fewer))
        | inr up ↦ (let phase = hand_at set.procs q.hand Running up.0 in
            let given : up_left set.procs q.hand.call.call q.hand.given_up ≡ try_left set.procs q.hand.call.call = ap (up_left set.procs q.hand.call.call) (is_given_up q.hand.given_up up.1) in
            omega (arith, phase, fewer, given))
      ] in
      let less = settled_left set.procs set.width wk h (hand_left set.procs q.hand) refl enough in
      omega (arith, after, was, less)
    where
      is_given_up : (b : Bool) → (b || false) ≡ true → b ≡ true
      is_given_up true e = refl
      is_given_up false e = e

  joined_fall : (s : Core) (h : Hand) (p : Phase) (dep : List ℕ) → (ready set s w).hand ≡ Some h → h.phase ≡ Running → phase_left set.procs h.call.call h.seen h.held h.given_up p ≤ length h.held + 2 →
      calls_left set.procs (ready set s w).waiting + hand_left set.procs (hand_joined h p dep) < left_at s
  joined_fall s h p dep is runs least =
      let was = with_hand set.procs (ready set s w) h is in
      let phase = hand_at set.procs h Running runs in
      let begins = begun_left set.procs set.width (s.workers w) in
      omega (arith, was, phase, begins, least)

  commits_fall : (s s' : Core) (t : Act Txn) → Commits set w s s' t → left_at s' < left_at s
  commits_fall s s' t q =
      let b = ready set s w in
      let h = hand_joined q.hand (Placed t) t.call.place.dep in
      let after = ap (λ (c : Core). worker_left set.procs (c.workers w)) q.after ∙ ap (worker_left set.procs) (at_same w (record b { hand = Some h; committed = (s.workers w).committed ++ committed_of t ∷ [] }) s.workers) in
      let less = joined_fall s q.hand (Placed t) t.call.place.dep q.is q.phase (omega arith) in
      omega (arith, after, less)

  reads_fall : (s s' : Core) (t : Act Txn) → Reads set w s s' t → left_at s' < left_at s
  reads_fall s s' t q =
      let b = ready set s w in
      let h = hand_joined q.hand (Freeing t) q.hand.dep in
      let after = ap (λ (c : Core). worker_left set.procs (c.workers w)) q.after ∙ ap (worker_left set.procs) (at_same w (record b { hand = Some h; committed = (s.workers w).committed ++ committed_of t ∷ [] }) s.workers) in
      let less = joined_fall s q.hand (Freeing t) q.hand.dep q.is q.phase (omega arith) in
      omega (arith, after, less)

  -- in one of the later phases
  other_fall : (s s' : Core) (h h' : Hand) → (s.workers w).hand ≡ Some h → s'.workers w ≡ record (s.workers w) { hand = Some h' } → hand_left set.procs h' < hand_left set.procs h → left_at s' < left_at s
  other_fall s s' h h' is after less =
      let was = with_hand set.procs (s.workers w) h is in
      let now = ap (worker_left set.procs) after in
      omega (arith, was, now, less)

  posts_fall : (s s' : Core) → Posts set w s s' → left_at s' < left_at s
  posts_fall s s' q =
      let h = record q.hand { phase = Freeing q.act } in
      let phase = hand_at set.procs q.hand (Placed q.act) q.phase in
      other_fall s s' q.hand h q.is (ap (λ (c : Core). c.workers w) q.after ∙ at_same w (record (s.workers w) { hand = Some h }) s.workers) (omega (arith, phase))

  frees_fall : (s s' : Core) → Frees set w s s' → left_at s' < left_at s
  frees_fall s s' q =
      let h = hand_freed q.hand q.key in
      let phase = hand_at set.procs q.hand (Freeing q.act) q.phase in
      let now = hand_at set.procs h (Freeing q.act) q.phase in
      let fewer = without_fewer q.key q.mode q.hand.held q.held in
      other_fall s s' q.hand h q.is (ap (λ (c : Core). c.workers w) q.after ∙ at_same w (record (s.workers w) { hand = Some h }) s.workers) (omega (arith, phase, now, fewer))

  finishes_fall : (s s' : Core) → Finishes set w s s' → left_at s' < left_at s
  finishes_fall s s' q =
      let phase = hand_at set.procs q.hand (Freeing q.act) q.phase in
      let was = with_hand set.procs (s.workers w) q.hand q.is in
      let now = ap (λ (c : Core). worker_left set.procs (c.workers w)) q.after ∙ at_worker s (record (s.workers w) { hand = None }) in
      omega (arith, phase, was, now)

  pub own_falls : (e : Event) → IsOwn w e → (s s' : Core) (new : List (Act Txn)) → HasTries (s.workers w) → Leads set e s s' new → left_at s' < left_at s
  own_falls (Lock u) is s s' new has q = locks_fall s s' (subst (λ (v : ℕ). Locks set v s s') is q.0)
  own_falls (Busy u) is s s' new has q = refuses_fall s s' has (subst (λ (v : ℕ). Refuses set v s s') is q.0)
  own_falls (Quit u up) is s s' new has q = quits_fall s s' (subst (λ (b : Bool). Quits set w b s s') is.1 (subst (λ (v : ℕ). Quits set v up s s') is.0 q.0))
  own_falls (Commit u) is s s' new has q = commits_fall s s' q.0 (subst (λ (v : ℕ). Commits set v s s' q.0) is q.1)
  own_falls (Post u) is s s' new has q = posts_fall s s' (subst (λ (v : ℕ). Posts set v s s') is q.0)
  own_falls (Free u) is s s' new has q = frees_fall s s' (subst (λ (v : ℕ). Frees set v s s') is q.0)
  own_falls (FirstFree u) is s s' new has q =
      omega (arith, reads_fall s q.0 q.1 (subst (λ (v : ℕ). Reads set v s q.0 q.1) is q.2), frees_fall q.0 s' (subst (λ (v : ℕ). Frees set v q.0 s') is q.3))
  own_falls (Done u) is s s' new has q = finishes_fall s s' (subst (λ (v : ℕ). Finishes set v s s') is q.0)
  own_falls (DoneReading u) is s s' new has q =
      omega (arith, reads_fall s q.0 q.1 (subst (λ (v : ℕ). Reads set v s q.0 q.1) is q.2), finishes_fall q.0 s' (subst (λ (v : ℕ). Finishes set v q.0 s') is q.3))
  own_falls (Drop i v) is s s' new has q = absurd is
  own_falls (Gather j) is s s' new has q = absurd is
  own_falls (PlaceAnchor j v) is s s' new has q = absurd is
  own_falls (Persist j upto) is s s' new has q = absurd is
  own_falls (Ack u v) is s s' new has q = absurd is
  own_falls (Stop j upto) is s s' new has q = absurd is
  own_falls (Resume u) is s s' new has q = absurd is
