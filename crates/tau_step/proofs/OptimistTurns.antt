-- Whole turns of optimistic workers, after which what they have peeked fits their calls again.
use Rattle.std.proofs.Common.{ℕ, ◌<◌, ◌≤◌, ◌≡◌, ◌⊎◌, inl, inr, Bool, true, false, List, [], ◌∷◌, ◌++◌, refl, sym, ap, subst, ◌∙◌, Option, length, arith, lt-ltb}
use Rattle.std.specs.Prelude.{Some, None, is_some, not, nat_lt, ◌&&◌, ◌||◌, ◌-◌, slice_get, IsTrue, Ok}
use Rattle.std.proofs.lemmas.Bool.{cases_Bool}
use Rattle.tau_base.specs.declared.limits.TheConstants.{MAX_CALLS, MAX_STEPS}
use Rattle.tau_base.specs.declared.value.Call.{Call}
use Rattle.tau_base.specs.declared.value.Key.{Key}
use Rattle.tau_base.specs.declared.value.Mode.{Mode}
use Rattle.tau_base.specs.declared.value.Value.{Value}
use Rattle.tau_proc.specs.Effect.{Effect}
use Rattle.tau_proc.specs.Takes.{takes}
use Rattle.tau_proc.specs.declared.proc.Proc.{Proc}
use Rattle.tau_model.specs.History.{Act, Member, Numbered}
use Rattle.tau_machine.specs.Hands as hands
use Rattle.tau_machine.specs.Hands.{Txn, Hand}
use Rattle.tau_machine.specs.Stage.{Stage, Wants, Ends, stage}
use Rattle.tau_shard.specs.Shard.{at}
use Rattle.tau_machine.specs.Shapes.{IsCall, WorkerShape}
use Rattle.tau_machine.specs.State.{Setting, Core}
use Rattle.tau_machine.specs.Worker.{Worker, begun, begun_by, fresh, lock_of}
use Rattle.tau_machine.specs.Events as machine
use Rattle.tau_machine.specs.Events.{Leads, ready, lock_next}
use Rattle.tau_shard.proofs.At.{at_same, at_itself}
use Rattle.tau_core.specs.declared.state.Load.{Load}
use Rattle.tau_core.specs.declared.event.Phase.TheVariants.{Locking}
use Rattle.tau_core.specs.NextLock.{TellsLock}
use Rattle.tau_core.specs.Phases.{hand_phase, phase_by, running_phase}
use Rattle.tau_core.specs.State.{Plain}
use Rattle.tau_core.specs.View.{Hidden, setting_of, core_of, worker_at, call_of}
use Rattle.tau_core.specs.Stands.{Stands, Stood}
use Rattle.tau_core.proofs.Numbers.{Numbers, numbers}
use Rattle.tau_occ.specs.Peeker.{PlainPeeker, IsPeeking}
use Rattle.tau_occ.specs.declared.style.Style.TheVariants.{Optimistic}
use Rattle.tau_run.specs.Fits.{Asks, Fits, HandFits, PhaseFits}
use Rattle.tau_run.specs.Turns.{Progress, IsOwn, is_raised, is_empty}
use Rattle.tau_run.specs.Schedule.{RunState, peeked, HasPeeked, BusyHasCause, ReadsPeeked, peeks_after}
use Rattle.tau_run.proofs.Optimistic.{FitsAt, turn_fits, turn_keeps, quit_empty}
use Rattle.tau_run.proofs.Peeked.{front_ended}
use Rattle.tau_run.proofs.Steps.{if_known, if_yes, if_not}
use Rattle.tau_step.specs.Acting.{WorkerTurned, has_work_in, raised}
use Rattle.tau_step.specs.Optimists.{Peeks, PeekerFits, PeeksItsCall, IsAtLock, IsAtNone, IsOfCall, TurnedIn, OptimistTurned, turned_in, has_turn_in, ready_at}
use Rattle.tau_step.specs.Progressed.{progress, works, Comes}
use Rattle.tau_step.proofs.Deciding.{waits}

some_hand : (a b : Hand) → Some a ≡ Some b → a ≡ b
some_hand a b e = cc

none_hand : (a : Hand) → None ≡ Some a → ⊥
none_hand a e = cc

-- ---- what fits after a turn

module _ (w : ℕ) (p p' : Plain) (K : List (Act Txn)) (h : Hidden) (es : List machine.Event) (told : List (ℕ × List ℕ)) (f : Peeks) (fit : Fits p.load.procs (f w) (ready_at p w)) (q' : PlainPeeker)
    (c : TurnedIn w p p' K h es told f Optimistic (at w q'.seen f)) where
  abbrev before : RunState
  before = peeked (progress p h es K told) f

  abbrev after : RunState
  after = peeked (progress p' c.hidden c.events c.order told) (at w q'.seen f)

  fits_after : FitsAt (setting_of p.load) p.load.workers p.load.streams w after
  fits_after = if_known (has_turn_in w p p' K h es told f) _ _ (FitsAt (setting_of p.load) p.load.workers p.load.streams w after) c.moved
      (λ e t. turn_fits (setting_of p.load) p.load.workers p.load.streams w before after fit t)
      (λ e s. subst (FitsAt (setting_of p.load) p.load.workers p.load.streams w) (sym s) fit)

  call_after : (hand : Hand) → ready_at p w ≡ Some hand → IsPeeking p.load.procs hand.call.call q' → IsOfCall p.load.procs (begun p.load.streams (worker_at p' w)).hand q'
  call_after hand is peeking = if_known (has_turn_in w p p' K h es told f) _ _ (IsOfCall p.load.procs (begun p.load.streams (worker_at p' w)).hand q') c.moved
      (λ e t. elim (turn_keeps (setting_of p.load) p.load.workers p.load.streams w before after fit t) [
        | inl none ↦ inl (sym (at_same w q'.seen f) ∙ none)
        | inr kept ↦ (let (first, second, is_first, is_second, same) = kept in
            inr (second, is_second, subst (λ (n : Numbered). IsPeeking p.load.procs n.call q') (ap (λ (x : Hand). x.call) (some_hand hand first (sym is ∙ is_first)) ∙ sym same) peeking))
      ])
      (λ e s. inr (hand, ap (λ (z : RunState). (ready (setting_of p.load) z.progress.state w).hand) s ∙ is, peeking))

  pub peeker_fits : IsOfCall p.load.procs (ready_at p w) q' → PeekerFits p' w q'
  peeker_fits own = record {
    fits = subst (λ (l : Load). Fits l.procs q'.seen (begun l.streams (worker_at p' w)).hand) (sym c.load)
        (subst (λ (ps : List (Key × Value)). Fits p.load.procs ps (begun p.load.streams (worker_at p' w)).hand) (at_same w q'.seen f) fits_after);
    call = subst (λ (l : Load). IsOfCall l.procs (begun l.streams (worker_at p' w)).hand q') (sym c.load) (elim own [
      | inl none ↦ inl none
      | inr of_call ↦ call_after of_call.0 of_call.1 of_call.2
    ]);
  }

-- ---- when the worker has something to do

turn_held : (a b c k : Bool) → a ≡ true → b ≡ true → (a && (b || (c || k))) ≡ true
turn_held false b c k e f = e
turn_held true false c k e f = absurd (let bad : false ≡ true = f in cc)
turn_held true true c k e f = refl

turn_peeked : (a b c k : Bool) → a ≡ true → c ≡ true → (a && (b || (c || k))) ≡ true
turn_peeked false b c k e f = e
turn_peeked true true c k e f = refl
turn_peeked true false false k e f = absurd (let bad : false ≡ true = f in cc)
turn_peeked true false true k e f = refl

turn_waiting : (a b c r k : Bool) → a ≡ true → r ≡ false → k ≡ false → (a && (b || (c || (not r && not k)))) ≡ true
turn_waiting false b c r k e f g = e
turn_waiting true true c r k e f g = refl
turn_waiting true false true r k e f g = refl
turn_waiting true false false true k e f g = absurd (let bad : true ≡ false = f in cc)
turn_waiting true false false false true e f g = absurd (let bad : true ≡ false = g in cc)
turn_waiting true false false false false e f g = refl

some_seen : {A : Type 0} (xs : List A) → (xs ≡ [] → ⊥) → not (is_empty xs) ≡ true
some_seen [] ne = absurd (ne refl)
some_seen (x ∷ xs) ne = refl

none_seen : {A : Type 0} (xs : List A) → (xs ≡ []) ⊎ (xs ≡ [] → ⊥)
none_seen [] = inl refl
none_seen (x ∷ xs) = inr (λ e. cc)

module _ (w : ℕ) (p p' : Plain) (K : List (Act Txn)) (h : Hidden) (es : List machine.Event) (told : List (ℕ × List ℕ)) (f : Peeks) (lt : w < p.load.workers) where
  abbrev raised_now : Bool
  raised_now = is_raised (setting_of p.load) p.load.workers p.load.streams (core_of p h)

  -- its call, in hand or to begin, is at a lock, and it does not rest for a stop
  pub turns_at_lock : (hand : Hand) → ready_at p w ≡ Some hand → (raised p h ≡ true → (worker_at p w).hand ≡ None → f w ≡ [] → ⊥) → has_turn_in w p p' K h es told f ≡ true
  turns_at_lock hand is goes = by (worker_at p w).hand refl
    where
      by : (o : Option Hand) → (worker_at p w).hand ≡ o → has_turn_in w p p' K h es told f ≡ true
      by (Some x) e = turn_held (nat_lt w p.load.workers) (is_some (worker_at p w).hand) (not (is_empty (f w))) (not raised_now && not (is_empty (worker_at p w).waiting)) (lt-ltb w p.load.workers lt) (ap is_some e)
      by None e = elim (none_seen (f w)) [
        | inr some ↦ turn_peeked (nat_lt w p.load.workers) (is_some (worker_at p w).hand) (not (is_empty (f w))) (not raised_now && not (is_empty (worker_at p w).waiting)) (lt-ltb w p.load.workers lt) (some_seen (f w) some)
        | inl none ↦ elim (cases_Bool raised_now) [
          | inl up ↦ absurd (goes up e none)
          | inr going ↦ turn_waiting (nat_lt w p.load.workers) (is_some (worker_at p w).hand) (not (is_empty (f w))) raised_now (is_empty (worker_at p w).waiting) (lt-ltb w p.load.workers lt) going (waits p.load.streams (worker_at p w) hand e is)
        ]
      ]

  -- it rests for a stop
  pub rests_stopped : raised p h ≡ true → (worker_at p w).hand ≡ None → f w ≡ [] → has_turn_in w p p' K h es told f ≡ false
  rests_stopped up none empty = by (nat_lt w p.load.workers) (is_some (worker_at p w).hand) (is_empty (f w)) raised_now (is_empty (worker_at p w).waiting) (ap is_some none) (ap is_empty empty) up
    where
      by : (a b c r k : Bool) → b ≡ false → c ≡ true → r ≡ true → (a && (b || (not c || (not r && not k)))) ≡ false
      by false b c r k e g u = refl
      by true true c r k e g u = e
      by true false false r k e g u = absurd (let bad : false ≡ true = g in cc)
      by true false true false k e g u = absurd (let bad : false ≡ true = u in cc)
      by true false true true k e g u = refl

  -- where a worker that rests has peeked nothing, it has something to do as in the style Locking
  pub turns_as_work : ((worker_at p w).hand ≡ None → f w ≡ []) → has_work_in p h w ≡ has_turn_in w p p' K h es told f
  turns_as_work none = by (worker_at p w).hand refl
    where
      held : (a b c k : Bool) → b ≡ true → (a && (b || k)) ≡ (a && (b || (c || k)))
      held false b c k e = refl
      held true true c k e = refl
      held true false c k e = absurd (let bad : false ≡ true = e in cc)

      empty : (a b c k : Bool) → c ≡ true → (a && (b || k)) ≡ (a && (b || (not c || k)))
      empty a b true k e = refl
      empty a b false k e = absurd (let bad : false ≡ true = e in cc)

      by : (o : Option Hand) → (worker_at p w).hand ≡ o → has_work_in p h w ≡ has_turn_in w p p' K h es told f
      by (Some x) e = held (nat_lt w p.load.workers) (is_some (worker_at p w).hand) (not (is_empty (f w))) (not raised_now && not (is_empty (worker_at p w).waiting)) (ap is_some e)
      by None e = empty (nat_lt w p.load.workers) (is_some (worker_at p w).hand) (is_empty (f w)) (not raised_now && not (is_empty (worker_at p w).waiting)) (ap is_empty (none e))

-- ---- a call at no lock

module _ (procs : List Proc) where
  wanting_locks : (hand : Hand) (s : Stage) (rs : List (Key × Value)) (k : Key) → stage procs hand.call.call hand.seen ≡ Wants rs k → hand.phase ≡ hands.Running → hand_phase procs (Some hand) ≡ Locking
  wanting_locks hand s rs k e runs = ap (λ (x : hands.Phase). phase_by procs hand x) runs ∙ ap (λ (t : Stage). running_phase (lock_of t hand.held) t hand.held) e

  -- a worker that rests and whose next call is at no lock has peeked nothing
  fresh_unpeeked : (width : ℕ) (n : Numbered) (ps : List (Key × Value)) → Asks procs n.call [] ps → (hand_phase procs (Some (fresh width n 0)) ≡ Locking → ⊥) → ps ≡ []
  fresh_unpeeked width n [] asks none = refl
  fresh_unpeeked width n (r ∷ rs) asks none = absurd (none (wanting_locks (fresh width n 0) (Wants asks.0.0 r.0) asks.0.0 r.0 asks.0.1 refl))

  resting_unpeeked : (width : ℕ) (wk : Worker) (o : Option Hand) (cs : List Numbered) (ps : List (Key × Value)) (hand : Hand) → o ≡ None → (begun_by width (record wk { hand = None }) o cs).hand ≡ Some hand → Fits procs ps (Some hand) →
      (hand_phase procs (Some hand) ≡ Locking → ⊥) → ps ≡ []
  resting_unpeeked width wk (Some x) cs ps hand e is fit none = absurd (none_hand x (sym e))
  resting_unpeeked width wk None [] ps hand e is fit none = absurd (none_hand hand is)
  resting_unpeeked width wk None (n ∷ cs) ps hand e is fit none =
      let same : fresh width n 0 ≡ hand = some_hand (fresh width n 0) hand is in
      fresh_unpeeked width n ps (subst (λ (x : Hand). HandFits procs ps x) (sym same) fit).1.0 (λ locks. none (ap (λ (x : Hand). hand_phase procs (Some x)) (sym same) ∙ locks))

module _ (w : ℕ) (p : Plain) (K : List (Act Txn)) (h : Hidden) (none : TellsLock p h w None) where
  not_locking : (hand : Hand) → ready_at p w ≡ Some hand → hand_phase p.load.procs (Some hand) ≡ Locking → ⊥
  not_locking hand is locks = none (ap (hand_phase p.load.procs) is ∙ locks)

  pub unpeeked : (q : PlainPeeker) → PeekerFits p w q → (worker_at p w).hand ≡ None → q.seen ≡ []
  unpeeked q fit rests = elim fit.call [
    | inl empty ↦ empty
    | inr (hand, is, peeking) ↦ resting_unpeeked p.load.procs p.load.streams (worker_at p w) (worker_at p w).hand (worker_at p w).waiting q.seen hand rests (by (worker_at p w) (worker_at p w).hand refl rests hand is)
        (subst (Fits p.load.procs q.seen) is fit.fits) (not_locking hand is)
  ]
    where
      by : (wk : Worker) (o : Option Hand) → wk.hand ≡ o → o ≡ None → (hand : Hand) → (begun p.load.streams wk).hand ≡ Some hand → (begun_by p.load.streams (record wk { hand = None }) wk.hand wk.waiting).hand ≡ Some hand
      by wk (Some x) e gone hand is = absurd (none_hand x (sym gone))
      by wk None e gone hand is = split wk.waiting (ap (λ (o : Option Hand). (begun_by p.load.streams wk o wk.waiting).hand) (sym e) ∙ is)
        where
          split : (cs : List Numbered) → (begun_by p.load.streams wk None cs).hand ≡ Some hand → (begun_by p.load.streams (record wk { hand = None }) wk.hand cs).hand ≡ Some hand
          split [] k = absurd (none_hand hand (sym e ∙ k))
          split (n ∷ cs) k = ap (λ (o : Option Hand). (begun_by p.load.streams (record wk { hand = None }) o (n ∷ cs)).hand) e ∙ k

  -- its call, if it runs, has ended on all that was peeked
  pub peeked_all : (es : List machine.Event) (told : List (ℕ × List ℕ)) (f : Peeks) → Fits p.load.procs (f w) (ready_at p w) → HasPeeked (setting_of p.load) p.load.workers p.load.streams w (peeked (progress p h es K told) f)
  peeked_all es told f fit hand is runs =
      let (asks, front) = subst (PhaseFits p.load.procs (f w) hand) runs (subst (Fits p.load.procs (f w)) is fit).1 in
      by asks front (stage p.load.procs hand.call.call hand.seen) refl
    where
      by : Asks p.load.procs hand.call.call [] (f w) → ((back : List (Key × Value)) × (f w ≡ hand.seen ++ back)) → (s : Stage) → stage p.load.procs hand.call.call hand.seen ≡ s → (e : Effect) × (stage p.load.procs hand.call.call (f w) ≡ Ends e)
      by asks front (Wants rs k) e = absurd (not_locking hand is (wanting_locks p.load.procs hand (Wants rs k) rs k e runs))
      by asks front (Ends effect) e = (effect, ap (stage p.load.procs hand.call.call) (sym (front_ended p.load.procs hand.call.call (f w) hand.seen effect asks front e)) ∙ e)

  never_locks : (hand : Hand) (key : Key) (mode : Mode) → ready_at p w ≡ Some hand → hand.phase ≡ hands.Running → lock_next (setting_of p.load) hand ≡ Some (key, mode) → ⊥
  never_locks hand key mode is runs next = not_locking hand is (ap (λ (x : hands.Phase). phase_by p.load.procs hand x) runs
      ∙ ap (λ (o : Option (Key × Mode)). running_phase o (stage p.load.procs hand.call.call hand.seen) hand.held) next)

-- ---- its turn

-- what is peeked after the turn: nothing, if the worker has no call in hand then
abbrev pub Forgot : Plain → ℕ → List (Key × Value) → List (Key × Value) → Type 0
Forgot p' w seen seen' = (((worker_at p' w).hand ≡ None) × (seen' ≡ [])) ⊎ (((worker_at p' w).hand ≡ None → ⊥) × (seen' ≡ seen))

module _ (w : ℕ) (p p' : Plain) (K : List (Act Txn)) (h : Hidden) (es : List machine.Event) (told : List (ℕ × List ℕ)) (f : Peeks) (none : TellsLock p h w None) (fit : Fits p.load.procs (f w) (ready_at p w)) (seen' : List (Key × Value))
    (forgot : Forgot p' w (f w) seen') (hidden : Hidden) where
  abbrev s : Core
  s = core_of p h

  abbrev s' : Core
  s' = core_of p' hidden

  -- a worker with a call in hand forgets nothing
  held_same : (hand : Hand) → (worker_at p' w).hand ≡ Some hand → at w seen' f ≡ f
  held_same hand is = elim forgot [
    | inl gone ↦ absurd (none_hand hand (sym gone.0 ∙ is))
    | inr kept ↦ ap (λ (x : List (Key × Value)). at w x f) kept.1 ∙ at_itself w f
  ]

  empty_same : f w ≡ [] → at w seen' f ≡ f
  empty_same e = ap (λ (x : List (Key × Value)). at w x f) (elim forgot [ inl gone ↦ gone.1 ∙ sym e | inr kept ↦ kept.1 ]) ∙ at_itself w f

  gone_empty : (worker_at p' w).hand ≡ None → at w seen' f ≡ at w [] f
  gone_empty e = ap (λ (x : List (Key × Value)). at w x f) (elim forgot [ inl gone ↦ gone.1 | inr kept ↦ absurd (kept.0 e) ])

  put : (t : Core) (u : ℕ) (wk : Worker) (o : Option Hand) → wk.hand ≡ o → (at u wk t.workers u).hand ≡ o
  put t u wk o e = ap (λ (k : Worker). k.hand) (at_same u wk t.workers) ∙ e

  at_own : (u : ℕ) (o : Option Hand) → u ≡ w → (s'.workers u).hand ≡ o → (worker_at p' w).hand ≡ o
  at_own u o e is = subst (λ (v : ℕ). (s'.workers v).hand ≡ o) e is

  peeks_by : (e : machine.Event) (new : List (Act Txn)) → IsOwn w e → Leads (setting_of p.load) e s s' new → at w seen' f ≡ peeks_after Optimistic e f
  peeks_by (machine.Lock u) new own (r, _) = absurd (never_locks w p K h none r.hand r.key r.mode (subst (λ (v : ℕ). (ready (setting_of p.load) s v).hand ≡ Some r.hand) own r.is) r.phase r.next)
  peeks_by (machine.Busy u) new own (r, _) = absurd (never_locks w p K h none r.hand r.key r.mode (subst (λ (v : ℕ). (ready (setting_of p.load) s v).hand ≡ Some r.hand) own r.is) r.phase r.next)
  peeks_by (machine.Quit u up) new own l = empty_same (subst (λ (v : ℕ). f v ≡ []) own.0
      (quit_empty (setting_of p.load) p.load.workers p.load.streams s s' f w (λ v e. subst (λ (k : ℕ). Fits p.load.procs (f k) (ready (setting_of p.load) s k).hand) (sym e) fit) u up new own l))
  peeks_by (machine.Commit u) new own (t, r, _) = held_same _ (at_own u _ own (ap (λ (c : Core). (c.workers u).hand) r.after ∙ put s u _ _ refl))
  peeks_by (machine.Post u) new own (r, _) = held_same _ (at_own u _ own (ap (λ (c : Core). (c.workers u).hand) r.after ∙ put s u _ _ refl))
  peeks_by (machine.Free u) new own (r, _) = held_same _ (at_own u _ own (ap (λ (c : Core). (c.workers u).hand) r.after ∙ put s u _ _ refl))
  peeks_by (machine.FirstFree u) new own (mid, t, r, g, _) = held_same _ (at_own u _ own (ap (λ (c : Core). (c.workers u).hand) g.after ∙ put mid u _ _ refl))
  peeks_by (machine.Done u) new own (r, _) = gone_empty (at_own u None own (ap (λ (c : Core). (c.workers u).hand) r.after ∙ put s u _ None refl)) ∙ ap (λ (v : ℕ). at v [] f) (sym own)
  peeks_by (machine.DoneReading u) new own (mid, t, r, g, _) = gone_empty (at_own u None own (ap (λ (c : Core). (c.workers u).hand) g.after ∙ put mid u _ None refl)) ∙ ap (λ (v : ℕ). at v [] f) (sym own)
  peeks_by (machine.Drop i v) new own l = absurd own
  peeks_by (machine.Gather j) new own l = absurd own
  peeks_by (machine.PlaceAnchor j v) new own l = absurd own
  peeks_by (machine.Persist j upto) new own l = absurd own
  peeks_by (machine.Ack u v) new own l = absurd own
  peeks_by (machine.Stop j upto) new own l = absurd own
  peeks_by (machine.Resume u) new own l = absurd own

  -- none of them is a Busy, nor a lock
  cause_by : (e : machine.Event) (new : List (Act Txn)) → IsOwn w e → Leads (setting_of p.load) e s s' new → BusyHasCause (setting_of p.load) p.load.workers p.load.streams Optimistic e (peeked (progress p h es K told) f)
  cause_by (machine.Lock u) new own l = tt
  cause_by (machine.Busy u) new own (r, _) = absurd (never_locks w p K h none r.hand r.key r.mode (subst (λ (v : ℕ). (ready (setting_of p.load) s v).hand ≡ Some r.hand) own r.is) r.phase r.next)
  cause_by (machine.Quit u up) new own l = tt
  cause_by (machine.Commit u) new own l = tt
  cause_by (machine.Post u) new own l = tt
  cause_by (machine.Free u) new own l = tt
  cause_by (machine.FirstFree u) new own l = tt
  cause_by (machine.Done u) new own l = tt
  cause_by (machine.DoneReading u) new own l = tt
  cause_by (machine.Drop i v) new own l = tt
  cause_by (machine.Gather j) new own l = tt
  cause_by (machine.PlaceAnchor j v) new own l = tt
  cause_by (machine.Persist j upto) new own l = tt
  cause_by (machine.Ack u v) new own l = tt
  cause_by (machine.Stop j upto) new own l = tt
  cause_by (machine.Resume u) new own l = tt

  reads_by : (e : machine.Event) (new : List (Act Txn)) → IsOwn w e → Leads (setting_of p.load) e s s' new → ReadsPeeked (setting_of p.load) p.load.workers p.load.streams Optimistic e (peeked (progress p h es K told) f)
  reads_by (machine.Lock u) new own (r, _) = absurd (never_locks w p K h none r.hand r.key r.mode (subst (λ (v : ℕ). (ready (setting_of p.load) s v).hand ≡ Some r.hand) own r.is) r.phase r.next)
  reads_by (machine.Busy u) new own l = tt
  reads_by (machine.Quit u up) new own l = tt
  reads_by (machine.Commit u) new own l = tt
  reads_by (machine.Post u) new own l = tt
  reads_by (machine.Free u) new own l = tt
  reads_by (machine.FirstFree u) new own l = tt
  reads_by (machine.Done u) new own l = tt
  reads_by (machine.DoneReading u) new own l = tt
  reads_by (machine.Drop i v) new own l = tt
  reads_by (machine.Gather j) new own l = tt
  reads_by (machine.PlaceAnchor j v) new own l = tt
  reads_by (machine.Persist j upto) new own l = tt
  reads_by (machine.Ack u v) new own l = tt
  reads_by (machine.Stop j upto) new own l = tt
  reads_by (machine.Resume u) new own l = tt

-- what the turn of a worker is for one that is optimistic, where its call is at no lock
pub unlocked_turned : (w : ℕ) (p p' : Plain) (K : List (Act Txn)) (h : Hidden) (es : List machine.Event) (told : List (ℕ × List ℕ)) (f : Peeks) (q : PlainPeeker) (seen' : List (Key × Value)) → w < p.load.workers → TellsLock p h w None → PeekerFits p w q → f w ≡ q.seen →
    Forgot p' w q.seen seen' → (c : Comes (works w) p p' told told K h es) → TurnedIn w p p' K h es told f Optimistic (at w seen' f)
unlocked_turned w p p' K h es told f q seen' lt none fit same forgot c = record {
  hidden = c.hidden;
  order = c.order;
  events = c.events;
  stands = c.stands;
  load = c.load;
  taken = c.taken;
  moved = if_known (has_work_in p h w) _ _ (turned_in Optimistic w f (at w seen' f) p.load (progress p h es K told) (progress p' c.hidden c.events c.order told)) c.moved
      (λ works (e, own, goes, newest, busy, lowest). if_yes (has_turn_in w p p' K h es told f) _ _ (sym as_work ∙ works) (inr (
        peeked_all w p K h none es told f fits,
        record {
          event = e;
          own = own;
          goes = goes;
          newest = newest;
          busy = cause_by w p p' K h es told f none fits seen' forgot_f c.hidden e goes.new own goes.leads;
          reads = reads_by w p p' K h es told f none fits seen' forgot_f c.hidden e goes.new own goes.leads;
          lowest = lowest;
          peeks = peeks_by w p p' K h es told f none fits seen' forgot_f c.hidden e goes.new own goes.leads;
        },
      )))
      (λ rests stays. if_not (has_turn_in w p p' K h es told f) _ _ (sym as_work ∙ rests)
      (λ i. peeked (stays i) (kept rests stays i)));
}
  where
    fits : Fits p.load.procs (f w) (ready_at p w)
    fits = subst (λ (ps : List (Key × Value)). Fits p.load.procs ps (ready_at p w)) (sym same) fit.fits

    forgot_f : Forgot p' w (f w) seen'
    forgot_f = subst (λ (ps : List (Key × Value)). Forgot p' w ps seen') (sym same) forgot

    as_work : has_work_in p h w ≡ has_turn_in w p p' K h es told f
    as_work = turns_as_work w p p' K h es told f lt (λ rests. same ∙ unpeeked w p K h none q fit rests)

    -- the worker stays as it was
    kept : has_work_in p h w ≡ false → progress p' c.hidden c.events c.order told ≡ progress p h es K told → at w seen' f ≡ f
    kept rests stays = by (worker_at p w).hand refl
      where
        worker_same : worker_at p' w ≡ worker_at p w
        worker_same = ap (λ (X : Progress). X.state.workers w) stays

        by : (o : Option Hand) → (worker_at p w).hand ≡ o → at w seen' f ≡ f
        by (Some x) e = held_same w p p' K h es told f none fits seen' forgot_f c.hidden x (ap (λ (k : Worker). k.hand) worker_same ∙ e)
        by None e = empty_same w p p' K h es told f none fits seen' forgot_f c.hidden (same ∙ unpeeked w p K h none q fit e)

-- ---- a call at a lock

begun_call : (set : Setting) (wk : Worker) → WorkerShape set wk → (o : Option Hand) (cs : List Numbered) → wk.hand ≡ o → wk.waiting ≡ cs → (hand : Hand) → (begun_by set.width wk o cs).hand ≡ Some hand → IsCall set hand.call
begun_call set wk shape (Some x) cs e ws hand is = (shape.hand hand is).0
begun_call set wk shape None [] e ws hand is = absurd (none_hand hand (sym e ∙ is))
begun_call set wk shape None (n ∷ cs) e ws hand is =
    subst (λ (x : Hand). IsCall set x.call) (some_hand (fresh set.width n 0) hand is) (shape.waiting n (subst (λ (l : List Numbered). Member n l) (sym ws) (inl refl)))

module _ (p : Plain) (w number : ℕ) (key : Key) (mode : Mode) (at_lock : IsAtLock p w number key mode) where
  -- its call is the one of that number
  pub its_call : (K : List (Act Txn)) (h : Hidden) → Stands p K h → (hand : Hand) → ready_at p w ≡ Some hand → call_of p.load.calls number ≡ Some hand.call.call
  its_call K h g hand is =
      let tells = at_lock K h g in
      ap (call_of p.load.calls) (tells.number ∙ ap (λ (x : Hand). x.call.number) (some_hand tells.hand hand (sym tells.is ∙ is)))
      ∙ begun_call (setting_of p.load) (worker_at p w) (g.inv.shapes.workers w) (worker_at p w).hand (worker_at p w).waiting refl refl hand is

  -- and that number is there
  pub its_number : Stood p → Numbers p.load number
  its_number (K, h, g) = let tells = at_lock K h g in numbers p.load number tells.hand.call.call (its_call K h g tells.hand tells.is)

  call_got : (n : Numbers p.load number) (c : Call) → call_of p.load.calls number ≡ Some c → slice_get p.load.calls (number - 1) ≡ Some c
  call_got n c is = n.got ∙ sym n.is ∙ is

  -- its procedures take it
  pub its_takes : Stood p → (c : Call) → slice_get p.load.calls (number - 1) ≡ Some c → IsTrue (takes p.load.procs c)
  its_takes (K, h, g) c e =
      let n = its_number (K, h, g) in
      g.sound.takes number c (n.is ∙ sym n.got ∙ e)

  -- once it has begun to peek, its call runs on what was peeked
  pub peeks_its_call : (q q' : PlainPeeker) → PeekerFits p w q → ((q.seen ≡ [] → ⊥) → q' ≡ q) → (q.seen ≡ [] → (c : Call) → slice_get p.load.calls (number - 1) ≡ Some c → IsPeeking p.load.procs c q') → PeeksItsCall p w q'
  peeks_its_call q q' fit same begins K h g hand is = elim (none_seen q.seen) [
    | inl empty ↦ begins empty hand.call.call (call_got (its_number (K, h, g)) hand.call.call (its_call K h g hand is))
    | inr some ↦ elim fit.call [
      | inl empty ↦ absurd (some empty)
      | inr of_call ↦ subst (λ (x : PlainPeeker). IsPeeking p.load.procs hand.call.call x) (sym (same some))
          (subst (λ (x : Hand). IsPeeking p.load.procs x.call.call q) (some_hand of_call.0 hand (sym of_call.1 ∙ is)) of_call.2)
    ]
  ]

-- after the turn of a call at a lock what is peeked fits again
pub locked_fits : (p p' : Plain) (w number : ℕ) (key : Key) (mode : Mode) → IsAtLock p w number key mode → Stood p → (q mid q' : PlainPeeker) → PeekerFits p w q → mid.seen ≡ q.seen → PeeksItsCall p w mid →
    ((K : List (Act Txn)) (h : Hidden) (es : List machine.Event) (told : List (ℕ × List ℕ)) (f : Peeks) → Stands p K h → f w ≡ q.seen → has_turn_in w p p' K h es told f ≡ true) →
    ((K : List (Act Txn)) (h : Hidden) (es : List machine.Event) (told : List (ℕ × List ℕ)) (f : Peeks) → Stands p K h → f w ≡ mid.seen → has_turn_in w p p' K h es told f ≡ true → TurnedIn w p p' K h es told f Optimistic (at w q'.seen f)) →
    ((procs : List Proc) (c : Call) → IsPeeking procs c mid → (q'.seen ≡ []) ⊎ IsPeeking procs c q') → PeekerFits p' w q'
locked_fits p p' w number key mode at_lock (K, h, g) q mid q' fit seen its_peeks works turned kept =
    let tells = at_lock K h g in
    let f : Peeks = λ v. q.seen in
    peeker_fits w p p' K h [] [] f fit.fits q' (turned K h [] [] f g (sym seen) (works K h [] [] f g refl)) (elim (kept p.load.procs tells.hand.call.call (its_peeks K h g tells.hand tells.is)) [
      | inl none ↦ inl none
      | inr peeking ↦ inr (tells.hand, tells.is, peeking)
    ])

-- and after that of one at none
pub unlocked_fits : (p p' : Plain) (w : ℕ) → IsAtNone p w → w < p.load.workers → Stood p → (q q' : PlainPeeker) → PeekerFits p w q → (q'.seen ≡ []) ⊎ (q' ≡ q) → Forgot p' w q.seen q'.seen →
    ((K : List (Act Txn)) (h : Hidden) (es : List machine.Event) (told : List (ℕ × List ℕ)) → Stands p K h → Comes (works w) p p' told told K h es) → PeekerFits p' w q'
unlocked_fits p p' w at_none lt (K, h, g) q q' fit kept forgot comes =
    let f : Peeks = λ v. q.seen in
    peeker_fits w p p' K h [] [] f fit.fits q' (unlocked_turned w p p' K h [] [] f q q'.seen lt (at_none K h g) fit refl forgot (comes K h [] [] g)) (elim kept [
      | inl none ↦ inl none
      | inr same ↦ subst (λ (x : PlainPeeker). IsOfCall p.load.procs (ready_at p w) x) (sym same) fit.call
    ])

-- nothing happens to one that rests for a stop
pub stopped_turned : (w : ℕ) (p : Plain) (K : List (Act Txn)) (h : Hidden) (es : List machine.Event) (told : List (ℕ × List ℕ)) (f : Peeks) (seen : List (Key × Value)) → w < p.load.workers → Stands p K h → raised p h ≡ true → (worker_at p w).hand ≡ None → seen ≡ [] → f w ≡ seen →
    (false ≡ has_turn_in w p p K h es told f) × TurnedIn w p p K h es told f Optimistic (at w seen f)
stopped_turned w p K h es told f seen lt g up none empty same =
    let rests = rests_stopped w p p K h es told f lt up none (same ∙ empty) in (
      sym rests,
      record {
        hidden = h;
        order = K;
        events = es;
        stands = g;
        load = refl;
        taken = refl;
        moved = if_not (has_turn_in w p p K h es told f) _ _ rests (ap (λ (k : Peeks). peeked (progress p h es K told) k) (ap (λ (x : List (Key × Value)). at w x f) (sym same) ∙ at_itself w f));
      },
    )

-- by the answer of the worker's turn

pub unlocked_by : (w : ℕ) (p p' : Plain) (q : PlainPeeker) (seen' : List (Key × Value)) → w < p.load.workers → IsAtNone p w → PeekerFits p w q → Forgot p' w q.seen seen' → (did : Bool) →
    ((K : List (Act Txn)) (h : Hidden) (es : List machine.Event) (told : List (ℕ × List ℕ)) → Stands p K h → WorkerTurned w p p' K h es told (Ok did)) →
    (K : List (Act Txn)) (h : Hidden) (es : List machine.Event) (told : List (ℕ × List ℕ)) (f : Peeks) → Stands p K h → f w ≡ q.seen → OptimistTurned w p p' K h es told f seen' (Ok did)
unlocked_by w p p' q seen' lt at_none fit forgot did turned K h es told f g same =
    let (is, c) = turned K h es told g in (
      is ∙ turns_as_work w p p' K h es told f lt (λ rests. same ∙ unpeeked w p K h (at_none K h g) q fit rests),
      unlocked_turned w p p' K h es told f q seen' lt (at_none K h g) fit same forgot c,
    )

-- a core that stood stands after the turn, on the same workload
pub stood_after : (w : ℕ) (p p' : Plain) (did : Bool) → Stood p → ((K : List (Act Txn)) (h : Hidden) (es : List machine.Event) (told : List (ℕ × List ℕ)) → Stands p K h → WorkerTurned w p p' K h es told (Ok did)) → Stood p' × (p'.load ≡ p.load)
stood_after w p p' did (K, h, g) turned = let c = (turned K h [] [] g).1 in ((c.order, c.hidden, c.stands), c.load)

-- a call at a lock has something to do, unless it rests for a stop
pub works_locked : (p p' : Plain) (w number : ℕ) (key : Key) (mode : Mode) → IsAtLock p w number key mode → w < p.load.workers → (stopped : Bool) → ((h : Hidden) → stopped ≡ raised p h) → (q : PlainPeeker) →
    (stopped ≡ true → (worker_at p w).hand ≡ None → q.seen ≡ [] → ⊥) → (K : List (Act Txn)) (h : Hidden) (es : List machine.Event) (told : List (ℕ × List ℕ)) (f : Peeks) → Stands p K h → f w ≡ q.seen → has_turn_in w p p' K h es told f ≡ true
works_locked p p' w number key mode at_lock lt stopped stop q goes K h es told f g same =
    let tells = at_lock K h g in
    turns_at_lock w p p' K h es told f lt tells.hand tells.is (λ up rests empty. goes (stop h ∙ up) rests (sym same ∙ empty))

pub is_at_lock : (p : Plain) (w number : ℕ) (key : Key) (mode : Mode) (r : Option (ℕ × Key × Mode)) → ((K : List (Act Txn)) (h : Hidden) → Stands p K h → TellsLock p h w r) → r ≡ Some (number, key, mode) → IsAtLock p w number key mode
is_at_lock p w number key mode r tells is K h g = subst (λ (o : Option (ℕ × Key × Mode)). TellsLock p h w o) is (tells K h g)

pub is_at_none : (p : Plain) (w : ℕ) (r : Option (ℕ × Key × Mode)) → ((K : List (Act Txn)) (h : Hidden) → Stands p K h → TellsLock p h w r) → r ≡ None → IsAtNone p w
is_at_none p w r tells is K h g = subst (λ (o : Option (ℕ × Key × Mode)). TellsLock p h w o) is (tells K h g)

-- of the workload that the core stands on
module _ (p : Plain) (w number : ℕ) (key : Key) (mode : Mode) (at_lock : IsAtLock p w number key mode) (stood : Stood p) (procs : List Proc) (calls : List Call) (same_procs : procs ≡ p.load.procs) (same_calls : calls ≡ p.load.calls) where
  pub number_low : 1 ≤ number
  number_low = (its_number p w number key mode at_lock stood).low

  pub number_high : number ≤ length calls
  number_high = let high = (its_number p w number key mode at_lock stood).high in let long = ap (length {A = Call}) same_calls in omega (arith, high, long)

  pub calls_few : length calls ≤ MAX_CALLS
  calls_few = let (K, h, g) = stood in let few = g.sound.few in let long = ap (length {A = Call}) same_calls in omega (arith, few, long)

  pub call_taken : (c : Call) → slice_get calls (number - 1) ≡ Some c → IsTrue (takes procs c)
  call_taken c e = subst (λ (ps : List Proc). IsTrue (takes ps c)) (sym same_procs) (its_takes p w number key mode at_lock stood c (ap (λ (cs : List Call). slice_get cs (number - 1)) (sym same_calls) ∙ e))

  pub begun_peeks : (q q' : PlainPeeker) → PeekerFits p w q → ((q.seen ≡ [] → ⊥) → q' ≡ q) → (q.seen ≡ [] → (c : Call) → slice_get calls (number - 1) ≡ Some c → IsPeeking procs c q') → PeeksItsCall p w q'
  begun_peeks q q' fit same begins = peeks_its_call p w number key mode at_lock q q' fit same
      (λ empty c e. subst (λ (ps : List Proc). IsPeeking ps c q') same_procs (begins empty c (ap (λ (cs : List Call). slice_get cs (number - 1)) same_calls ∙ e)))

-- ---- how much is peeked

pub seen_few : (procs : List Proc) (o : Option Hand) (q : PlainPeeker) → IsOfCall procs o q → length q.seen ≤ MAX_STEPS
seen_few procs o q (inl none) = let e = ap (length {A = Key × Value}) none in omega (arith, e)
seen_few procs o q (inr of_call) = of_call.2.few
