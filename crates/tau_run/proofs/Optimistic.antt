-- Optimistic workers: what each has peeked fits the call that it has in hand.
use Rattle.std.proofs.Common.{ℕ, Bool, true, false, ◌≡◌, inl, inr, List, [], ◌∷◌, ◌++◌, map, refl, sym, ap, subst, ◌∙◌, Option, append_assoc}
use Rattle.std.specs.Prelude.{◌==◌, ◌&&◌, ◌||◌, ◌⊎◌, not, slice_index, Some, None}
use Rattle.std.specs.Map.{lookup}
use Rattle.std.proofs.lemmas.Bool.{cases_eq}
use Rattle.tau_base.specs.Database.{same_key}
use Rattle.tau_base.specs.declared.limits.TheConstants.{MAX_TRIES, SHARDS}
use Rattle.tau_base.specs.declared.value.Key.{Key}
use Rattle.tau_base.specs.declared.value.Mode.{Mode}
use Rattle.tau_base.specs.declared.value.Mode.TheVariants.{Read, Write}
use Rattle.tau_base.specs.declared.value.Value.{Value}
use Rattle.tau_proc.specs.Effect.{Effect}
use Rattle.tau_proc.specs.declared.proc.Proc.{Proc}
use Rattle.tau_model.specs.History.{Numbered, Act, Member}
use Rattle.tau_machine.specs.Stage.{Stage, Wants, Ends, stage}
use Rattle.tau_machine.specs.Hands.{Txn, Hand, Phase, Running, Quitting, Placed, Freeing}
use Rattle.tau_shard.specs.Shard.{at}
use Rattle.tau_machine.specs.State.{Setting, Core}
use Rattle.tau_machine.specs.Worker.{Worker, fresh, begun_by, unlocked, write_want, lock_of, hand_locked, settled_by, settled, hand_busy, hand_quit, hand_joined, hand_freed}
use Rattle.tau_machine.specs.Worker as worker
use Rattle.tau_machine.specs.Events.{Event, Lock, Busy, Quit, Commit, Post, Free, FirstFree, Done, DoneReading, Drop, Gather, PlaceAnchor, Persist, Ack, Stop, Resume, Leads, Gathered, stop, record_first, anchor_first, ready, lock_next}
use Rattle.tau_machine.specs.Runs.{IsOpening}
use Rattle.tau_shard.proofs.At.{at_same, at_other, at_at}
use Rattle.tau_occ.specs.declared.style.Style.TheVariants.{Optimistic}
use Rattle.tau_text.specs.declared.load.Turn.{Turn}
use Rattle.tau_text.specs.declared.load.Turn.TheVariants as turn
use Rattle.tau_run.specs.Run.{below}
use Rattle.tau_run.specs.Turns.{Progress, begun, Stays, IsOwn, is_going, is_raised, any_left, Goes, Flushed, round}
use Rattle.tau_run.specs.Schedule as todo
use Rattle.tau_run.specs.Schedule.{Todo, RunState, still, state_of, Does, Becomes, Acts, Peeks, HasPeeked, ReadsPeeked, Steps, here, on, peeks_after, todos_of, is_flushed, has_covered, has_turn, any_turn, TakesTurn}
use Rattle.tau_run.specs.ScheduleLaws.{CommitsWhatItPeeked}
use Rattle.tau_run.proofs.Steps.{if_known}
use Rattle.tau_run.specs.Fits as spec
use Rattle.tau_run.proofs.Peeked.{asks_more, front_locked, front_ended}

-- ---- one worker

module _ (procs : List Proc) where
  abbrev PhaseFits : List (Key × Value) → Hand → Phase → Type 0
  PhaseFits ps h p = spec.PhaseFits procs ps h p

  abbrev HandFits : List (Key × Value) → Hand → Type 0
  HandFits ps h = spec.HandFits procs ps h

  abbrev Fits : List (Key × Value) → Option Hand → Type 0
  Fits ps o = spec.Fits procs ps o

  fresh_fits : (width n : ℕ) (c : Numbered) → HandFits [] (fresh width c n)
  fresh_fits width n c = (refl, (tt, ([], refl)))

  waiting_fits : (width : ℕ) (wk : Worker) (cs : List Numbered) → Fits [] (begun_by width (record wk { hand = None }) None cs).hand
  waiting_fits width wk [] = tt
  waiting_fits width wk (c ∷ cs) = fresh_fits width 0 c

  phase_fits : (ps : List (Key × Value)) (h : Hand) (p : Phase) → h.phase ≡ p → PhaseFits ps h p → PhaseFits ps h h.phase
  phase_fits ps h p e f = subst (PhaseFits ps h) (sym e) f

  settled_by_fits : (width : ℕ) (wk : Worker) (h : Hand) (held : List (Key × Mode)) (up last : Bool) → h.given_up ≡ false → h.phase ≡ Quitting → Fits [] (worker.begun width (settled_by width wk h held up last)).hand
  settled_by_fits width wk h (k ∷ ks) up last steady quits = (steady, phase_fits [] h Quitting quits refl)
  settled_by_fits width wk h [] true last steady quits = waiting_fits width wk wk.waiting
  settled_by_fits width wk h [] false true steady quits = waiting_fits width (record wk { left = wk.left ++ h.call ∷ [] }) wk.waiting
  settled_by_fits width wk h [] false false steady quits = fresh_fits width h.tries h.call

  settled_fits : (width : ℕ) (wk : Worker) (h : Hand) → h.given_up ≡ false → h.phase ≡ Quitting → Fits [] (worker.begun width (settled width wk h)).hand
  settled_fits width wk h steady quits = settled_by_fits width wk h h.held h.given_up (h.tries == MAX_TRIES) steady quits

  -- a lock
  reads_next : (h : Hand) (s : Stage) (key : Key) → lock_of s h.held ≡ Some (key, Read) → (reads : List (Key × Value)) × (s ≡ Wants reads key)
  reads_next h (Wants rs x) key e = (rs, ap (λ (y : Key). Wants rs y) (key_same x key e))
    where
      key_of : Option (Key × Mode) → Option Key
      key_of None = None
      key_of (Some l) = Some l.0

      key_same : (a b : Key) → ◌≡◌ {A = Option (Key × Mode)} (Some (a, Read)) (Some (b, Read)) → a ≡ b
      key_same a b e = let same : Some a ≡ Some b = ap key_of e in cc
  reads_next h (Ends f) key e = absurd (by (unlocked f.writes h.held) e)
    where
      mode_of : Option (Key × Mode) → Option Mode
      mode_of None = None
      mode_of (Some l) = Some l.1

      by : (o : Option Key) → write_want o ≡ Some (key, Read) → ⊥
      by None q = let bad : None ≡ Some Read = ap mode_of q in cc
      by (Some x) q = let bad : Some Write ≡ Some Read = ap mode_of q in cc

  locked_fits : (ps : List (Key × Value)) (h : Hand) (key : Key) (mode : Mode) (row : Value) (write_lv read_lv : List ℕ) → HandFits ps h → h.phase ≡ Running → lock_of (stage procs h.call.call h.seen) h.held ≡ Some (key, mode) →
      ((e : Effect) × (stage procs h.call.call ps ≡ Ends e)) → (mode ≡ Read → lookup (same_key key) ps ≡ Some row) → HandFits ps (hand_locked h key mode row write_lv read_lv)
  locked_fits ps h key Read row write_lv read_lv f runs next ended found =
      let (asks, front) = subst (PhaseFits ps h) runs f.1 in
      let (reads, wants) = reads_next h (stage procs h.call.call h.seen) key next in
      (f.0, subst (PhaseFits ps (hand_locked h key Read row write_lv read_lv)) (sym runs) (asks, front_locked procs h.call.call ps h.seen reads key row ended.0 asks front wants ended.1 (found refl)))
  locked_fits ps h key Write row write_lv read_lv f runs next ended found =
      (f.0, subst (PhaseFits ps (hand_locked h key Write row write_lv read_lv)) (sym runs) (subst (PhaseFits ps h) runs f.1))

  fits_hand : (ps : List (Key × Value)) (o : Option Hand) (h : Hand) → o ≡ Some h → Fits ps o → HandFits ps h
  fits_hand ps o h e f = subst (Fits ps) e f

ready_held : (width : ℕ) (wk : Worker) (h : Hand) → wk.hand ≡ Some h → (worker.begun width wk).hand ≡ Some h
ready_held width wk h e = by wk.hand refl
  where
    by : (o : Option Hand) → wk.hand ≡ o → (begun_by width wk o wk.waiting).hand ≡ Some h
    by None p = absurd (let bad : None ≡ Some h = sym p ∙ e in cc)
    by (Some g) p = e

-- ---- an event of a worker

module _ (set : Setting) (m n : ℕ) where
  -- what each worker has peeked fits the call that it has in hand, or would begin
  abbrev pub AllFit : RunState → Type 0
  AllFit x = (w : ℕ) → Fits set.procs (x.peeks w) (ready set (state_of x) w).hand

  -- one worker is changed, and fits
  record Changed (s s' : Core) (peeks peeks' : ℕ → List (Key × Value)) : Type 0 where
    u : ℕ
    new : Worker
    workers : s'.workers ≡ at u new s.workers
    fits : Fits set.procs (peeks' u) (worker.begun set.width new).hand
    others : (v : ℕ) → (v ≡ u → ⊥) → peeks' v ≡ peeks v

  -- the worker's, in this state
  abbrev pub FitsAt : ℕ → RunState → Type 0
  FitsAt w x = Fits set.procs (x.peeks w) (ready set (state_of x) w).hand

  changed_at : (v : ℕ) (x y : RunState) → FitsAt v x → Changed (state_of x) (state_of y) x.peeks y.peeks → FitsAt v y
  changed_at v x y f c = elim (cases_eq v c.u) [
    | inl same ↦ subst (λ (k : ℕ). Fits set.procs (y.peeks k) (ready set (state_of y) k).hand) (sym same)
        (subst (λ (wk : Worker). Fits set.procs (y.peeks c.u) (worker.begun set.width wk).hand) (sym (ap (λ (g : ℕ → Worker). g c.u) c.workers ∙ at_same c.u c.new (state_of x).workers)) c.fits)
    | inr other ↦
        subst (λ (ps : List (Key × Value)). Fits set.procs ps (ready set (state_of y) v).hand) (sym (c.others v other))
        (subst (λ (wk : Worker). Fits set.procs (x.peeks v) (worker.begun set.width wk).hand) (sym (ap (λ (g : ℕ → Worker). g v) c.workers ∙ at_other c.u c.new (state_of x).workers v other)) f)
  ]

  same_fit : (x y : RunState) → AllFit x → (state_of y).workers ≡ (state_of x).workers → y.peeks ≡ x.peeks → AllFit y
  same_fit x y f e p w =
      subst (λ (ps : List (Key × Value)). Fits set.procs ps (ready set (state_of y) w).hand) (sym (ap (λ (g : ℕ → List (Key × Value)). g w) p))
      (subst (λ (wk : Worker). Fits set.procs (x.peeks w) (worker.begun set.width wk).hand) (sym (ap (λ (g : ℕ → Worker). g w) e)) (f w))

  -- by an event of the worker that fits
  module _ (s s' : Core) (peeks : ℕ → List (Key × Value)) (w : ℕ) (fit : (u : ℕ) → u ≡ w → Fits set.procs (peeks u) (ready set s u).hand) where
    here_fits : (u : ℕ) → u ≡ w → (h : Hand) → (s.workers u).hand ≡ Some h → HandFits set.procs (peeks u) h
    here_fits u own h is = fits_hand set.procs (peeks u) (ready set s u).hand h (ready_held set.width (s.workers u) h is) (fit u own)

    kept : (v u : ℕ) → (v ≡ u → ⊥) → at u [] peeks v ≡ peeks v
    kept v u other = at_other u [] peeks v other

    -- nothing is peeked of the next try
    emptied : (u : ℕ) (o : Option Hand) → Fits set.procs [] o → Fits set.procs (at u [] peeks u) o
    emptied u o f = subst (λ (ps : List (Key × Value)). Fits set.procs ps o) (sym (at_same u [] peeks)) f

    -- a call that quits has nothing peeked
    pub quit_empty : (u : ℕ) (up : Bool) (new : List (Act Txn)) → IsOwn w (Quit u up) → Leads set (Quit u up) s s' new → peeks u ≡ []
    quit_empty u up new own (r, _) =
        let f = here_fits u own.0 r.hand r.is in
        elim r.phase [
          | inl quits ↦ subst (PhaseFits set.procs (peeks u) r.hand) quits f.1
          | inr runs ↦ absurd (let bad : false ≡ true = sym (ap (λ (b : Bool). b || up) f.0 ∙ own.1) ∙ runs.1 in cc)
        ]

    event_changes : (e : Event) (new : List (Act Txn)) → IsOwn w e → Leads set e s s' new → ((hand : Hand) → (ready set s w).hand ≡ Some hand → hand.phase ≡ Running → (f : Effect) × (stage set.procs hand.call.call (peeks w) ≡ Ends f)) →
        ((u : ℕ) → e ≡ Lock u → (hand : Hand) (key : Key) → (ready set s u).hand ≡ Some hand → lock_next set hand ≡ Some (key, Read) → lookup (same_key key) (peeks u) ≡ Some ((s.shards (set.shard_of key)).rows key)) →
        Changed s s' peeks (peeks_after Optimistic e peeks)
    event_changes (Lock u) new own (r, _) peeked reads = record {
      u = u;
      new = _;
      workers = ap (λ (c : Core). c.workers) r.after;
      fits = locked_fits set.procs (peeks u) r.hand r.key r.mode _ _ _ (fits_hand set.procs (peeks u) (ready set s u).hand r.hand r.is (fit u own)) r.phase r.next
          (subst (λ (k : ℕ). (hand : Hand) → (ready set s k).hand ≡ Some hand → hand.phase ≡ Running → (f : Effect) × (stage set.procs hand.call.call (peeks k) ≡ Ends f)) (sym own) peeked r.hand r.is r.phase)
          (λ is. reads u refl r.hand r.key r.is (r.next ∙ ap (λ (mode : Mode). Some (r.key, mode)) is));
      others = λ v other. refl;
    }
    event_changes (Busy u) new own (r, _) peeked reads = record {
      u = u;
      new = _;
      workers = ap (λ (c : Core). c.workers) r.after;
      fits = emptied u _ (settled_fits set.procs set.width (ready set s u) (hand_busy r.hand) (fits_hand set.procs (peeks u) (ready set s u).hand r.hand r.is (fit u own)).0 refl);
      others = λ v other. kept v u other;
    }
    event_changes (Quit u up) new own (r, nobody) peeked reads = record {
      u = u;
      new = _;
      workers = ap (λ (c : Core). c.workers) r.after;
      fits = subst (λ (ps : List (Key × Value)). Fits set.procs ps (worker.begun set.width (settled set.width (s.workers u) (hand_quit r.hand r.key up))).hand) (sym empty)
          (settled_fits set.procs set.width (s.workers u) (hand_quit r.hand r.key up) steady refl);
      others = λ v other. refl;
    }
      where
        steady : (r.hand.given_up || up) ≡ false
        steady = ap (λ (b : Bool). b || up) (here_fits u own.0 r.hand r.is).0 ∙ own.1

        empty : peeks u ≡ []
        empty = quit_empty u up new own (r, nobody)
    event_changes (Commit u) new own (t, r, _) peeked reads = record {
      u = u;
      new = _;
      workers = ap (λ (c : Core). c.workers) r.after;
      fits = ((fits_hand set.procs (peeks u) (ready set s u).hand r.hand r.is (fit u own)).0, tt);
      others = λ v other. refl;
    }
    event_changes (Post u) new own (r, _) peeked reads = record {
      u = u;
      new = _;
      workers = ap (λ (c : Core). c.workers) r.after;
      fits = ((here_fits u own r.hand r.is).0, tt);
      others = λ v other. refl;
    }
    event_changes (Free u) new own (r, _) peeked reads = record {
      u = u;
      new = _;
      workers = ap (λ (c : Core). c.workers) r.after;
      fits = ((here_fits u own r.hand r.is).0, subst (PhaseFits set.procs (peeks u) (hand_freed r.hand r.key)) (sym r.phase) tt);
      others = λ v other. refl;
    }
    event_changes (FirstFree u) new own (mid, t, r, f, _) peeked reads = record {
      u = u;
      new = _;
      workers = ap (λ (c : Core). c.workers) f.after ∙ ap (λ (g : ℕ → Worker). at u (record (mid.workers u) { hand = Some (hand_freed f.hand f.key) }) g) (ap (λ (c : Core). c.workers) r.after) ∙ at_at u _ _ s.workers;
      fits = (steady, subst (PhaseFits set.procs (peeks u) (hand_freed f.hand f.key)) (sym f.phase) tt);
      others = λ v other. refl;
    }
      where
        up_of : Option Hand → Bool
        up_of None = false
        up_of (Some h) = h.given_up

        there : (mid.workers u).hand ≡ Some (hand_joined r.hand (Freeing t) r.hand.dep)
        there = ap (λ (c : Core). (c.workers u).hand) r.after ∙ ap (λ (k : Worker). k.hand) (at_same u _ s.workers)

        steady : f.hand.given_up ≡ false
        steady = ap up_of (sym f.is ∙ there) ∙ (fits_hand set.procs (peeks u) (ready set s u).hand r.hand r.is (fit u own)).0
    event_changes (Done u) new own (r, _) peeked reads = record {
      u = u;
      new = _;
      workers = ap (λ (c : Core). c.workers) r.after;
      fits = emptied u _ (waiting_fits set.procs set.width (s.workers u) (s.workers u).waiting);
      others = λ v other. kept v u other;
    }
    event_changes (DoneReading u) new own (mid, t, r, f, _) peeked reads = record {
      u = u;
      new = _;
      workers = ap (λ (c : Core). c.workers) f.after ∙ ap (λ (g : ℕ → Worker). at u (record (mid.workers u) { hand = None }) g) (ap (λ (c : Core). c.workers) r.after) ∙ at_at u _ _ s.workers;
      fits = emptied u _ (waiting_fits set.procs set.width (mid.workers u) (mid.workers u).waiting);
      others = λ v other. kept v u other;
    }
    event_changes (Drop i v) new own l peeked reads = absurd own
    event_changes (Gather j) new own l peeked reads = absurd own
    event_changes (PlaceAnchor j v) new own l peeked reads = absurd own
    event_changes (Persist j upto) new own l peeked reads = absurd own
    event_changes (Ack u v) new own l peeked reads = absurd own
    event_changes (Stop j upto) new own l peeked reads = absurd own
    event_changes (Resume u) new own l peeked reads = absurd own

  -- the worker has in hand, or would begin, the call of before
  abbrev pub KeepsHand : ℕ → Core → Core → Type 0
  KeepsHand w s s' = (h : Hand) × (h' : Hand) × ((ready set s w).hand ≡ Some h) × ((ready set s' w).hand ≡ Some h') × (h'.call ≡ h.call)

  locked_call : (h : Hand) (key : Key) (mode : Mode) (row : Value) (write_lv read_lv : List ℕ) → (hand_locked h key mode row write_lv read_lv).call ≡ h.call
  locked_call h key Read row write_lv read_lv = refl
  locked_call h key Write row write_lv read_lv = refl

  hand_put : (s : Core) (w : ℕ) (wk : Worker) (h : Hand) → wk.hand ≡ Some h → (worker.begun set.width (at w wk s.workers w)).hand ≡ Some h
  hand_put s w wk h e = ap (λ (k : Worker). (worker.begun set.width k).hand) (at_same w wk s.workers) ∙ ready_held set.width wk h e

  -- so it is after an event of the worker, or nothing is peeked any more
  module _ (s s' : Core) (peeks : ℕ → List (Key × Value)) (w : ℕ) (fit : (u : ℕ) → u ≡ w → Fits set.procs (peeks u) (ready set s u).hand) where
    abbrev Keeps : ℕ → Event → Type 0
    Keeps v e = (peeks_after Optimistic e peeks v ≡ []) ⊎ KeepsHand v s s'

    own_keeps : (u : ℕ) (e : Event) → u ≡ w → Keeps u e → Keeps w e
    own_keeps u e own k = subst (λ (v : ℕ). Keeps v e) own k

    event_keeps : (e : Event) (new : List (Act Txn)) → IsOwn w e → Leads set e s s' new → Keeps w e
    event_keeps (Lock u) new own (r, _) = own_keeps u (Lock u) own (inr (
      r.hand,
      _,
      r.is,
      ap (λ (c : Core). (worker.begun set.width (c.workers u)).hand) r.after ∙ hand_put s u _ _ refl,
      locked_call r.hand r.key r.mode _ _ _,
    ))
    event_keeps (Busy u) new own (r, _) = own_keeps u (Busy u) own (inl (at_same u [] peeks))
    event_keeps (Quit u up) new own l = own_keeps u (Quit u up) own.0 (inl (quit_empty s s' peeks w fit u up new own l))
    event_keeps (Commit u) new own (t, r, _) = own_keeps u (Commit u) own (inr (
      r.hand,
      hand_joined r.hand (Placed t) t.call.place.dep,
      r.is,
      ap (λ (c : Core). (worker.begun set.width (c.workers u)).hand) r.after ∙ hand_put s u _ _ refl,
      refl,
    ))
    event_keeps (Post u) new own (r, _) = own_keeps u (Post u) own (inr (
      r.hand,
      record (r.hand) { phase = Freeing r.act },
      ready_held set.width (s.workers u) r.hand r.is,
      ap (λ (c : Core). (worker.begun set.width (c.workers u)).hand) r.after ∙ hand_put s u _ _ refl,
      refl,
    ))
    event_keeps (Free u) new own (r, _) = own_keeps u (Free u) own (inr (
      r.hand,
      hand_freed r.hand r.key,
      ready_held set.width (s.workers u) r.hand r.is,
      ap (λ (c : Core). (worker.begun set.width (c.workers u)).hand) r.after ∙ hand_put s u _ _ refl,
      refl,
    ))
    event_keeps (FirstFree u) new own (mid, t, r, f, _) = own_keeps u (FirstFree u) own (inr (
      r.hand,
      hand_freed f.hand f.key,
      r.is,
      ap (λ (c : Core). (worker.begun set.width (c.workers u)).hand) f.after ∙ hand_put mid u _ _ refl,
      call_same f.hand (hand_joined r.hand (Freeing t) r.hand.dep) (sym f.is ∙ ap (λ (c : Core). (c.workers u).hand) r.after ∙ ap (λ (k : Worker). k.hand) (at_same u _ s.workers)),
    ))
      where
        call_same : (a b : Hand) → Some a ≡ Some b → a.call ≡ b.call
        call_same a b e = let same : a ≡ b = cc in ap (λ (h : Hand). h.call) same
    event_keeps (Done u) new own l = own_keeps u (Done u) own (inl (at_same u [] peeks))
    event_keeps (DoneReading u) new own l = own_keeps u (DoneReading u) own (inl (at_same u [] peeks))
    event_keeps (Drop i v) new own l = absurd own
    event_keeps (Gather j) new own l = absurd own
    event_keeps (PlaceAnchor j v) new own l = absurd own
    event_keeps (Persist j upto) new own l = absurd own
    event_keeps (Ack u v) new own l = absurd own
    event_keeps (Stop j upto) new own l = absurd own
    event_keeps (Resume u) new own l = absurd own

  acts_change : (w : ℕ) (x y : RunState) → FitsAt w x → HasPeeked set m n w x → Acts set m n Optimistic w x y → Changed (state_of x) (state_of y) x.peeks y.peeks
  acts_change w x y f peeked a = subst (λ (ps : ℕ → List (Key × Value)). Changed (state_of x) (state_of y) x.peeks ps) (sym a.peeks)
      (event_changes (state_of x) (state_of y) x.peeks w (λ u e. subst (λ (k : ℕ). FitsAt k x) (sym e) f) a.event a.goes.new a.own a.goes.leads peeked (λ u is. subst (λ (e : Event). ReadsPeeked set m n Optimistic e x) is a.reads))

  acts_fit : (w : ℕ) (x y : RunState) → AllFit x → HasPeeked set m n w x → Acts set m n Optimistic w x y → AllFit y
  acts_fit w x y f peeked a v = changed_at v x y (f v) (acts_change w x y (f w) peeked a)

  peeks_at : (w : ℕ) (x y : RunState) → FitsAt w x → Peeks set m n w x y → FitsAt w y
  peeks_at w x y f p = subst (FitsAt w) (sym p.after)
      (subst (λ (ps : List (Key × Value)). Fits set.procs ps (ready set (state_of x) w).hand) (sym (at_same w (x.peeks w ++ more) x.peeks)) (subst (Fits set.procs (x.peeks w ++ more)) (sym p.is) peeked))
    where
      more : List (Key × Value)
      more = (p.key, ((state_of x).shards (set.shard_of p.key)).rows p.key) ∷ []

      hand_fits : HandFits set.procs (x.peeks w) p.hand
      hand_fits = fits_hand set.procs (x.peeks w) (ready set (state_of x) w).hand p.hand p.is f

      running : PhaseFits set.procs (x.peeks w) p.hand Running
      running = subst (PhaseFits set.procs (x.peeks w) p.hand) p.phase hand_fits.1

      peeked : Fits set.procs (x.peeks w ++ more) (Some p.hand)
      peeked = (
        hand_fits.0,
        phase_fits set.procs (x.peeks w ++ more) p.hand Running p.phase (
          asks_more set.procs p.hand.call.call (x.peeks w) p.reads p.key _ running.0 p.wants,
          (running.1.0 ++ more, ap (λ (l : List (Key × Value)). l ++ more) running.1.1 ∙ append_assoc p.hand.seen running.1.0 more),
        ),
      )

  peeks_fit : (w : ℕ) (x y : RunState) → AllFit x → Peeks set m n w x y → AllFit y
  peeks_fit w x y f p v = elim (cases_eq v w) [
    | inl same ↦ subst (λ (k : ℕ). FitsAt k y) (sym same) (peeks_at w x y (f w) p)
    | inr other ↦ subst (FitsAt v) (sym p.after) (subst (λ (ps : List (Key × Value)). Fits set.procs ps (ready set (state_of x) v).hand) (sym (at_other w _ x.peeks v other)) (f v))
  ]

  -- so it is after a turn of the worker
  pub turn_fits : (w : ℕ) (x y : RunState) → FitsAt w x → TakesTurn set m n Optimistic w x y → FitsAt w y
  turn_fits w x y f (inl p) = peeks_at w x y f p
  turn_fits w x y f (inr a) = changed_at w x y f (acts_change w x y f a.0 a.1)

  -- and it has the call of before, or nothing is peeked any more
  pub turn_keeps : (w : ℕ) (x y : RunState) → FitsAt w x → TakesTurn set m n Optimistic w x y → (y.peeks w ≡ []) ⊎ KeepsHand w (state_of x) (state_of y)
  turn_keeps w x y f (inl p) = inr (p.hand, p.hand, p.is, ap (λ (z : RunState). (ready set (state_of z) w).hand) p.after ∙ p.is, refl)
  turn_keeps w x y f (inr (peeked, a)) = elim (event_keeps (state_of x) (state_of y) x.peeks w (λ u e. subst (λ (k : ℕ). FitsAt k x) (sym e) f) a.event a.goes.new a.own a.goes.leads) [
    | inl none ↦ inl (ap (λ (g : ℕ → List (Key × Value)). g w) a.peeks ∙ none)
    | inr kept ↦ inr kept
  ]

  gathered_workers : (j : ℕ) (s s' : Core) → Gathered set j s s' → s'.workers ≡ s.workers
  gathered_workers j s s' stop = refl
  gathered_workers j s s' (record_first {m = a} w g more) = gathered_workers j a s' more ∙ ap (λ (c : Core). c.workers) g.after
  gathered_workers j s s' (anchor_first {m = a} g more) = gathered_workers j a s' more ∙ ap (λ (c : Core). c.workers) g.after

  -- ---- what is still to do

  -- after the calls left over have begun, no worker's turn comes by a word
  abbrev IsLate : Todo → Type 0
  IsLate (todo.Word (turn.Worker w)) = ⊥
  IsLate todo.Rounds = ⊥
  IsLate t = Unit {0}

  abbrev Late : List Todo → Type 0
  Late [] = Unit {0}
  Late (t ∷ ts) = IsLate t × Late ts

  -- and before that none acts alone
  abbrev Early : List Todo → Type 0
  Early [] = Unit {0}
  Early (todo.LeftOver ∷ ts) = Late ts
  Early (todo.Alone w ∷ ts) = ⊥
  Early (t ∷ ts) = Early ts

  abbrev IsPlain : Todo → Type 0
  IsPlain todo.LeftOver = ⊥
  IsPlain (todo.Alone w) = ⊥
  IsPlain t = Unit {0}

  abbrev Plain : List Todo → Type 0
  Plain [] = Unit {0}
  Plain (t ∷ ts) = IsPlain t × Plain ts

  late_append : (xs ys : List Todo) → Late xs → Late ys → Late (xs ++ ys)
  late_append [] ys a b = b
  late_append (x ∷ xs) ys a b = (a.0, late_append xs ys a.1 b)

  late_map : {A : Type 0} (word : A → Todo) → ((a : A) → IsLate (word a)) → (xs : List A) → Late (map word xs)
  late_map word h [] = tt
  late_map word h (x ∷ xs) = (h x, late_map word h xs)

  early_append : (xs ys : List Todo) → Plain xs → Early ys → Early (xs ++ ys)
  early_append [] ys a b = b
  early_append (todo.Word t ∷ xs) ys a b = early_append xs ys a.1 b
  early_append (todo.Flush j ∷ xs) ys a b = early_append xs ys a.1 b
  early_append (todo.Clear w ∷ xs) ys a b = early_append xs ys a.1 b
  early_append (todo.Remove i ∷ xs) ys a b = early_append xs ys a.1 b
  early_append (todo.Rounds ∷ xs) ys a b = early_append xs ys a.1 b
  early_append (todo.LeftOver ∷ xs) ys a b = absurd a.0
  early_append (todo.Alone w ∷ xs) ys a b = absurd a.0
  early_append (todo.Drain j ∷ xs) ys a b = early_append xs ys a.1 b
  early_append (todo.Drained j ∷ xs) ys a b = early_append xs ys a.1 b

  plain_append : (xs ys : List Todo) → Plain xs → Plain ys → Plain (xs ++ ys)
  plain_append [] ys a b = b
  plain_append (x ∷ xs) ys a b = (a.0, plain_append xs ys a.1 b)

  plain_map : {A : Type 0} (word : A → Todo) → ((a : A) → IsPlain (word a)) → (xs : List A) → Plain (map word xs)
  plain_map word h [] = tt
  plain_map word h (x ∷ xs) = (h x, plain_map word h xs)

  todos_early : (turns : List Turn) → Early (todos_of set m n turns)
  todos_early turns = early_append (map todo.Word turns) _ (plain_map todo.Word (λ t. tt) turns) (late_append (map todo.Drain (below n)) _ (late_map todo.Drain (λ j. tt) (below n)) (tt, tt))

  abbrev Good : List Todo → RunState → Type 0
  Good todos x = (Early todos × AllFit x) ⊎ Late todos

  -- what a step leaves to do
  late_more : (t : Todo) (x : RunState) (more : List Todo) (y : RunState) → Does set m n Optimistic t x more y → IsLate t → Late more
  late_more (todo.Word (turn.Worker w)) x more y d l = absurd l
  late_more (todo.Word (turn.Manager j)) x more y d l = if_known (is_going set m n (state_of x) j) _ _ (Late more) d (λ e a. subst Late (sym a.0) (tt, tt)) (λ e a. subst Late (sym a.0) tt)
  late_more (todo.Word (turn.Anchor j)) x more y d l = subst Late (sym d.0) tt
  late_more (todo.Word turn.Clerk) x more y d l = subst Late (sym d.0) (late_map todo.Clear (λ w. tt) (below m))
  late_more (todo.Word turn.Drop) x more y d l = subst Late (sym d.0) (late_map todo.Remove (λ i. tt) (below SHARDS))
  late_more (todo.Flush j) x more y d l = subst Late (sym d.0) tt
  late_more (todo.Clear w) x more y d l = if_known (has_covered set m n w (state_of x)) _ _ (Late more) d (λ e a. subst Late (sym a.0) (tt, tt)) (λ e a. subst Late (sym a.0) tt)
  late_more (todo.Remove i) x more y d l = subst Late (sym d.0) tt
  late_more todo.Rounds x more y d l = absurd l
  late_more todo.LeftOver x more y d l = if_known (not (is_raised set m n (state_of x)) && any_left set m n (state_of x)) _ _ (Late more) d
      (λ e a. subst Late (sym a.2.0) (tt, (tt, tt))) (λ e a. subst Late (sym a.0) tt)
  late_more (todo.Alone w) x more y d l = if_known (has_turn set m n x w) _ _ (Late more) d (λ e a. subst Late (sym a.0) (tt, tt)) (λ e a. subst Late (sym a.0) tt)
  late_more (todo.Drain j) x more y d l = if_known (is_going set m n (state_of x) j) _ _ (Late more) d (λ e a. subst Late (sym a.0) (tt, tt)) (λ e a. subst Late (sym a.0) tt)
  late_more (todo.Drained j) x more y d l = if_known (is_flushed set m n j (state_of x)) _ _ (Late more) d (λ e a. subst Late (sym a.0) tt) (λ e a. subst Late (sym a.0) (tt, tt))

  -- a step before the calls left over
  module _ (x : RunState) (more : List Todo) (y : RunState) (f : AllFit x) where
    abbrev Goes_on : Type 0
    Goes_on = Plain more × AllFit y

    becomes_fit : (todos : List Todo) → Plain todos → Becomes todos x more y → Goes_on
    becomes_fit todos p d = (subst Plain (sym d.0) p, subst AllFit (sym d.1) f)

    then_fit : (todos : List Todo) → Plain todos → more ≡ todos → (state_of y).workers ≡ (state_of x).workers → y.peeks ≡ x.peeks → Goes_on
    then_fit todos p e w k = (subst Plain (sym e) p, same_fit x y f w k)

    flushed_workers : (j : ℕ) → Flushed set m n j x.progress y.progress → (state_of y).workers ≡ (state_of x).workers
    flushed_workers j h = if_known (slice_index (state_of x).gathered j == slice_index (state_of x).plv j) _ _ ((state_of y).workers ≡ (state_of x).workers) h
        (λ e a. ap (λ (p : Progress). p.state.workers) a)
        (λ e a. elim a [ inl g ↦ ap (λ (c : Core). c.workers) g.leads.0.after | inr g ↦ ap (λ (c : Core). c.workers) g.leads.0.after ])

    plain_fit : (t : Todo) → IsPlain t → Does set m n Optimistic t x more y → Goes_on
    plain_fit (todo.Word (turn.Worker w)) l d = if_known (has_turn set m n x w) _ _ Goes_on d
        (λ e a. (subst Plain (sym a.0) tt, elim a.1 [ inl p ↦ peeks_fit w x y f p | inr b ↦ acts_fit w x y f b.0 b.1 ])) (λ e a. becomes_fit [] tt a)
    plain_fit (todo.Word (turn.Manager j)) l d = if_known (is_going set m n (state_of x) j) _ _ Goes_on d
        (λ e a. then_fit (todo.Flush j ∷ []) (tt, tt) a.0 (gathered_workers j (state_of x) (state_of y) a.1.0.leads.0) a.2) (λ e a. becomes_fit [] tt a)
    plain_fit (todo.Word (turn.Anchor j)) l d = if_known _ _ _ Goes_on d.1
        (λ e (a : Goes set m n (PlaceAnchor j (state_of x).plv) x.progress y.progress). then_fit [] tt d.0 (ap (λ (c : Core). c.workers) a.leads.0.after) d.2)
        (λ e (a : Stays x.progress y.progress). then_fit [] tt d.0 (ap (λ (p : Progress). p.state.workers) a) d.2)
    plain_fit (todo.Word turn.Clerk) l d = becomes_fit (map todo.Clear (below m)) (plain_map todo.Clear (λ w. tt) (below m)) d
    plain_fit (todo.Word turn.Drop) l d = becomes_fit (map todo.Remove (below SHARDS)) (plain_map todo.Remove (λ i. tt) (below SHARDS)) d
    plain_fit (todo.Flush j) l d = then_fit [] tt d.0 (flushed_workers j d.1) d.2
    plain_fit (todo.Clear w) l d = if_known (has_covered set m n w (state_of x)) _ _ Goes_on d
        (λ e a. then_fit (todo.Clear w ∷ []) (tt, tt) a.0 (ap (λ (c : Core). c.workers) a.1.leads.0.after) a.2) (λ e a. becomes_fit [] tt a)
    plain_fit (todo.Remove i) l d = then_fit [] tt d.0 (ap (λ (c : Core). c.workers) d.1.leads.0.after) d.2
    plain_fit todo.Rounds l d = if_known (any_turn set m n x) _ _ Goes_on d
        (λ e a. becomes_fit (map todo.Word (round set m n) ++ todo.Rounds ∷ []) (plain_append (map todo.Word (round set m n)) (todo.Rounds ∷ []) (plain_map todo.Word (λ t. tt) (round set m n)) (tt, tt)) a)
        (λ e a. becomes_fit [] tt a)
    plain_fit todo.LeftOver l d = absurd l
    plain_fit (todo.Alone w) l d = absurd l
    plain_fit (todo.Drain j) l d = if_known (is_going set m n (state_of x) j) _ _ Goes_on d
        (λ e a. then_fit (todo.Drained j ∷ []) (tt, tt) a.0 (gathered_workers j (state_of x) (state_of y) a.1.0.leads.0) a.2) (λ e a. becomes_fit [] tt a)
    plain_fit (todo.Drained j) l d = if_known (is_flushed set m n j (state_of x)) _ _ Goes_on d
        (λ e a. becomes_fit [] tt a) (λ e a. then_fit (todo.Drain j ∷ []) (tt, tt) a.0 (flushed_workers j a.1) a.2)

  good_on : (t : Todo) (ts : List Todo) (x : RunState) (more : List Todo) (y : RunState) → Does set m n Optimistic t x more y → Good (t ∷ ts) x → Good (more ++ ts) y
  good_on t ts x more y d (inr late) = inr (late_append more ts (late_more t x more y d late.0) late.1)
  good_on t ts x more y d (inl (early, f)) = by t d early
    where
      plain : (t : Todo) → IsPlain t → Does set m n Optimistic t x more y → Early ts → Good (more ++ ts) y
      plain t l d e = let g = plain_fit x more y f t l d in inl (early_append more ts g.0 e, g.1)

      by : (t : Todo) → Does set m n Optimistic t x more y → Early (t ∷ ts) → Good (more ++ ts) y
      by (todo.Word w) d e = plain (todo.Word w) tt d e
      by (todo.Flush j) d e = plain (todo.Flush j) tt d e
      by (todo.Clear w) d e = plain (todo.Clear w) tt d e
      by (todo.Remove i) d e = plain (todo.Remove i) tt d e
      by todo.Rounds d e = plain todo.Rounds tt d e
      by todo.LeftOver d e = inr (late_append more ts (late_more todo.LeftOver x more y d tt) e)
      by (todo.Alone w) d e = absurd e
      by (todo.Drain j) d e = plain (todo.Drain j) tt d e
      by (todo.Drained j) d e = plain (todo.Drained j) tt d e

  steps_good : (todos rest : List Todo) (x y : RunState) → Steps set m n Optimistic todos x rest y → Good todos x → Good rest y
  steps_good todos rest x y here g = g
  steps_good todos rest x y (on {todo = t} {todos = ts} {y = a} more d s) g = steps_good (more ++ ts) rest a y s (good_on t ts x more a d g)

  pub start_fit : (opening : Core) → IsOpening set opening → AllFit (still (begun opening))
  start_fit opening opens w = by (opening.workers w).hand (opens.hands w) refl (opening.workers w).waiting
    where
      wk : Worker
      wk = opening.workers w

      by : (o : Option Hand) → o ≡ None → wk.hand ≡ o → (cs : List Numbered) → Fits set.procs [] (begun_by set.width wk o cs).hand
      by None e is [] = subst (Fits set.procs []) (sym is) tt
      by None e is (c ∷ cs) = fresh_fits set.procs set.width 0 c
      by (Some h) e is cs = absurd (let bad : Some h ≡ None = e in cc)

  -- ---- what commits

  record Peeked (w : ℕ) (x : RunState) (t : Act Txn) : Type 0 where
    hand : Hand
    is : (ready set (state_of x) w).hand ≡ Some hand
    call : t.call.call ≡ hand.call
    seen : hand.seen ≡ x.peeks w
    ended : stage set.procs hand.call.call (x.peeks w) ≡ Ends t.effect

  peeked : (u : ℕ) (x : RunState) → AllFit x → (h : Hand) (e : Effect) (t : Act Txn) → (ready set (state_of x) u).hand ≡ Some h → h.phase ≡ Running → stage set.procs h.call.call h.seen ≡ Ends e → t.call.call ≡ h.call → t.effect ≡ e → Peeked u x t
  peeked u x f h e t is runs ended call effect =
      let (asks, front) = subst (PhaseFits set.procs (x.peeks u) h) runs (fits_hand set.procs (x.peeks u) (ready set (state_of x) u).hand h is (f u)).1 in
      let same : h.seen ≡ x.peeks u = front_ended set.procs h.call.call (x.peeks u) h.seen e asks front ended in
      record {
        hand = h;
        is = is;
        call = call;
        seen = same;
        ended = ap (stage set.procs h.call.call) (sym same) ∙ ended ∙ ap (λ (g : Effect). Ends g) (sym effect);
      }

  only_one : (t u : Act Txn) (new : List (Act Txn)) → new ≡ u ∷ [] → Member t new → t ≡ u
  only_one t u new e q = elim (subst (Member t) e q) [ inl same ↦ sym same | inr none ↦ absurd none ]

  no_one : (t : Act Txn) (new : List (Act Txn)) → new ≡ [] → Member t new → ⊥
  no_one t new e q = subst (Member t) e q

  joins_peeked : (e : Event) (w : ℕ) (x y : RunState) (new : List (Act Txn)) (t : Act Txn) → AllFit x → IsOwn w e → Leads set e (state_of x) (state_of y) new → Member t new → Peeked w x t
  joins_peeked (Lock u) w x y new t f own l q = absurd (no_one t new l.1 q)
  joins_peeked (Busy u) w x y new t f own l q = absurd (no_one t new l.1 q)
  joins_peeked (Quit u up) w x y new t f own l q = absurd (no_one t new l.1 q)
  joins_peeked (Commit u) w x y new t f own (a, r, is) q =
      subst (λ (k : ℕ). Peeked k x t) own (subst (Peeked u x) (sym (only_one t a new is q))
      (peeked u x f r.hand r.effect a r.is r.phase r.ended (ap (λ (b : Act Txn). b.call.call) r.act) (ap (λ (b : Act Txn). b.effect) r.act)))
  joins_peeked (Post u) w x y new t f own l q = absurd (no_one t new l.1 q)
  joins_peeked (Free u) w x y new t f own l q = absurd (no_one t new l.1 q)
  joins_peeked (FirstFree u) w x y new t f own (mid, a, r, frees, is) q =
      subst (λ (k : ℕ). Peeked k x t) own (subst (Peeked u x) (sym (only_one t a new is q))
      (peeked u x f r.hand r.effect a r.is r.phase r.ended (ap (λ (b : Act Txn). b.call.call) r.act) (ap (λ (b : Act Txn). b.effect) r.act)))
  joins_peeked (Done u) w x y new t f own l q = absurd (no_one t new l.1 q)
  joins_peeked (DoneReading u) w x y new t f own (mid, a, r, ends, is) q =
      subst (λ (k : ℕ). Peeked k x t) own (subst (Peeked u x) (sym (only_one t a new is q))
      (peeked u x f r.hand r.effect a r.is r.phase r.ended (ap (λ (b : Act Txn). b.call.call) r.act) (ap (λ (b : Act Txn). b.effect) r.act)))
  joins_peeked (Drop i v) w x y new t f own l q = absurd own
  joins_peeked (Gather j) w x y new t f own l q = absurd own
  joins_peeked (PlaceAnchor j v) w x y new t f own l q = absurd own
  joins_peeked (Persist j upto) w x y new t f own l q = absurd own
  joins_peeked (Ack u v) w x y new t f own l q = absurd own
  joins_peeked (Stop j upto) w x y new t f own l q = absurd own
  joins_peeked (Resume u) w x y new t f own l q = absurd own

pub peeked_law : CommitsWhatItPeeked
peeked_law set m n turns opening opens w rest x y s acts t q =
    let good = steps_good set m n (todos_of set m n turns) (todo.Word (turn.Worker w) ∷ rest) (still (begun opening)) x s (inl (todos_early set m n turns, start_fit set m n opening opens)) in
    elim good [
      | inl early ↦ let p = joins_peeked set m n acts.event w x y acts.goes.new t early.1 acts.own acts.goes.leads q in (p.hand, p.is, p.call, p.seen, p.ended)
      | inr late ↦ absurd late.0
    ]
