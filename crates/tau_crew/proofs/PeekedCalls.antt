-- What an optimistic worker has peeked fits its call.
use Rattle.std.proofs.Common.{ℕ, ◌≡◌, true, false, Bool, inl, inr, List, [], ◌∷◌, ◌++◌, Option, refl, sym, ap, subst, ◌∙◌, append_assoc}
use Rattle.std.specs.Prelude.{Some, None, ◌==◌, ◌||◌}
use Rattle.std.specs.Map.{lookup}
use Rattle.std.proofs.lemmas.Bool.{cases_Bool}
use Rattle.std.proofs.lemmas.List.{append-nil}
use Rattle.tau_base.proofs.Keys.{same_key_itself}
use Rattle.tau_base.proofs.Logic.{some_is}
use Rattle.tau_base.specs.declared.value.Call.{Call}
use Rattle.tau_base.specs.Database.{same_key}
use Rattle.tau_base.specs.declared.limits.TheConstants.{MAX_TRIES}
use Rattle.tau_base.specs.declared.value.Key.{Key}
use Rattle.tau_base.specs.declared.value.Mode.{Mode}
use Rattle.tau_base.specs.declared.value.Mode.TheVariants.{Read, Write}
use Rattle.tau_base.specs.declared.value.Value.{Value}
use Rattle.tau_proc.specs.declared.proc.Proc.{Proc}
use Rattle.tau_machine.specs.Hands.{Hand, Running, Quitting}
use Rattle.tau_machine.specs.Stage.{Ends, Stage, Wants, stage}
use Rattle.tau_machine.specs.Worker.{Worker, hand_busy, hand_quit, lock_of, settled, settled_by, unlocked, write_want}
use Rattle.tau_txn.specs.Hand.{PlainHand}
use Rattle.tau_txn.specs.Steps.{locked_with}
use Rattle.tau_txn.specs.Txn.{PlainTxn, hand_in, leaves_in, shown_of, worker_of}
use Rattle.tau_txn.specs.declared.standing.Standing.{Standing}
use Rattle.tau_txn.specs.declared.standing.Standing.TheVariants as standing
use Rattle.tau_core.specs.State.{Plain}
use Rattle.tau_rule.specs.Steps.{resting}
use Rattle.tau_run.specs.Fits.{Asks, Fits, HandFits, IsFront, PhaseFits}
use Rattle.tau_run.proofs.Peeked.{asks_more, front_ended, wants_unseen}
use Rattle.tau_desk.specs.Shares.{PlainWork}
use Rattle.tau_desk.specs.Works.{Leaves, LeavesBy, leaves_of}
use Rattle.tau_desk.proofs.Locking.{worker_hand}
use Rattle.tau_crew.specs.PeekedCalls.{PeekedIsCommitted}

lookup_first : (p : Key → Bool) (xs : List (Key × Value)) (k : Key) (v : Value) (ys : List (Key × Value)) → lookup p xs ≡ None → p k ≡ true → lookup p (xs ++ (k, v) ∷ ys) ≡ Some v
lookup_first p [] k v ys none is = rw is refl
lookup_first p (x ∷ xs) k v ys none is = elim (cases_Bool (p x.0)) [
  | inl yes' ↦ let bad : Some x.1 ≡ None = rw yes' at none in cc
  | inr no' ↦ rw no' (lookup_first p xs k v ys (rw no' at none) is)
]

wants_same : (a b : List (Key × Value)) (x y : Key) → Wants a x ≡ Wants b y → x ≡ y
wants_same a b x y e = cc

module _ (procs : List Proc) where
  fits_hand : (ps : List (Key × Value)) (o : Option Hand) (h : Hand) → o ≡ Some h → Fits procs ps o → HandFits procs ps h
  fits_hand ps o h e f = subst (Fits procs ps) e f

  hand_fits : (ps : List (Key × Value)) (o : Option Hand) (h : Hand) → o ≡ Some h → HandFits procs ps h → Fits procs ps o
  hand_fits ps o h e f = subst (Fits procs ps) (sym e) f

  -- the call in hand after a lock, or one that left the hand, is that of the step
  same_hand : (o o' : PlainWork) → Leaves o o' → hand_in procs o'.txn ≡ hand_in procs o.txn
  same_hand o o' r = by_hand o.txn.hand refl r
    where
      same : o' ≡ o → hand_in procs o'.txn ≡ hand_in procs o.txn
      same f = ap (λ (x : PlainWork). hand_in procs x.txn) f

      by_standing : (st : Standing) (h : PlainHand) → h.standing ≡ st → o.txn.hand ≡ Some h → LeavesBy st h o o' → hand_in procs o'.txn ≡ hand_in procs o.txn
      by_standing standing.LeftOver h s is f =
          ap (hand_in procs) f.0 ∙ sym (ap (shown_of procs o.txn.worker) is ∙ ap (λ (x : Standing). Rattle.tau_txn.specs.Txn.shown procs o.txn.worker x h) s)
      by_standing standing.Running h s is f = same f
      by_standing standing.Quitting h s is f = same f
      by_standing standing.Placed h s is f = same f
      by_standing standing.Freeing h s is f = same f

      by_hand : (x : Option PlainHand) → o.txn.hand ≡ x → leaves_of x o o' → hand_in procs o'.txn ≡ hand_in procs o.txn
      by_hand None is f = same f
      by_hand (Some h) is f = by_standing h.standing h refl is f

  -- a key that is to be read is the one that the call wants
  key_of : Option (Key × Mode) → Option Key
  key_of None = None
  key_of (Some l) = Some l.0

  mode_in : Option (Key × Mode) → Option Mode
  mode_in None = None
  mode_in (Some l) = Some l.1

  reads_next : (held : List (Key × Mode)) (s : Stage) (key : Key) → lock_of s held ≡ Some (key, Read) → (reads : List (Key × Value)) × (s ≡ Wants reads key)
  unfolding key_of mode_in
  reads_next held (Wants rs x) key e = (rs, (let same : Some x ≡ Some key = ap key_of e in let it : x ≡ key = cc in ap (λ (y : Key). Wants rs y) it))
  reads_next held (Ends f) key e = absurd (by (unlocked f.writes held) e)
    where
      by : (o : Option Key) → write_want o ≡ Some (key, Read) → ⊥
      by None q = let bad : None ≡ Some Read = ap mode_in q in cc
      by (Some x) q = let bad : Some Write ≡ Some Read = ap mode_in q in cc

  -- where the call has asked for what was peeked, each key stands behind those that it has seen
  asks_at : (c : Call) (front mid : List (Key × Value)) (r : Key × Value) (back : List (Key × Value)) → Asks procs c front (mid ++ r ∷ back) → (reads : List (Key × Value)) × (stage procs c (front ++ mid) ≡ Wants reads r.0)
  asks_at c front [] r back a = (a.0.0, subst (λ (l : List (Key × Value)). stage procs c l ≡ Wants a.0.0 r.0) (sym (append-nil front)) a.0.1)
  asks_at c front (x ∷ mid) r back a =
      let there = asks_at c (front ++ x ∷ []) mid r back a.1 in (there.0, subst (λ (l : List (Key × Value)). stage procs c l ≡ Wants there.0 r.0) (append_assoc front (x ∷ []) mid) there.1)

  -- a key that is read with the value that was peeked is the next one that was
  front_more : (c : Call) (seen back reads : List (Key × Value)) (k : Key) (row : Value) → Asks procs c [] (seen ++ back) → stage procs c seen ≡ Wants reads k → lookup (same_key k) (seen ++ back) ≡ Some row → IsFront (seen ++ (k, row) ∷ []) (seen ++ back)
  front_more c seen [] reads k row asks wants found =
      absurd (let bad : None ≡ Some row = sym (wants_unseen procs c seen reads k wants) ∙ ap (lookup (same_key k)) (sym (append-nil seen)) ∙ found in cc bad)
  front_more c seen (r ∷ back) reads k row asks wants found =
      let there = asks_at c [] seen r back asks in
      let same : k ≡ r.0 = wants_same reads there.0 k r.0 (sym wants ∙ there.1) in
      let none : lookup (same_key r.0) seen ≡ None = wants_unseen procs c seen there.0 r.0 there.1 in
      let first : lookup (same_key r.0) (seen ++ r ∷ back) ≡ Some r.1 = lookup_first (same_key r.0) seen r.0 r.1 back none (same_key_itself r.0) in
      let value : row ≡ r.1 = some_is row r.1 (sym found ∙ ap (λ (y : Key). lookup (same_key y) (seen ++ r ∷ back)) same ∙ first) in
      (back, sym (append_assoc seen (r ∷ []) back) ∙ ap (λ (x : Key × Value). (seen ++ x ∷ []) ++ back) (λ i. (sym same i, sym value i)))

  locked_fits : (ps : List (Key × Value)) (h : Hand) (key : Key) (mode : Mode) (row : Value) (dep : List ℕ) → HandFits procs ps h → h.phase ≡ Running → lock_of (stage procs h.call.call h.seen) h.held ≡ Some (key, mode) →
      (mode ≡ Read → lookup (same_key key) ps ≡ Some row) → HandFits procs ps (locked_with h key mode row dep)
  locked_fits ps h key Read row dep f runs next found =
      let running = subst (PhaseFits procs ps h) runs f.1 in
      let wanted = reads_next h.held (stage procs h.call.call h.seen) key next in (
        f.0,
        subst (PhaseFits procs ps (locked_with h key Read row dep)) (sym runs) (
          running.0,
          subst (IsFront (h.seen ++ (key, row) ∷ [])) (sym running.1.1)
              (front_more h.call.call h.seen running.1.0 wanted.0 key row (subst (Asks procs h.call.call []) running.1.1 running.0) wanted.1 (subst (λ (l : List (Key × Value)). lookup (same_key key) l ≡ Some row) running.1.1 (found refl))),
        ),
      )
  locked_fits ps h key Write row dep f runs next found =
      (f.0, subst (PhaseFits procs ps (locked_with h key Write row dep)) (sym runs) (subst (PhaseFits procs ps h) runs f.1))

  -- a call that quits, and is not given up, has nothing peeked of its next try
  settled_fits : (width : ℕ) (h : Hand) (held : List (Key × Mode)) (up last : Bool) → h.given_up ≡ false → h.phase ≡ Quitting → up ≡ false → Fits procs [] (settled_by width resting h held up last).hand
  settled_fits width h (k ∷ ks) up last steady quits kept = (steady, subst (PhaseFits procs [] h) (sym quits) refl)
  settled_fits width h [] true last steady quits kept = tt
  settled_fits width h [] false true steady quits kept = tt
  settled_fits width h [] false false steady quits kept = (refl, (tt, ([], refl)))

  ends_try : (width : ℕ) (t' : PlainTxn) (h : Hand) → h.given_up ≡ false → h.phase ≡ Quitting → ((wk : Worker) → worker_of procs wk t' ≡ settled width wk h) → Fits procs [] (hand_in procs t')
  ends_try width t' h steady quits settles =
      subst (Fits procs []) (sym (ap (λ (x : Worker). x.hand) (settles resting)) ∙ worker_hand procs resting t') (settled_fits width h h.held h.given_up (h.tries == MAX_TRIES) steady quits steady)

not_up : (a b : Bool) → a ≡ false → b ≡ false → (a || b) ≡ false
not_up true b e f = (let bad : true ≡ false = e in cc)
not_up false b e f = f

pub peeked_law : (origin : Plain) → PeekedIsCommitted origin
peeked_law origin = record {
  begins = λ s s' g. hand_fits procs [] _ _ g.begun (refl, (tt, ([], refl)));
  peeks = λ seen reads s h key value is runs wants f.
      (let all = fits_hand procs seen _ h is f in
      let running = subst (PhaseFits procs seen h) runs all.1 in
      hand_fits procs (seen ++ (key, value) ∷ []) _ h is (
        all.0,
        subst (PhaseFits procs (seen ++ (key, value) ∷ []) h) (sym runs) (
          asks_more procs h.call.call seen reads key value running.0 wants,
          (running.1.0 ++ (key, value) ∷ [], ap (λ (l : List (Key × Value)). l ++ (key, value) ∷ []) running.1.1 ∙ append_assoc h.seen running.1.0 ((key, value) ∷ [])),
        ),
      ));
  locks = λ seen s s' q f.
      (let w = q.1.wanted in
      subst (Fits procs seen) (sym (same_hand procs (record s.work { txn = q.0; mark = None }) s'.work q.3.leaves ∙ q.1.is))
      (locked_fits procs seen w.hand q.1.key q.1.mode q.1.row q.1.dep (fits_hand procs seen _ w.hand w.is f) w.phase w.next q.2.read));
  busy = λ seen s s' q f.
      (let w = q.1.wanted in
      subst (Fits procs []) (sym (same_hand procs (record s.work { txn = q.0; mark = None }) s'.work q.3.leaves))
      (ends_try procs s.work.txn.width q.0 (hand_busy w.hand) (fits_hand procs seen _ w.hand w.is f).0 refl q.1.settles));
  quits = λ s s' stays q f.
      (let w = q.1.quits in
      subst (Fits procs []) (sym (same_hand procs (record s.work { txn = q.0; mark = None }) s'.work q.2.leaves))
      (ends_try procs s.work.txn.width q.0 (hand_quit w.hand q.1.key (leaves_in s.work.txn)) (not_up w.hand.given_up (leaves_in s.work.txn) (fits_hand procs [] _ w.hand w.is f).0 stays) refl q.1.settles));
  commits = λ seen s h e is runs ends f.
      (let running = subst (PhaseFits procs seen h) runs (fits_hand procs seen _ h is f).1 in
      let same : h.seen ≡ seen = front_ended procs h.call.call seen h.seen e running.0 running.1 ends in
      (same, ap (λ (l : List (Key × Value)). stage procs h.call.call l) (sym same) ∙ ends));
}
  where
    procs : List Proc
    procs = origin.load.procs
