-- A call that is to quit settles, and where it is left over it goes to the others that are.
use Rattle.std.proofs.Common.{ℕ, ◌≡◌, Bool, true, false, List, [], ◌∷◌, ◌++◌, refl, sym, ap, subst, ◌∙◌, Option, append_assoc}
use Rattle.std.specs.Prelude.{Some, None, is_some, ◌==◌}
use Rattle.std.proofs.lemmas.List.{append-nil}
use Rattle.tau_base.specs.declared.limits.TheConstants.{MAX_TRIES}
use Rattle.tau_base.specs.declared.value.Key.{Key}
use Rattle.tau_base.specs.declared.value.Call.{Call}
use Rattle.tau_base.specs.declared.value.Mode.{Mode}
use Rattle.tau_model.specs.History.{Act, Numbered}
use Rattle.tau_model.specs.declared.committed.Committed.{Committed}
use Rattle.tau_machine.specs.Hands.{Txn, Hand, Quitting}
use Rattle.tau_machine.specs.Pieces.{placed_in, placed_of}
use Rattle.tau_machine.specs.Worker.{Worker, settled, settled_by, fresh}
use Rattle.tau_txn.specs.declared.standing.Standing.{Standing}
use Rattle.tau_txn.specs.declared.standing.Standing.TheVariants as standing
use Rattle.tau_txn.specs.Hand.{PlainHand}
use Rattle.tau_txn.specs.Read.{hand_of}
use Rattle.tau_txn.specs.Txn.{PlainTxn, worker_in, worker_of, shown, shown_of, hand_in, RunsBy, leaves_in}
use Rattle.tau_txn.specs.Steps.{worker_by}
use Rattle.tau_core.specs.declared.state.Load.{Load}
use Rattle.tau_core.specs.Plain.{PlainSeat}
use Rattle.tau_core.specs.View.{worker_of as number_worker, call_of, numbered, numbered_by, all_numbered, seat_worker}
use Rattle.tau_core.specs.Stands.{IsNumber, AreNumbers, SoundSeat}
use Rattle.tau_core.specs.Workers.{Keeps}
use Rattle.tau_core.specs.Locks.{LeavesBy, leaves_of, Leaves}
use Rattle.tau_core.proofs.Hands.{some_hand}

-- what a settled worker has in hand is the same call, not placed
pub settled_hand : (width : ℕ) (wk : Worker) (k x : Hand) → k.phase ≡ Quitting → (settled width wk k).hand ≡ Some x → (x.call ≡ k.call) × (placed_of x.phase ≡ None)
settled_hand width wk k x phase e = by_case k.held k.given_up (k.tries == MAX_TRIES) e
  where
    by_case : (l : List (Key × Mode)) (up last : Bool) → (settled_by width wk k l up last).hand ≡ Some x → (x.call ≡ k.call) × (placed_of x.phase ≡ None)
    by_case (a ∷ l) up last f =
        let same : k ≡ x = cc in
        (ap (λ (h : Hand). h.call) (sym same), ap (λ (h : Hand). placed_of h.phase) (sym same) ∙ ap placed_of phase)
    by_case [] true last f = cc
    by_case [] false true f = cc
    by_case [] false false f =
        let same : fresh width k.call k.tries ≡ x = cc in
        (ap (λ (h : Hand). h.call) (sym same), ap (λ (h : Hand). placed_of h.phase) (sym same))

-- and who is left over is that call
pub settled_left : (width : ℕ) (wk : Worker) (k : Hand) (c : Numbered) → (settled width wk k).left ≡ wk.left ++ c ∷ [] → wk.left ≡ [] → c ≡ k.call
settled_left width wk k c e none = by_case k.held k.given_up (k.tries == MAX_TRIES) e
  where
    nothing : (l : List Numbered) → l ≡ [] → l ≡ l ++ c ∷ [] → ⊥
    nothing [] n f = cc
    nothing (x ∷ l) n f = cc

    last_one : (l : List Numbered) (d : Numbered) → l ≡ [] → l ++ d ∷ [] ≡ l ++ c ∷ [] → c ≡ d
    last_one [] d n f = cc
    last_one (x ∷ l) d n f = absurd (let bad : x ∷ l ≡ [] = n in cc)

    by_case : (l : List (Key × Mode)) (up last : Bool) → (settled_by width wk k l up last).left ≡ wk.left ++ c ∷ [] → c ≡ k.call
    by_case (a ∷ l) up last f = absurd (nothing wk.left none f)
    by_case [] true last f = absurd (nothing wk.left none f)
    by_case [] false true f = last_one wk.left k.call none f
    by_case [] false false f = absurd (nothing wk.left none f)

pub numbered_append : (calls : List Call) (xs : List ℕ) (n : ℕ) → all_numbered calls (xs ++ n ∷ []) ≡ all_numbered calls xs ++ numbered calls n
numbered_append calls [] n = append-nil (numbered calls n)
numbered_append calls (x ∷ xs) n = ap (λ l. numbered calls x ++ l) (numbered_append calls xs n) ∙ sym (append_assoc (numbered calls x) (all_numbered calls xs) (numbered calls n))

numbers_append : (l : Load) (xs : List ℕ) (n : ℕ) → AreNumbers l xs → IsNumber l n → AreNumbers l (xs ++ n ∷ [])
numbers_append l [] n q is = (is, tt)
numbers_append l (x ∷ xs) n q is = (q.0, numbers_append l xs n q.1 is)

pub numbered_is : (calls : List Call) (n : ℕ) (c : Call) → call_of calls n ≡ Some c → numbered calls n ≡ record { number = n; call = c } ∷ []
numbered_is calls n c e = ap (numbered_by n) e

pub record Settles (l : Load) (w : ℕ) (seat new : PlainSeat) (k : Hand) : Type 0 where
  pub worker : (c : List Committed) → seat_worker l new c ≡ settled l.streams (seat_worker l seat c) k
  pub keeps : Keeps seat new
  pub sound : SoundSeat l w new

module _ (l : Load) (w : ℕ) (seat new : PlainSeat) (h k : Hand) (txn : PlainTxn) (o : SoundSeat l w seat) (is : hand_in l.procs seat.txn ≡ Some h)
    (call : k.call ≡ h.call) (phase : k.phase ≡ Quitting) (same : txn ≡ record seat.txn { hand = txn.hand })
    (settles : (wk : Worker) → worker_of l.procs wk txn ≡ settled l.streams wk k) (runs : RunsBy l.procs txn) (leaving_none : leaves_in txn ≡ false) where
  had : is_some seat.txn.hand ≡ true
  had = some_hand l.procs seat.txn h is

  abbrev mid : PlainSeat
  mid = record seat { txn = txn }

  number_is : call_of l.calls k.call.number ≡ Some k.call.call
  number_is = subst (λ (n : Numbered). call_of l.calls n.number ≡ Some n.call) (sym call) (o.txn.call h is)

  -- the call stays in hand, or is let go
  stay : ((wk : Worker) → worker_of l.procs wk txn ≡ record wk { hand = hand_in l.procs txn }) → is_some txn.hand ≡ is_some (hand_in l.procs txn) → Settles l w seat mid k
  stay shape some = record {
    worker = λ c. sym (shape (seat_worker l seat c)) ∙ settles (seat_worker l seat c);
    keeps = record { next = refl; again = refl; outbox = refl; pending = refl };
    sound = record {
      txn = record {
        worker = ap (λ (t : PlainTxn). t.worker) same ∙ o.txn.worker;
        width = ap (λ (t : PlainTxn). t.width) same ∙ o.txn.width;
        mode = ap (λ (t : PlainTxn). t.mode) same ∙ o.txn.mode;
        runs = runs;
        stays = some;
        leaving = leaving_none;
        call = λ x e.
            let f = settled_hand l.streams (seat_worker l seat []) k x phase (ap (λ (y : Worker). y.hand) (sym (settles (seat_worker l seat [])) ∙ shape (seat_worker l seat [])) ∙ e) in
            subst (λ (n : Numbered). call_of l.calls n.number ≡ Some n.call) (sym f.0) number_is;
        whose = λ x e.
            let f = settled_hand l.streams (seat_worker l seat []) k x phase (ap (λ (y : Worker). y.hand) (sym (settles (seat_worker l seat [])) ∙ shape (seat_worker l seat [])) ∙ e) in
            ap (λ (n : Numbered). number_worker l.workers n.number) (f.0 ∙ call) ∙ o.txn.whose h is;
      };
      store = record {
        ends = λ e. o.store.ends had;
        leaves = λ e. o.store.leaves had;
        posts = λ t e. absurd (none_placed (hand_in l.procs txn) refl t e);
        low = o.store.low;
        high = o.store.high;
        again = o.store.again;
        left = o.store.left;
      };
    };
  }
    where
      none_placed : (x : Option Hand) → hand_in l.procs txn ≡ x → (t : Act Txn) → placed_in x ≡ Some t → ⊥
      none_placed None e t f = cc
      none_placed (Some x) e t f =
          let g = settled_hand l.streams (seat_worker l seat []) k x phase (ap (λ (y : Worker). y.hand) (sym (settles (seat_worker l seat [])) ∙ shape (seat_worker l seat [])) ∙ e) in
          let bad : None ≡ Some t = sym g.1 ∙ f in cc

  shape_of : (x : PlainHand) (st : Standing) → txn.hand ≡ Some x → x.standing ≡ st → ((wk : Worker) → worker_by l.procs txn.worker wk st x ≡ record wk { hand = shown l.procs txn.worker st x }) → (wk : Worker) →
      worker_of l.procs wk txn ≡ record wk { hand = hand_in l.procs txn }
  shape_of x st e s by wk =
      ap (λ (y : Option PlainHand). worker_in l.procs txn.worker wk y) e ∙ ap (λ (t : Standing). worker_by l.procs txn.worker wk t x) s ∙ by wk
      ∙ ap (λ (y : Option Hand). record wk { hand = y }) (sym (ap (shown_of l.procs txn.worker) e ∙ ap (λ (t : Standing). shown l.procs txn.worker t x) s))

  some_of : (x : PlainHand) (st : Standing) (y : Hand) → txn.hand ≡ Some x → x.standing ≡ st → shown l.procs txn.worker st x ≡ Some y → is_some txn.hand ≡ is_some (hand_in l.procs txn)
  some_of x st y e s f = ap is_some e ∙ sym (ap is_some (ap (shown_of l.procs txn.worker) e ∙ ap (λ (t : Standing). shown l.procs txn.worker t x) s ∙ f))

  -- the call is left over
  go : (x : PlainHand) → txn.hand ≡ Some x → x.standing ≡ standing.LeftOver → LeavesBy standing.LeftOver x mid new → Settles l w seat new k
  go x e s r =
      let this : Numbered = record { number = x.number; call = x.call } in
      let shape : (wk : Worker) → worker_of l.procs wk txn ≡ record wk { hand = None; left = wk.left ++ this ∷ [] } =
      (λ (wk : Worker). ap (λ (y : Option PlainHand). worker_in l.procs txn.worker wk y) e ∙ ap (λ (t : Standing). worker_by l.procs txn.worker wk t x) s) in
      let empty : Worker = record { waiting = []; hand = None; left = []; committed = [] } in
      let this_is : this ≡ k.call = settled_left l.streams empty k this (ap (λ (y : Worker). y.left) (sym (settles empty) ∙ shape empty)) refl in
      let has : call_of l.calls x.number ≡ Some x.call = subst (λ (n : Numbered). call_of l.calls n.number ≡ Some n.call) (sym this_is) number_is in
      let gone : hand_in l.procs new.txn ≡ None = ap (hand_in l.procs) r.0 in
      record {
        worker = λ c.
            ap (λ (y : PlainSeat). seat_worker l y c) r.2
            ∙ (λ i. record (seat_worker l seat c) { hand = gone i; left = (ap (all_numbered l.calls) r.1 ∙ numbered_append l.calls seat.left x.number ∙ ap (λ (z : List Numbered). all_numbered l.calls seat.left ++ z) (numbered_is l.calls x.number x.call has)) i })
            ∙ sym (shape (seat_worker l seat c)) ∙ settles (seat_worker l seat c);
        keeps = record {
          next = ap (λ (y : PlainSeat). y.next) r.2;
          again = ap (λ (y : PlainSeat). y.again) r.2;
          outbox = ap (λ (y : PlainSeat). y.outbox) r.2;
          pending = ap (λ (y : PlainSeat). y.pending) r.2;
        };
        sound = subst (λ (y : PlainSeat). SoundSeat l w y) (sym r.2) (record {
          txn = record {
            worker = ap (λ (t : PlainTxn). t.worker) r.0 ∙ ap (λ (t : PlainTxn). t.worker) same ∙ o.txn.worker;
            width = ap (λ (t : PlainTxn). t.width) r.0 ∙ ap (λ (t : PlainTxn). t.width) same ∙ o.txn.width;
            mode = ap (λ (t : PlainTxn). t.mode) r.0 ∙ ap (λ (t : PlainTxn). t.mode) same ∙ o.txn.mode;
            runs = subst (λ (t : PlainTxn). RunsBy l.procs t) (sym r.0) tt;
            stays = ap (λ (t : PlainTxn). is_some t.hand) r.0 ∙ sym (ap is_some gone);
            leaving = ap leaves_in r.0;
            call = λ y f. absurd (let bad : None ≡ Some y = sym gone ∙ f in cc);
            whose = λ y f. absurd (let bad : None ≡ Some y = sym gone ∙ f in cc);
          };
          store = record {
            ends = λ f. absurd (let bad : false ≡ true = sym (ap (λ (t : PlainTxn). is_some t.hand) r.0) ∙ f in cc);
            leaves = λ f. absurd (let bad : false ≡ true = sym (ap (λ (t : PlainTxn). is_some t.hand) r.0) ∙ f in cc);
            posts = λ t f. absurd (let bad : None ≡ Some t = sym (ap placed_in gone) ∙ f in cc);
            low = o.store.low;
            high = o.store.high;
            again = o.store.again;
            left = subst (λ (z : List ℕ). AreNumbers l z) (sym r.1) (numbers_append l seat.left x.number o.store.left (x.call, has));
          };
        });
      }

  pub leaving : Leaves mid new → Settles l w seat new k
  leaving q = by_hand txn.hand refl q
    where
      moved : new ≡ mid → Settles l w seat mid k → Settles l w seat new k
      moved r t = subst (λ (x : PlainSeat). Settles l w seat x k) (sym r) t

      by_standing : (st : Standing) (x : PlainHand) → txn.hand ≡ Some x → x.standing ≡ st → LeavesBy st x mid new → Settles l w seat new k
      by_standing standing.LeftOver x e s r = go x e s r
      by_standing standing.Running x e s r = moved r (stay (shape_of x standing.Running e s (λ wk. refl)) (some_of x standing.Running (hand_of l.procs txn.worker x) e s refl))
      by_standing standing.Quitting x e s r = moved r (stay (shape_of x standing.Quitting e s (λ wk. refl)) (some_of x standing.Quitting (hand_of l.procs txn.worker x) e s refl))
      by_standing standing.Placed x e s r = moved r (stay (shape_of x standing.Placed e s (λ wk. refl)) (some_of x standing.Placed (hand_of l.procs txn.worker x) e s refl))
      by_standing standing.Freeing x e s r = moved r (stay (shape_of x standing.Freeing e s (λ wk. refl)) (some_of x standing.Freeing (hand_of l.procs txn.worker x) e s refl))

      by_hand : (y : Option PlainHand) → txn.hand ≡ y → leaves_of y mid new → Settles l w seat new k
      by_hand None e r = moved r (stay
          (λ wk. ap (λ (y : Option PlainHand). worker_in l.procs txn.worker wk y) e ∙ ap (λ (y : Option Hand). record wk { hand = y }) (sym (ap (shown_of l.procs txn.worker) e)))
          (ap is_some e ∙ sym (ap is_some (ap (shown_of l.procs txn.worker) e))))
      by_hand (Some x) e r = by_standing x.standing x e refl r
