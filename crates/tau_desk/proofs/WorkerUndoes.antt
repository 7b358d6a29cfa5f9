-- A call that was begun and has made no event goes back.
use Rattle.std.proofs.Common.{◌≡◌, ◌≤◌, arith, length, ℕ, true, false, List, [], ◌∷◌, refl, sym, ap, subst, ◌∙◌, Option}
use Rattle.std.specs.Prelude.{Some, None, is_some}
use Rattle.tau_proc.specs.declared.proc.Proc.{Proc}
use Rattle.tau_model.specs.History.{Numbered}
use Rattle.tau_machine.specs.Hands.{Hand}
use Rattle.tau_machine.specs.Worker.{Worker, begun, begun_by, fresh}
use Rattle.tau_txn.specs.declared.action.Action.TheVariants as action
use Rattle.tau_txn.specs.declared.standing.Standing.{Standing}
use Rattle.tau_txn.specs.declared.standing.Standing.TheVariants as standing
use Rattle.tau_txn.specs.Hand.{PlainHand}
use Rattle.tau_txn.specs.Read.{hand_of}
use Rattle.tau_txn.specs.Txn.{PlainTxn, hand_in, has_joined, held_by, held_in, joined_of, shown, shown_of}
use Rattle.tau_core.specs.declared.state.Load.{Load}
use Rattle.tau_core.proofs.Hands.{some_hand}
use Rattle.tau_txn.specs.Next.{next_action}
use Rattle.tau_rule.specs.Steps.{Sat}
use Rattle.tau_desk.specs.declared.mark.Mark.{Mark}
use Rattle.tau_desk.specs.Seats.{IsWorkerSeat}
use Rattle.tau_desk.specs.Shares.{FitsWork, PlainWork, ShowsWorker, own_worker}
use Rattle.tau_desk.specs.Works.{GivesUp, undone}
use Rattle.tau_desk.proofs.GoingOn.{hand_there, joined_is, joined_at, posts_placed}

-- the keys that are shown are those of the core's hand
pub shown_held : (procs : List Proc) (t : PlainTxn) (h : Hand) → hand_in procs t ≡ Some h → held_in t ≡ h.held
shown_held procs t h e = by_case t.hand e
  where
    at : (st : Standing) (x : PlainHand) → shown procs t.worker st x ≡ Some h → x.held ≡ h.held
    at standing.Running x f = (let g : hand_of procs t.worker x ≡ h = cc in ap (λ (y : Hand). y.held) g)
    at standing.Quitting x f = (let g : hand_of procs t.worker x ≡ h = cc in ap (λ (y : Hand). y.held) g)
    at standing.Placed x f = (let g : hand_of procs t.worker x ≡ h = cc in ap (λ (y : Hand). y.held) g)
    at standing.Freeing x f = (let g : hand_of procs t.worker x ≡ h = cc in ap (λ (y : Hand). y.held) g)
    at standing.LeftOver x f = cc

    by_case : (o : Option PlainHand) → shown_of procs t.worker o ≡ Some h → held_by o ≡ h.held
    by_case None f = cc
    by_case (Some x) f = at x.standing x f

-- a call that has made no event holds no key, and has not joined the committed ones
pub marked : (l : Load) (w : ℕ) (wk : Worker) (o : PlainWork) (k : Mark) → FitsWork l w o → ShowsWorker l wk o (Some k) → (held_in o.txn ≡ []) × (has_joined o.txn ≡ false)
marked l w wk o k f s = by_case wk.waiting refl
  where
    rests : wk.hand ≡ None
    rests = ap (λ (x : Worker). x.hand) s.0

    shows : (begun l.streams wk).hand ≡ hand_in l.procs o.txn
    shows = ap (λ (x : Worker). x.hand) s.1

    none : (h : Option PlainHand) → is_some h ≡ false → (held_by h ≡ []) × (joined_of h ≡ false)
    none None e = (refl, refl)
    none (Some x) e = absurd (let bad : true ≡ false = e in cc)

    by_case : (cs : List Numbered) → wk.waiting ≡ cs → (held_in o.txn ≡ []) × (has_joined o.txn ≡ false)
    by_case [] e =
        let gone : None ≡ hand_in l.procs o.txn = sym rests ∙ (λ i. (begun_by l.streams wk (sym rests i) (sym e i)).hand) ∙ shows in
        none o.txn.hand (f.stays ∙ sym (ap is_some gone))
    by_case (c ∷ cs) e =
        let there : hand_in l.procs o.txn ≡ Some (fresh l.streams c 0) = sym shows ∙ (λ i. (begun_by l.streams wk (rests i) (e i)).hand) in
        (shown_held l.procs o.txn (fresh l.streams c 0) there, joined_is l.procs o.txn (fresh l.streams c 0) there)

pub seat_undone : (m : Sat) (w : ℕ) (o : PlainWork) (read : ℕ × List ℕ) (seen : List ℕ) → IsWorkerSeat m w o read seen → IsWorkerSeat m w (undone o o.mark) read seen
seat_undone m w o read seen s = by_mark o.mark refl s.work.shows
  where
    f : FitsWork s.origin.load w o
    f = s.work.fits

    by_mark : (k : Option Mark) → o.mark ≡ k → ShowsWorker s.origin.load s.work.worker o k → IsWorkerSeat m w (undone o k) read seen
    by_mark None e shows = s
    by_mark (Some k) e shows =
        let was = f.mark k e in
        record {
          origin = s.origin;
          role = s.role;
          seat = s.seat;
          work = record {
            worker = s.work.worker;
            share = s.work.share;
            there = s.work.there;
            shows = shows.0;
            fits = record {
              worker = f.worker;
              width = f.width;
              mode = f.mode;
              runs = tt;
              stays = refl;
              call = λ h g. absurd (let bad : None ≡ Some h = g in cc);
              low = was.low;
              high = was.high;
              again = was.again;
              mark = λ n g. absurd (let bad : None ≡ Some n = g in cc);
              left = f.left;
              leaves = λ g. absurd (let bad : false ≡ true = g in cc);
              ends = λ g. absurd (let bad : false ≡ true = g in cc);
              posts = λ g. absurd (let bad : action.Nothing ≡ action.Post = g in cc);
              commits = λ g j. absurd (let bad : false ≡ true = g in cc);
            };
            spare = s.work.spare;
          };
          read_is = s.read_is;
          read_wide = s.read_wide;
          seen_is = s.seen_is;
          seen_wide = s.seen_wide;
          posts = λ g. absurd (let bad : action.Nothing ≡ action.Post = g in cc);
        }

-- the call in hand only gives its keys back
pub seat_given_up : (m : Sat) (w : ℕ) (o : PlainWork) (t : PlainTxn) (read : ℕ × List ℕ) (seen : List ℕ) → IsWorkerSeat m w o read seen → has_joined o.txn ≡ false → GivesUp o.txn t → IsWorkerSeat m w (record o { txn = t }) read seen
seat_given_up m w o t read seen s unjoined q = by_mark o.mark refl s.work.shows
  where
    l : Load
    l = s.origin.load

    f : FitsWork l w o
    f = s.work.fits

    held_some : (h : Option PlainHand) → 1 ≤ length (held_by h) → is_some h ≡ true
    held_some None e = absurd (omega (arith, e))
    held_some (Some x) e = refl

    had : is_some o.txn.hand ≡ true
    had = held_some o.txn.hand q.held

    there : (h : Hand) × (hand_in l.procs o.txn ≡ Some h)
    there = hand_there l w o f had

    shown_is : hand_in l.procs t ≡ hand_in l.procs o.txn
    shown_is = q.shown l.procs

    no_post : next_action t ≡ action.Post → ⊥
    no_post e =
        let p = posts_placed l.procs t there.0 (shown_is ∙ there.1) e in
        let bad : false ≡ true = sym unjoined ∙ joined_is l.procs o.txn there.0 there.1 ∙ ap joined_at p.1 in cc

    fits : FitsWork l w (record o { txn = t })
    fits = record {
      worker = ap (λ (y : PlainTxn). y.worker) q.same ∙ f.worker;
      width = ap (λ (y : PlainTxn). y.width) q.same ∙ f.width;
      mode = ap (λ (y : PlainTxn). y.mode) q.same ∙ f.mode;
      runs = q.runs l.procs f.runs;
      stays = some_hand l.procs t there.0 (shown_is ∙ there.1) ∙ sym (ap is_some (shown_is ∙ there.1));
      call = λ h e. f.call h (sym shown_is ∙ e);
      low = f.low;
      high = f.high;
      again = f.again;
      mark = f.mark;
      left = f.left;
      leaves = λ e. f.leaves had;
      ends = λ e. f.ends had;
      posts = λ e. absurd (no_post e);
      commits = λ e g. f.commits had unjoined;
    }

    seat_with : ShowsWorker l s.work.worker (record o { txn = t }) o.mark → IsWorkerSeat m w (record o { txn = t }) read seen
    seat_with shows = record {
      origin = s.origin;
      role = s.role;
      seat = s.seat;
      work = record { worker = s.work.worker; share = s.work.share; there = s.work.there; shows = shows; fits = fits; spare = s.work.spare };
      read_is = s.read_is;
      read_wide = s.read_wide;
      seen_is = s.seen_is;
      seen_wide = s.seen_wide;
      posts = λ e. absurd (no_post e);
    }

    own : own_worker l o ≡ own_worker l (record o { txn = t })
    own = λ i. record (own_worker l o) { hand = sym shown_is i }

    by_mark : (k : Option Mark) → o.mark ≡ k → ShowsWorker l s.work.worker o k → IsWorkerSeat m w (record o { txn = t }) read seen
    by_mark None e shows = seat_with (subst (λ (k : Option Mark). ShowsWorker l s.work.worker (record o { txn = t }) k) (sym e) (shows ∙ own))
    by_mark (Some k) e shows = seat_with (subst (λ (n : Option Mark). ShowsWorker l s.work.worker (record o { txn = t }) n) (sym e) (shows.0, shows.1 ∙ own))
