-- A call that only read joins the committed ones: by its first free, or by its end, where it holds no key.
use Rattle.std.proofs.Common.{◌≡◌, ◌≤◌, ℕ, false, List, [], ◌∷◌, ◌++◌, refl, sym, ap, ◌∙◌, subst, Option}
use Rattle.std.specs.Prelude.{Some, None, is_some}
use Rattle.tau_ack.specs.declared.Waiting.{Waiting}
use Rattle.tau_model.specs.declared.committed.Committed.{Committed}
use Rattle.tau_model.specs.History.{Act}
use Rattle.tau_machine.specs.Hands as theory
use Rattle.tau_machine.specs.Hands.{Hand, committed_of}
use Rattle.tau_machine.specs.State.{Core, Outbox, ticket}
use Rattle.tau_machine.specs.Worker.{Worker, begun, hand_freed, hand_joined}
use Rattle.tau_machine.specs.Events.{DoneReading, with_outbox, with_worker}
use Rattle.tau_shard.proofs.At.{at_same}
use Rattle.tau_machine.proofs.Commits.{begun_committed}
use Rattle.tau_machine.proofs.States.{again}
use Rattle.tau_txn.specs.declared.action.Action.TheVariants as action
use Rattle.tau_txn.specs.declared.action.ActionKind.TheVariants as kind
use Rattle.tau_txn.specs.Next as txn
use Rattle.tau_txn.specs.Next.{kind_of, next_action, next_of}
use Rattle.tau_proc.specs.declared.proc.Proc.{Proc}
use Rattle.tau_txn.specs.declared.standing.Standing.{Standing}
use Rattle.tau_txn.specs.declared.standing.Standing.TheVariants as standing
use Rattle.tau_txn.specs.Hand.{PlainHand}
use Rattle.tau_txn.specs.Read.{hand_of}
use Rattle.tau_txn.specs.Txn.{PlainTxn, hand_in, has_joined, number_by, number_in, shown, shown_of, worker_in, worker_of}
use Rattle.tau_core.specs.declared.state.Load.{Load}
use Rattle.tau_core.specs.State.{Plain}
use Rattle.tau_core.specs.View.{tickets}
use Rattle.tau_core.specs.Pieces.{IsPieceOf, Paired}
use Rattle.tau_rule.specs.Knows.{Knows}
use Rattle.tau_rule.specs.Rule.{anchors_at}
use Rattle.tau_rule.specs.Steps.{Sat, next_worker}
use Rattle.tau_rule.specs.Boxes.{BoxOf, StepsBox, with_box}
use Rattle.tau_desk.specs.Acts.{HasEndedReading, HasFirstFreed}
use Rattle.tau_desk.specs.Seats.{IsWorkerSeat}
use Rattle.tau_desk.specs.Shares.{FitsWork, PlainWork, own_worker}
use Rattle.tau_desk.specs.Works.{joined_worker, told_joined, told_read_only}
use Rattle.tau_desk.proofs.Committing.{seat_joined}
use Rattle.tau_desk.proofs.Finishing.{done_hand}
use Rattle.tau_desk.proofs.GoingOn.{begun_own, posts_placed, seat_shown, work_at}
use Rattle.tau_desk.proofs.Reading.{told_read_only_is}
use Rattle.tau_base.proofs.Logic.{not_both}
use Rattle.tau_base.proofs.Lists.{map_append}

-- the number of a call in hand is that of the act that it becomes
pub number_shown : (procs : List Proc) (t : PlainTxn) (hand : Hand) (act : Act theory.Txn) → hand_in procs t ≡ Some hand → txn.Reads procs t.worker hand act → number_in t ≡ Some act.call.call.number
number_shown procs t hand act e r = by_case t.hand e ∙ ap (λ (a : Act theory.Txn). Some a.call.call.number) (sym r.is)
  where
    at : (st : Standing) (x : PlainHand) → shown procs t.worker st x ≡ Some hand → x.number ≡ hand.call.number
    at standing.Running x f = (let g : hand_of procs t.worker x ≡ hand = cc in ap (λ (y : Hand). y.call.number) g)
    at standing.Quitting x f = (let g : hand_of procs t.worker x ≡ hand = cc in ap (λ (y : Hand). y.call.number) g)
    at standing.Placed x f = (let g : hand_of procs t.worker x ≡ hand = cc in ap (λ (y : Hand). y.call.number) g)
    at standing.Freeing x f = (let g : hand_of procs t.worker x ≡ hand = cc in ap (λ (y : Hand). y.call.number) g)
    at standing.LeftOver x f = cc

    by_case : (o : Option PlainHand) → shown_of procs t.worker o ≡ Some hand → number_by o ≡ Some hand.call.number
    by_case None f = cc
    by_case (Some x) f = ap Some (at x.standing x f)

-- for a call that ends, and has not joined the committed ones, there is room among them
pub ended_room : (l : Load) (w : ℕ) (o : PlainWork) → FitsWork l w o → kind_of (next_action o.txn) ≡ kind.Done → has_joined o.txn ≡ false → 1 ≤ o.committed_room
ended_room l w o f e unjoined = f.commits (done_hand o.txn e) unjoined

-- after its first free
pub seat_first : (origin : Plain) (m m' : Sat) (w : ℕ) (o : PlainWork) (t : PlainTxn) (kept : Committed) (cs : List Committed) (room : ℕ) (read : ℕ × List ℕ) (seen : List ℕ) → m.0.opened ≡ Some origin → IsWorkerSeat m w o read seen → m' ≡ (told_joined origin.load m.0 t kept, []) → cs ≡ o.committed ++ kept ∷ [] →
    HasFirstFreed origin.load.procs o.txn t kept → IsWorkerSeat m' w (record o { txn = t; committed = cs; committed_room = room; mark = None }) read seen
seat_first origin m m' w o t kept cs room read seen opened s knows is_more q =
    let h : Hand = q.frees.hand in
    let x : Hand = hand_freed (hand_joined h (theory.Freeing q.frees.act) h.dep) q.key in
    seat_joined origin m m' w o t o.start kept cs room read seen opened s knows is_more h x q.frees.is q.is refl refl q.worker
    (λ e. absurd (let p = posts_placed origin.load.procs t x q.is e in let bad : theory.Freeing q.frees.act ≡ theory.Placed p.0 = p.1 in cc))

-- the end of a call that only read and holds no key is an event: it joins the committed ones, and waits for its acknowledgement
pub reading_dones : (origin : Plain) (v : Knows) (w : ℕ) (wk : Worker) (t' : PlainTxn) (hand : Hand) (act : Act theory.Txn) (b b' : BoxOf) (number : ℕ) (lv : List ℕ) → (begun origin.load.streams wk).hand ≡ Some hand → txn.Reads origin.load.procs w hand act → hand.held ≡ [] → t'.hand ≡ None →
    b'.0.pieces ≡ b.0.pieces → b'.1.calls ≡ b.1.calls ++ record { number = number; lv = lv } ∷ [] → record { number = number; lv = lv } ≡ ticket act → StepsBox origin (DoneReading w) v w wk (joined_worker origin.load wk t' (committed_of act)) b b'
reading_dones origin v w wk t' hand act b b' number lv is r held gone pieces calls waits style c meets sees at_worker box =
    let n : ℕ = origin.load.streams in
    let kept : Committed = committed_of act in
    let hj : Hand = hand_joined hand (theory.Freeing act) hand.dep in
    let wkj : Worker = record (begun n (c.core.workers w)) { hand = Some hj; committed = (c.core.workers w).committed ++ kept ∷ [] } in
    let mid : Core = with_worker c.core w wkj in
    let ob : Outbox = record (c.core.outboxes w) { pending = (c.core.outboxes w).pending ++ ticket act ∷ [] } in
    let shows : next_worker origin.load wk t' ≡ record (begun n wk) { hand = None } = ap (worker_in origin.load.procs t'.worker (begun n wk)) gone in
    let worker : joined_worker origin.load wk t' kept ≡ record wkj { hand = None } =
    ap (λ (y : Worker). record y { committed = wk.committed ++ kept ∷ [] }) shows
    ∙ (λ i. record (begun n (sym at_worker i)) { hand = None; committed = (sym at_worker i).committed ++ kept ∷ [] }) in (
      ob,
      act ∷ [],
      (
        mid,
        act,
        record { hand = hand; effect = r.effect; is = ap (λ (x : Worker). (begun n x).hand) at_worker ∙ is; phase = r.phase; ended = r.ended; no_write = r.no_write; act = r.is; after = refl },
        record {
          hand = hj;
          act = act;
          is = ap (λ (x : Worker). x.hand) (at_same w wkj c.core.workers);
          phase = refl;
          held = held;
          after = (λ i. with_outbox (with_worker c.core w (worker i)) w ob)
              ∙ ap (λ (x : Core). with_outbox x w ob) (sym (again c.core w (record wkj { hand = None }) wkj))
              ∙ ap (λ (x : Worker). with_outbox (with_worker mid w (record x { hand = None })) w ob) (sym (at_same w wkj c.core.workers));
        },
        refl,
      ),
      record {
        posted = subst (λ ps. Paired (IsPieceOf origin.load (anchors_at c.core)) ps (c.core.outboxes w).posted) (sym pieces) box.posted;
        pending = (λ i. box.pending i ++ sym waits i ∷ []) ∙ sym (ap tickets calls ∙ map_append (λ (x : Waiting). record { number = x.number; lv = x.lv }) b.1.calls (record { number = number; lv = lv } ∷ []));
      },
      tt,
    )

-- and its seat after that
pub seat_read : (origin : Plain) (m m' : Sat) (w : ℕ) (o : PlainWork) (t : PlainTxn) (kept : Committed) (cs : List Committed) (spare : ℕ × ℕ) (room : ℕ) (read : ℕ × List ℕ) (seen : List ℕ) → m.0.opened ≡ Some origin → IsWorkerSeat m w o read seen → m' ≡ (told_read_only origin.load m.0 t kept spare, []) → cs ≡ o.committed ++ kept ∷ [] →
    HasEndedReading origin.load.procs o.txn t kept → IsWorkerSeat m' w (record o { txn = t; committed = cs; committed_room = room; spare = spare; mark = None }) read seen
seat_read origin m m' w o t kept cs spare room read seen opened s knows is_more q =
    let l : Load = origin.load in
    let work = work_at origin m w o read seen opened s in
    let f = work.fits in
    let wk : Worker = joined_worker l work.worker t kept in
    let gone : hand_in l.procs t ≡ None = ap (shown_of l.procs t.worker) q.gone in
    let none : is_some t.hand ≡ false = ap is_some q.gone in
    let no_post : next_action t ≡ action.Post → ⊥ = (λ e. let bad : action.Nothing ≡ action.Post = sym (ap next_of q.gone) ∙ e in cc) in
    let begun_is : begun l.streams work.worker ≡ own_worker l o = begun_own l work.worker o q.ends.hand q.ends.is work.shows in
    let committed_is : work.worker.committed ≡ o.committed = sym (begun_committed l.streams work.worker) ∙ ap (λ (y : Worker). y.committed) begun_is in
    let next_is : next_worker l work.worker t ≡ record (own_worker l o) { hand = None } =
    ap (λ (y : Worker). worker_of l.procs y t) begun_is ∙ ap (worker_in l.procs t.worker (own_worker l o)) q.gone in
    seat_shown origin m m' w o (record o { txn = t; committed = cs; committed_room = room; spare = spare; mark = None }) read seen opened s (with_box s.role wk spare) wk refl
    (knows ∙ ap (λ (v : Knows). (v, [])) (told_read_only_is l m.0 t kept spare w s.role work.worker s.seat.roles work.share))
    ((λ i. record (next_is i) { committed = committed_is i ++ kept ∷ [] }) ∙ (λ i. record (own_worker l o) { hand = sym gone i; committed = sym is_more i }))
    refl
    (record {
      worker = ap (λ (y : PlainTxn). y.worker) q.worker.same ∙ f.worker;
      width = ap (λ (y : PlainTxn). y.width) q.worker.same ∙ f.width;
      mode = ap (λ (y : PlainTxn). y.mode) q.worker.same ∙ f.mode;
      runs = q.worker.runs;
      stays = none ∙ sym (ap is_some gone);
      call = λ y g. absurd (let bad : None ≡ Some y = sym gone ∙ g in cc);
      low = f.low;
      high = f.high;
      again = f.again;
      mark = λ k e. absurd (let bad : None ≡ Some k = e in cc);
      left = f.left;
      leaves = λ g. absurd (not_both (is_some t.hand) none g);
      ends = λ g. absurd (not_both (is_some t.hand) none g);
      posts = λ g. absurd (no_post g);
      commits = λ g j. absurd (not_both (is_some t.hand) none g);
    })
    refl no_post
