-- The record of a call gets its place, by which the call joins the committed ones: what the place owes, and what the seat knows then.
use Rattle.std.proofs.Common.{◌≡◌, ℕ, ◌+◌, ◌%◌, ◌≤◌, ◌<◌, ◌^◌, Bool, true, false, inr, List, [], ◌∷◌, ◌++◌, length, refl, sym, ap, ◌∙◌, subst, Option, arith}
use Rattle.std.specs.Prelude.{Some, None, is_some}
use Rattle.tau_base.specs.Vectors.{join}
use Rattle.tau_base.specs.declared.limits.TheConstants.{MAX_LSN}
use Rattle.tau_base.specs.Modes.{format_of, most_streams}
use Rattle.tau_base.specs.declared.value.LogMode.{LogMode}
use Rattle.tau_proc.specs.declared.proc.Proc.{Proc}
use Rattle.tau_record.specs.Record.{base_of, Spells}
use Rattle.tau_model.specs.declared.committed.Committed.{Committed}
use Rattle.tau_model.specs.History.{Act, Numbered}
use Rattle.tau_machine.specs.Hands as theory
use Rattle.tau_machine.specs.Hands.{Hand, Phase, Placed, committed_of}
use Rattle.tau_machine.specs.Worker.{Worker, begun, hand_joined}
use Rattle.tau_machine.proofs.Commits.{begun_committed}
use Rattle.tau_txn.specs.declared.action.Action.{Action}
use Rattle.tau_txn.specs.declared.action.Action.TheVariants as action
use Rattle.tau_txn.specs.declared.action.ActionKind.TheVariants as kind
use Rattle.tau_txn.specs.declared.standing.Standing.{Standing}
use Rattle.tau_txn.specs.declared.standing.Standing.TheVariants as standing
use Rattle.tau_txn.specs.Hand.{PlainHand}
use Rattle.tau_txn.specs.Next as txn
use Rattle.tau_txn.specs.Next.{act_at, kind_of, next_action, next_by, next_of}
use Rattle.tau_txn.specs.Read.{effect_in}
use Rattle.tau_txn.specs.Record.{entry_of}
use Rattle.tau_txn.specs.Txn.{PlainTxn, anchor_in, bytes_in, hand_in, has_joined, leaves_in, shown, shown_of, stream_in, worker_of}
use Rattle.tau_core.specs.declared.state.Load.{Load}
use Rattle.tau_core.specs.State.{Plain}
use Rattle.tau_core.specs.View.{call_of}
use Rattle.tau_core.proofs.ActionKinds.{commit_kind}
use Rattle.tau_core.proofs.Hands.{some_hand}
use Rattle.tau_core.proofs.Sizes.{size_small}
use Rattle.tau_rule.specs.Knows.{Knows}
use Rattle.tau_rule.specs.Boxes.{IsToPost}
use Rattle.tau_rule.specs.Places.{IsToPlace, placed, placed_by, placed_worker}
use Rattle.tau_rule.specs.Steps.{IsReady, Sat, handed, next_worker, working}
use Rattle.tau_rule.proofs.Placing.{placed_is}
use Rattle.tau_rule.proofs.Workers.{worker_shown}
use Rattle.tau_desk.specs.Acts.{HasCommitted, IsPlaced, SameWorker}
use Rattle.tau_desk.specs.Seats.{IsWorkerSeat}
use Rattle.tau_desk.specs.Shares.{FitsWork, PlainWork, own_worker}
use Rattle.tau_desk.specs.Works.{joined_worker, told_joined}
use Rattle.tau_desk.proofs.GoingOn.{begun_own, joined_is, joined_at, seat_origin, work_at}
use Rattle.tau_desk.proofs.Reading.{told_joined_is}
use Rattle.tau_base.proofs.Logic.{not_both}

-- a call whose record has its place posts next
abbrev is_placed : Phase → Bool
is_placed theory.Running = false
is_placed theory.Quitting = false
is_placed (Placed act) = true
is_placed (theory.Freeing act) = false

abbrev placed_there : Option Hand → Bool
placed_there None = false
placed_there (Some h) = is_placed h.phase

pub posts_next : (procs : List Proc) (t : PlainTxn) (h : Hand) (act : Act theory.Txn) → hand_in procs t ≡ Some h → h.phase ≡ Placed act → next_action t ≡ action.Post
posts_next procs t h act e p = by_hand t.hand e
  where
    here : placed_there (Some h) ≡ true
    here = ap is_placed p

    by_standing : (st : Standing) (x : PlainHand) → shown procs t.worker st (record x { standing = st }) ≡ Some h → next_by st x ≡ action.Post
    by_standing standing.Running x f = absurd (not_both false refl (ap placed_there f ∙ here))
    by_standing standing.Quitting x f = absurd (not_both false refl (ap placed_there f ∙ here))
    by_standing standing.Placed x f = refl
    by_standing standing.Freeing x f = absurd (not_both false refl (ap placed_there f ∙ here))
    by_standing standing.LeftOver x f = absurd (not_both false refl (ap placed_there f ∙ here))

    by_hand : (o : Option PlainHand) → shown_of procs t.worker o ≡ Some h → next_of o ≡ action.Post
    by_hand None f = absurd (not_both false refl (ap placed_there f ∙ here))
    by_hand (Some x) f = by_standing x.standing x f

-- the hand with its vector raised by that of the anchor
abbrev pub raised_by : Hand → List ℕ → Hand
raised_by h anchor = record h { dep = join h.dep anchor }

-- what its place owes, from the record that was made
pub to_place : (origin : Plain) (w : ℕ) (m : Sat) (t p : PlainTxn) (size number : ℕ) (anchor : List ℕ) → IsReady origin w m t → (q : txn.Commits origin.load.procs t size) → m.0.read ≡ (number, anchor) → length anchor ≡ origin.load.streams → origin.load.streams ≤ most_streams (format_of t.mode) →
    p ≡ record t { hand = p.hand } → hand_in origin.load.procs p ≡ Some (raised_by q.hand anchor) → anchor_in p ≡ number → 1 ≤ length (bytes_in p) →
    ((vectors : List (List ℕ)) → base_of vectors number ≡ anchor → Spells (format_of t.mode) t.width vectors false (entry_of t.mode (act_at origin.load.procs p 0 (raised_by q.hand anchor))) (bytes_in p)) → IsToPlace origin w m p
to_place origin w m t p size number anchor r q read wide few same raised named sized spelled =
    let a : Act theory.Txn = act_at origin.load.procs p 0 (raised_by q.hand anchor) in
    let small : length (bytes_in p) < 2 ^ 32 =
    size_small origin.load.streams anchor t.mode a (bytes_in p) few wide
    (λ vectors e. subst (λ (n : ℕ). Spells (format_of t.mode) n vectors false (entry_of t.mode a) (bytes_in p)) r.width (spelled vectors (ap (base_of vectors) (sym named) ∙ e))) in
    record {
      role = r.role;
      worker = r.worker;
      seat = r.seat;
      share = r.share;
      there = r.there;
      number = ap (λ (x : PlainTxn). x.worker) same ∙ r.number;
      width = ap (λ (x : PlainTxn). x.width) same ∙ r.width;
      hand = q.hand;
      effect = q.effect;
      base = anchor;
      is = r.agrees ∙ q.is;
      phase = q.phase;
      ended = q.ended;
      locked = q.locked;
      updates = q.updates;
      named = inr (named ∙ sym (ap (λ (z : ℕ × List ℕ). z.0) read), sym (ap (λ (z : ℕ × List ℕ). z.1) read));
      shown = raised;
      size_low = sized;
      size_high = omega (arith, small);
    }

-- for a call that commits there is room among those that have
pub commit_room : (l : Load) (w : ℕ) (o : PlainWork) → FitsWork l w o → txn.Means l.procs o.txn (next_action o.txn) → kind_of (next_action o.txn) ≡ kind.Commit → 1 ≤ o.committed_room
commit_room l w o f m e =
    let next = commit_kind (next_action o.txn) e in
    let q : txn.Commits l.procs o.txn next.0 = subst (λ (a : Action). txn.Means l.procs o.txn a) next.1 m in
    f.commits (some_hand l.procs o.txn q.hand q.is) (joined_is l.procs o.txn q.hand q.is ∙ ap joined_at q.phase)

-- what the call is then
pub has_committed : (procs : List Proc) (t p t' : PlainTxn) (size number : ℕ) (anchor : List ℕ) (start : ℕ) (kept : Committed) (q : txn.Commits procs t size) → p ≡ record t { hand = p.hand } → (leaves_in t ≡ false → leaves_in p ≡ false) → hand_in procs p ≡ Some (raised_by q.hand anchor) → anchor_in p ≡ number →
    start + length (bytes_in p) < MAX_LSN → ((vectors : List (List ℕ)) → base_of vectors number ≡ anchor → Spells (format_of t.mode) t.width vectors false (entry_of t.mode (act_at procs p start (raised_by q.hand anchor))) (bytes_in p)) → IsPlaced procs p t' start kept → HasCommitted procs t t' number anchor start kept
has_committed procs t p t' size number anchor start kept q same stays raised named small spelled s =
    let h : Hand = raised_by q.hand anchor in
    let a : Act theory.Txn = act_at procs p start h in
    let now = s.is h raised in
    let worker_is : p.worker ≡ t.worker = ap (λ (x : PlainTxn). x.worker) same in
    let stream_is : stream_in p ≡ stream_in t = ap stream_in same in
    record {
      size = size;
      commits = q;
      act = a;
      act_is = λ i. record {
        call = record { call = q.hand.call; worker = worker_is i; place = record { stream = stream_is i; start = start; past = start + length (sym s.bytes i); dep = join q.hand.dep anchor }; anchor = named i };
        effect = effect_in (q.ended i);
      };
      is = now.0;
      next = posts_next procs t' (hand_joined q.hand (Placed a) (join q.hand.dep anchor)) a now.0 refl;
      small = subst (λ (b : List ℕ). start + length b < MAX_LSN) (sym s.bytes) small;
      spelled = λ vectors e. subst (λ (b : List ℕ). Spells (format_of t.mode) t.width vectors false (entry_of t.mode a) b) (sym s.bytes) (spelled vectors e);
      kept_is = now.1;
      worker = record { runs = s.worker.runs; same = s.worker.same ∙ ap (λ (x : PlainTxn). record x { hand = t'.hand }) same; stays = λ e. s.worker.stays (stays e) };
    }

-- what the seat was told of the place is that its call has joined the committed ones
pub placed_joined : (origin : Plain) (w : ℕ) (m : Sat) (p t' : PlainTxn) (start : ℕ) (kept : Committed) (q : IsToPlace origin w m p) → IsPlaced origin.load.procs p t' start kept → ◌≡◌ {A = Sat} (placed origin.load m.0 p start, m.1) (told_joined origin.load m.0 t' kept, [])
placed_joined origin w m p t' start kept q s =
    let l : Load = origin.load in
    let h : Hand = raised_by q.hand q.base in
    let a : Act theory.Txn = act_at l.procs p start h in
    let now = s.is h q.shown in
    let b : Worker = begun l.streams q.worker in
    let hj : Hand = hand_joined h (Placed a) h.dep in
    let worker : placed_worker l q.worker p start ≡ joined_worker l q.worker t' kept =
    ap (placed_by l b p start) q.shown
    ∙ (λ i. record b { hand = Some hj; committed = begun_committed l.streams q.worker i ++ sym now.1 i ∷ [] })
    ∙ ap (λ (y : Worker). record y { committed = q.worker.committed ++ kept ∷ [] }) (sym (worker_shown l.procs b t' hj now.0)) in
    ap (λ (v : Knows). (v, m.1)) (placed_is origin w m p q start)
    ∙ (λ i. (record m.0 { roles = (w, working q.role (worker i)) ∷ []; hand = q.seat.idle i }, q.seat.none i))
    ∙ ap (λ (v : Knows). (v, [])) (sym (told_joined_is l m.0 t' kept w q.role q.worker q.seat.roles q.share))

-- its record may be posted
pub to_post : (origin : Plain) (m : Sat) (t t' : PlainTxn) (number : ℕ) (anchor : List ℕ) (start : ℕ) (kept : Committed) → m.0.read ≡ (number, anchor) → t.width ≡ origin.load.streams → t.mode ≡ origin.load.mode → HasCommitted origin.load.procs t t' number anchor start kept → IsToPost origin m t' start
to_post origin m t t' number anchor start kept read width mode c =
    let worker_is : t'.worker ≡ t.worker = ap (λ (x : PlainTxn). x.worker) c.worker.same in
    let number_is : c.act.call.anchor ≡ number = ap (λ (x : Act theory.Txn). x.call.anchor) c.act_is in
    record {
      hand = hand_joined c.commits.hand (Placed c.act) (join c.commits.hand.dep anchor);
      act = c.act;
      base = anchor;
      next = c.next;
      is = c.is;
      phase = refl;
      starts = ap (λ (x : Act theory.Txn). x.call.place.start) c.act_is;
      past = ap (λ (x : Act theory.Txn). x.call.place.past) c.act_is;
      small = c.small;
      stream = ap (λ (x : Act theory.Txn). x.call.place.stream) c.act_is ∙ (λ i. (sym worker_is i) % (width i));
      named = inr (number_is ∙ sym (ap (λ (z : ℕ × List ℕ). z.0) read), sym (ap (λ (z : ℕ × List ℕ). z.1) read));
      spelled = λ vectors e. subst (λ (z : LogMode × ℕ). Spells (format_of z.0) z.1 vectors false (entry_of z.0 c.act) (bytes_in t')) (λ i. (mode i, width i)) (c.spelled vectors (ap (base_of vectors) (sym number_is) ∙ e));
    }

-- a seat whose call in hand has joined the committed ones
pub seat_joined : (origin : Plain) (m m' : Sat) (w : ℕ) (o : PlainWork) (t : PlainTxn) (start : ℕ) (kept : Committed) (cs : List Committed) (room : ℕ) (read : ℕ × List ℕ) (seen : List ℕ) → m.0.opened ≡ Some origin → (s : IsWorkerSeat m w o read seen) → m' ≡ (told_joined origin.load m.0 t kept, []) → cs ≡ o.committed ++ kept ∷ [] →
    (h x : Hand) → hand_in origin.load.procs o.txn ≡ Some h → hand_in origin.load.procs t ≡ Some x → x.call ≡ h.call → joined_at x.phase ≡ true → SameWorker origin.load.procs o.txn t → (next_action t ≡ action.Post → (1 ≤ o.spare.0) × IsToPost origin m' t start) →
    IsWorkerSeat m' w (record o { txn = t; start = start; committed = cs; committed_room = room; mark = None }) read seen
seat_joined origin m m' w o t start kept cs room read seen opened s knows is_more h x is shows call joined q posts =
    let l : Load = origin.load in
    let same = seat_origin origin m w o read seen opened s in
    let work = work_at origin m w o read seen opened s in
    let f = work.fits in
    let wk : Worker = joined_worker l work.worker t kept in
    let o' : PlainWork = record o { txn = t; start = start; committed = cs; committed_room = room; mark = None } in
    let had : is_some o.txn.hand ≡ true = some_hand l.procs o.txn h is in
    let begun_is : begun l.streams work.worker ≡ own_worker l o = begun_own l work.worker o h is work.shows in
    let committed_is : work.worker.committed ≡ o.committed = sym (begun_committed l.streams work.worker) ∙ ap (λ (y : Worker). y.committed) begun_is in
    let next_is : next_worker l work.worker t ≡ record (own_worker l o) { hand = Some x } = ap (λ (y : Worker). worker_of l.procs y t) begun_is ∙ worker_shown l.procs (own_worker l o) t x shows in
    let me : m' ≡ (handed m.0 w (working s.role wk), []) = knows ∙ ap (λ (v : Knows). (v, [])) (told_joined_is l m.0 t kept w s.role work.worker s.seat.roles work.share) in
    let fits : FitsWork l w o' = record {
      worker = ap (λ (y : PlainTxn). y.worker) q.same ∙ f.worker;
      width = ap (λ (y : PlainTxn). y.width) q.same ∙ f.width;
      mode = ap (λ (y : PlainTxn). y.mode) q.same ∙ f.mode;
      runs = q.runs;
      stays = some_hand l.procs t x shows ∙ sym (ap is_some shows);
      call = λ y g.
          let it : x ≡ y = (let e : Some x ≡ Some y = sym shows ∙ g in cc) in
          subst (λ (n : Numbered). call_of l.calls n.number ≡ Some n.call) (sym (ap (λ (z : Hand). z.call) (sym it) ∙ call)) (f.call h is);
      low = f.low;
      high = f.high;
      again = f.again;
      mark = λ k e. absurd (let bad : None ≡ Some k = e in cc);
      left = f.left;
      leaves = λ e. f.leaves had;
      ends = λ e. f.ends had;
      posts = λ e. (posts e).0;
      commits = λ e g. absurd (not_both (has_joined t) g (joined_is l.procs t x shows ∙ joined));
    } in
    subst (λ (z : Sat). IsWorkerSeat z w o' read seen) (sym me) (record {
      origin = origin;
      role = working s.role wk;
      seat = record { opened = opened; roles = refl; idle = refl; none = refl };
      work = record {
        worker = wk;
        share = refl;
        there = work.there;
        shows = (λ i. record (next_is i) { committed = committed_is i ++ kept ∷ [] }) ∙ (λ i. record (own_worker l o) { hand = sym shows i; committed = sym is_more i });
        fits = fits;
        spare = work.spare;
      };
      read_is = s.read_is;
      read_wide = subst (λ (p : Plain). length read.1 ≡ p.load.streams) same s.read_wide;
      seen_is = s.seen_is;
      seen_wide = subst (λ (p : Plain). length seen ≡ p.load.streams) same s.seen_wide;
      posts = λ e. subst (λ (z : Sat). IsToPost origin z t start) me (posts e).1;
    })

-- after a commit
pub seat_committed : (origin : Plain) (m m' : Sat) (w : ℕ) (o : PlainWork) (t : PlainTxn) (start : ℕ) (kept : Committed) (cs : List Committed) (room : ℕ) (read : ℕ × List ℕ) (seen : List ℕ) → m.0.opened ≡ Some origin → IsWorkerSeat m w o read seen → m' ≡ (told_joined origin.load m.0 t kept, []) → cs ≡ o.committed ++ kept ∷ [] → 1 ≤ o.spare.0 →
    HasCommitted origin.load.procs o.txn t read.0 read.1 start kept → IsWorkerSeat m' w (record o { txn = t; start = start; committed = cs; committed_room = room; mark = None }) read seen
seat_committed origin m m' w o t start kept cs room read seen opened s knows is_more low c =
    let f = (work_at origin m w o read seen opened s).fits in
    let read_is : m'.0.read ≡ read = ap (λ (z : Sat). z.0.read) knows ∙ s.read_is in
    seat_joined origin m m' w o t start kept cs room read seen opened s knows is_more c.commits.hand (hand_joined c.commits.hand (Placed c.act) (join c.commits.hand.dep read.1)) c.commits.is c.is refl refl c.worker
    (λ e. (low, to_post origin m' o.txn t read.0 read.1 start kept read_is f.width f.mode c))
