-- The call in hand of a seat goes on by a step, and a call that is left over goes to the others that are.
use Rattle.std.proofs.Common.{ℕ, ◌≡◌, ◌≤◌, ◌<◌, Bool, true, false, inl, inr, arith, List, [], ◌∷◌, ◌++◌, refl, sym, ap, subst, ◌∙◌, Option}
use Rattle.std.specs.Prelude.{Some, None, is_some, length}
use Rattle.std.specs.Map.{lookup}
use Rattle.tau_base.specs.declared.value.Key.{Key}
use Rattle.tau_base.specs.declared.value.Value.{Value}
use Rattle.tau_base.specs.declared.value.Mode.{Mode}
use Rattle.tau_base.specs.declared.value.Mode.TheVariants.{Read, Write}
use Rattle.tau_proc.specs.declared.proc.Proc.{Proc}
use Rattle.tau_proc.specs.declared.reply.Reply.{Reply}
use Rattle.tau_proc.specs.declared.reply.Want.{Want}
use Rattle.tau_proc.specs.declared.reply.Want.TheVariants as want
use Rattle.tau_model.specs.History.{Act, Numbered}
use Rattle.tau_machine.specs.Hands as theory
use Rattle.tau_machine.specs.Hands.{Hand, Phase, Placed, Quitting}
use Rattle.tau_machine.specs.Pieces.{placed_of}
use Rattle.tau_machine.specs.Worker.{Worker, begun, hand_busy, hand_quit, settled}
use Rattle.tau_txn.specs.declared.standing.Standing.{Standing}
use Rattle.tau_txn.specs.declared.standing.Standing.TheVariants as standing
use Rattle.tau_txn.specs.declared.action.Action.{Action}
use Rattle.tau_txn.specs.declared.action.Action.TheVariants as action
use Rattle.tau_txn.specs.Actions.{frees, quits}
use Rattle.tau_txn.specs.Hand.{PlainHand}
use Rattle.tau_txn.specs.Next.{asks, ends_with, frees_on, next_action, next_by, next_of}
use Rattle.tau_txn.specs.Read.{hand_of}
use Rattle.tau_txn.specs.Steps.{locked_with, worker_by}
use Rattle.tau_txn.specs.Txn.{PlainTxn, RunsBy, hand_in, has_joined, joined_by, joined_of, shown, shown_of, worker_in, worker_of}
use Rattle.tau_core.specs.declared.state.Load.{Load}
use Rattle.tau_core.specs.State.{Plain}
use Rattle.tau_core.specs.View.{all_numbered, call_of}
use Rattle.tau_core.specs.Stands.{AreNumbers, IsNumber}
use Rattle.tau_core.proofs.Begins.{ready_in_hand}
use Rattle.tau_core.proofs.Hands.{some_hand}
use Rattle.tau_core.proofs.Leaving.{settled_hand, settled_left, numbered_append, numbered_is}
use Rattle.tau_rule.specs.Knows.{Knows}
use Rattle.tau_rule.specs.Role.{Role, Working}
use Rattle.tau_rule.specs.Steps.{IsWorker, Sat, handed, next_worker, told, working}
use Rattle.tau_rule.specs.Boxes.{told_box, with_box}
use Rattle.tau_rule.proofs.Boxes.{told_box_is}
use Rattle.tau_rule.proofs.Gives.{one_origin, told_is}
use Rattle.tau_rule.proofs.Workers.{worker_shown}
use Rattle.tau_desk.specs.Acts.{HasEnded, HasFreed, HasLocked, HasMetBusy, HasPosted, HasQuit, SameWorker}
use Rattle.tau_desk.specs.declared.mark.Mark.{Mark}
use Rattle.tau_desk.specs.Shares.{FitsWork, IsWork, PlainWork, ShowsWorker, own_worker}
use Rattle.tau_desk.specs.Seats.{IsWorkerSeat}
use Rattle.tau_desk.specs.Works.{Leaves, LeavesBy, leaves_of, told_room}
use Rattle.tau_desk.proofs.Reading.{told_room_is}
use Rattle.tau_base.proofs.Logic.{not_both}

-- which calls post next

abbrev is_post : Action → Bool
is_post action.Post = true
is_post (action.Lock x m) = false
is_post (action.Quit x) = false
is_post (action.Commit n) = false
is_post (action.Free x v) = false
is_post (action.Done r lv) = false
is_post action.LeftOver = false
is_post action.Nothing = false

quits_on : (ks : List (Key × Mode)) → is_post (quits ks) ≡ false
quits_on [] = refl
quits_on (k ∷ ks) = refl

frees_on_there : (r : Reply) (lv : List ℕ) (ws : List (Key × Value)) (ks : List (Key × Mode)) → is_post (frees r lv ws ks) ≡ false
frees_on_there r lv ws [] = refl
frees_on_there r lv ws (k ∷ ks) = refl

ends_on : (b : Bool) (r : Reply) (h : PlainHand) → is_post (ends_with b r h) ≡ false
ends_on true r h = frees_on_there r h.dep [] h.held
ends_on false r h = refl

asks_on : (w : Want) (h : PlainHand) → is_post (asks w h) ≡ false
asks_on (want.Read x) h = refl
asks_on (want.Write x) h = refl
asks_on (want.Finished r) h = ends_on _ r h

freed_on : (w : Want) (h : PlainHand) → is_post (frees_on w h) ≡ false
freed_on (want.Read x) h = refl
freed_on (want.Write x) h = refl
freed_on (want.Finished r) h = frees_on_there r _ _ h.held

runs_on : (b : Bool) (h : PlainHand) (w : Want) → is_post (Rattle.std.specs.Prelude.if◌then◌else◌ b (quits h.held) (asks w h)) ≡ false
runs_on true h w = quits_on h.held
runs_on false h w = asks_on w h

pub posts_placed : (procs : List Proc) (t : PlainTxn) (h : Hand) → hand_in procs t ≡ Some h → next_action t ≡ action.Post → (act : Act theory.Txn) × (h.phase ≡ Placed act)
posts_placed procs t h e next = by_hand t.hand e next
  where
    by_standing : (st : Standing) (x : PlainHand) → shown procs t.worker st (record x { standing = st }) ≡ Some h → next_by st x ≡ action.Post → (act : Act theory.Txn) × (h.phase ≡ Placed act)
    by_standing standing.Running x f g = absurd (not_both (is_post (next_by standing.Running x)) (runs_on x.leaves x _) (ap is_post g))
    by_standing standing.Quitting x f g = absurd (not_both (is_post (next_by standing.Quitting x)) (quits_on x.held) (ap is_post g))
    by_standing standing.Placed x f g = (let same : hand_of procs t.worker (record x { standing = standing.Placed }) ≡ h = cc in (_, ap (λ (y : Hand). y.phase) (sym same)))
    by_standing standing.Freeing x f g = absurd (not_both (is_post (next_by standing.Freeing x)) (freed_on _ x) (ap is_post g))
    by_standing standing.LeftOver x f g = cc

    by_hand : (o : Option PlainHand) → shown_of procs t.worker o ≡ Some h → next_of o ≡ action.Post → (act : Act theory.Txn) × (h.phase ≡ Placed act)
    by_hand None f g = cc
    by_hand (Some x) f g = by_standing x.standing x f g

-- whether a call has joined shows in its phase
abbrev pub joined_at : Phase → Bool
joined_at theory.Running = false
joined_at theory.Quitting = false
joined_at (theory.Placed act) = true
joined_at (theory.Freeing act) = true

pub joined_is : (procs : List Proc) (t : PlainTxn) (h : Hand) → hand_in procs t ≡ Some h → has_joined t ≡ joined_at h.phase
joined_is procs t h e = by_hand t.hand e
  where
    by_standing : (st : Standing) (x : PlainHand) → shown procs t.worker st (record x { standing = st }) ≡ Some h → joined_by st ≡ joined_at h.phase
    by_standing standing.Running x f = ap (λ (y : Option Hand). joined_at (phase_or y)) f
      where
        phase_or : Option Hand → Phase
        phase_or None = theory.Running
        phase_or (Some y) = y.phase
    by_standing standing.Quitting x f = (let same : hand_of procs t.worker (record x { standing = standing.Quitting }) ≡ h = cc in ap (λ (y : Hand). joined_at y.phase) same)
    by_standing standing.Placed x f = (let same : hand_of procs t.worker (record x { standing = standing.Placed }) ≡ h = cc in ap (λ (y : Hand). joined_at y.phase) same)
    by_standing standing.Freeing x f = (let same : hand_of procs t.worker (record x { standing = standing.Freeing }) ≡ h = cc in ap (λ (y : Hand). joined_at y.phase) same)
    by_standing standing.LeftOver x f = cc

    by_hand : (o : Option PlainHand) → shown_of procs t.worker o ≡ Some h → joined_of o ≡ joined_at h.phase
    by_hand None f = cc
    by_hand (Some x) f = by_standing x.standing x f

-- numbers of calls that are left over

numbers_append : (l : Load) (xs : List ℕ) (n : ℕ) → AreNumbers l xs → IsNumber l n → AreNumbers l (xs ++ n ∷ [])
numbers_append l [] n q is = (is, tt)
numbers_append l (x ∷ xs) n q is = (q.0, numbers_append l xs n q.1 is)

-- what is shown of a seat's own part

none_or_some : (o : Option Hand) → is_some o ≡ true → (h : Hand) × (o ≡ Some h)
none_or_some None e = absurd (let bad : false ≡ true = e in cc)
none_or_some (Some h) e = (h, refl)

-- the call that is in hand there
pub hand_there : (l : Load) (w : ℕ) (o : PlainWork) → FitsWork l w o → is_some o.txn.hand ≡ true → (h : Hand) × (hand_in l.procs o.txn ≡ Some h)
hand_there l w o f e = none_or_some (hand_in l.procs o.txn) (sym f.stays ∙ e)

pub begun_own : (l : Load) (wk : Worker) (o : PlainWork) (h : Hand) → hand_in l.procs o.txn ≡ Some h → ShowsWorker l wk o o.mark → begun l.streams wk ≡ own_worker l o
begun_own l wk o h e s = by_mark o.mark s
  where
    by_mark : (k : Option Mark) → ShowsWorker l wk o k → begun l.streams wk ≡ own_worker l o
    by_mark None is = ready_in_hand l.streams wk h (ap (λ (x : Worker). x.hand) is ∙ e) ∙ is
    by_mark (Some k) is = is.1

-- what a seat's own part is after a step of the call in hand, by which it shows t
pub record Stepped (l : Load) (w : ℕ) (o : PlainWork) (t : PlainTxn) (o' : PlainWork) : Type 0 where
  pub own : (wk : Worker) → begun l.streams wk ≡ own_worker l o → next_worker l wk t ≡ own_worker l o'
  pub fits : FitsWork l w o'
  pub posts : next_action o'.txn ≡ action.Post → ⊥
  pub bare : o'.mark ≡ None
  pub spare : o'.spare ≡ o.spare

module _ (l : Load) (w : ℕ) (o : PlainWork) (f : FitsWork l w o) (h : Hand) (is : hand_in l.procs o.txn ≡ Some h) (t : PlainTxn) (q : SameWorker l.procs o.txn t) where
  had : is_some o.txn.hand ≡ true
  had = some_hand l.procs o.txn h is

  abbrev pub next : PlainWork
  next = record o { txn = t; mark = None }

  fits_next : ((x : Hand) → hand_in l.procs t ≡ Some x → x.call ≡ h.call) → is_some t.hand ≡ is_some (hand_in l.procs t) → (next_action t ≡ action.Post → ⊥) → (has_joined t ≡ false → has_joined o.txn ≡ false) → FitsWork l w next
  fits_next calls stays no_post joined = record {
    worker = ap (λ (x : PlainTxn). x.worker) q.same ∙ f.worker;
    width = ap (λ (x : PlainTxn). x.width) q.same ∙ f.width;
    mode = ap (λ (x : PlainTxn). x.mode) q.same ∙ f.mode;
    runs = q.runs;
    stays = stays;
    call = λ x e. subst (λ (n : Numbered). call_of l.calls n.number ≡ Some n.call) (sym (calls x e)) (f.call h is);
    low = f.low;
    high = f.high;
    again = f.again;
    mark = λ k e. absurd (let bad : None ≡ Some k = e in cc);
    left = f.left;
    leaves = λ e. f.leaves had;
    ends = λ e. f.ends had;
    posts = λ e. absurd (no_post e);
    commits = λ e g. f.commits had (joined g);
  }

  -- the call stays in hand
  pub stays_in : (x : Hand) → hand_in l.procs t ≡ Some x → x.call ≡ h.call → ((act : Act theory.Txn) → x.phase ≡ Placed act → ⊥) → (joined_at x.phase ≡ false → joined_at h.phase ≡ false) → Stepped l w o t next
  stays_in x e call unplaced joined =
      let no_post : next_action t ≡ action.Post → ⊥ = (λ n. let p = posts_placed l.procs t x e n in unplaced p.0 p.1) in
      record {
        own = λ wk b. ap (λ (y : Worker). worker_of l.procs y t) b ∙ worker_shown l.procs (own_worker l o) t x e ∙ ap (λ (y : Option Hand). record (own_worker l o) { hand = y }) (sym e);
        fits = fits_next (λ y g. (let same : x ≡ y = cc in ap (λ (z : Hand). z.call) (sym same) ∙ call))
            (some_hand l.procs t x e ∙ sym (ap is_some e)) no_post (λ g. joined_is l.procs o.txn h is ∙ joined (sym (joined_is l.procs t x e) ∙ g));
        posts = no_post;
        bare = refl;
        spare = refl;
      }

  module _ (k : Hand) (call : k.call ≡ h.call) (phase : k.phase ≡ Quitting) (unjoined : joined_at h.phase ≡ false) (settles : (wk : Worker) → worker_of l.procs wk t ≡ settled l.streams wk k) where
    number_is : call_of l.calls k.call.number ≡ Some k.call.call
    number_is = subst (λ (n : Numbered). call_of l.calls n.number ≡ Some n.call) (sym call) (f.call h is)

    not_joined : has_joined o.txn ≡ false
    not_joined = joined_is l.procs o.txn h is ∙ unjoined

    settled_in : ((wk : Worker) → worker_of l.procs wk t ≡ record wk { hand = hand_in l.procs t }) → (x : Hand) → hand_in l.procs t ≡ Some x → (x.call ≡ k.call) × (placed_of x.phase ≡ None)
    settled_in shape x e = settled_hand l.streams (own_worker l o) k x phase (ap (λ (y : Worker). y.hand) (sym (settles (own_worker l o)) ∙ shape (own_worker l o)) ∙ e)

    -- the call stays in hand, or is let go
    settled_stays : ((wk : Worker) → worker_of l.procs wk t ≡ record wk { hand = hand_in l.procs t }) → is_some t.hand ≡ is_some (hand_in l.procs t) → Stepped l w o t next
    settled_stays shape some =
        let no_post : next_action t ≡ action.Post → ⊥ = (λ n. by_hand (hand_in l.procs t) refl n) in
        record {
          own = λ wk b. ap (λ (y : Worker). worker_of l.procs y t) b ∙ shape (own_worker l o);
          fits = fits_next (λ x e. (settled_in shape x e).0 ∙ call) some no_post (λ g. not_joined);
          posts = no_post;
          bare = refl;
          spare = refl;
        }
      where
        none_some : (o : Option PlainHand) → is_some o ≡ false → next_of o ≡ action.Post → ⊥
        none_some None e n = not_both false refl (ap is_post n)
        none_some (Some x) e n = (let bad : true ≡ false = e in cc)

        by_hand : (x : Option Hand) → hand_in l.procs t ≡ x → next_action t ≡ action.Post → ⊥
        by_hand None e n = none_some t.hand (some ∙ ap is_some e) n
        by_hand (Some x) e n =
            let p = posts_placed l.procs t x e n in
            let bad : None ≡ Some p.0 = sym (settled_in shape x e).1 ∙ ap placed_of p.1 in cc

    shape_of : (x : PlainHand) (st : Standing) → t.hand ≡ Some x → x.standing ≡ st → ((wk : Worker) → worker_by l.procs t.worker wk st x ≡ record wk { hand = shown l.procs t.worker st x }) → (wk : Worker) →
        worker_of l.procs wk t ≡ record wk { hand = hand_in l.procs t }
    shape_of x st e s by wk =
        ap (λ (y : Option PlainHand). worker_in l.procs t.worker wk y) e ∙ ap (λ (z : Standing). worker_by l.procs t.worker wk z x) s ∙ by wk
        ∙ ap (λ (y : Option Hand). record wk { hand = y }) (sym (ap (shown_of l.procs t.worker) e ∙ ap (λ (z : Standing). shown l.procs t.worker z x) s))

    some_of : (x : PlainHand) (st : Standing) (y : Hand) → t.hand ≡ Some x → x.standing ≡ st → shown l.procs t.worker st x ≡ Some y → is_some t.hand ≡ is_some (hand_in l.procs t)
    some_of x st y e s g = ap is_some e ∙ sym (ap is_some (ap (shown_of l.procs t.worker) e ∙ ap (λ (z : Standing). shown l.procs t.worker z x) s ∙ g))

    -- the call is left over
    settled_goes : (o' : PlainWork) (x : PlainHand) → t.hand ≡ Some x → x.standing ≡ standing.LeftOver → LeavesBy standing.LeftOver x next o' → Stepped l w o t o'
    settled_goes o' x e s r =
        let this : Numbered = record { number = x.number; call = x.call } in
        let shape : (wk : Worker) → worker_of l.procs wk t ≡ record wk { hand = None; left = wk.left ++ this ∷ [] } =
        (λ (wk : Worker). ap (λ (y : Option PlainHand). worker_in l.procs t.worker wk y) e ∙ ap (λ (z : Standing). worker_by l.procs t.worker wk z x) s) in
        let empty : Worker = record { waiting = []; hand = None; left = []; committed = [] } in
        let this_is : this ≡ k.call = settled_left l.streams empty k this (ap (λ (y : Worker). y.left) (sym (settles empty) ∙ shape empty)) refl in
        let has : call_of l.calls x.number ≡ Some x.call = subst (λ (n : Numbered). call_of l.calls n.number ≡ Some n.call) (sym this_is) number_is in
        let gone : hand_in l.procs o'.txn ≡ None = ap (hand_in l.procs) r.0 in
        let empty_hand : is_some o'.txn.hand ≡ false = ap (λ (y : PlainTxn). is_some y.hand) r.0 in
        record {
          own = λ wk b.
              ap (λ (y : Worker). worker_of l.procs y t) b ∙ shape (own_worker l o)
              ∙ sym (ap (own_worker l) r.2
              ∙ (λ i. record (own_worker l o) { hand = gone i; left = (ap (all_numbered l.calls) r.1 ∙ numbered_append l.calls o.left x.number ∙ ap (λ (z : List Numbered). all_numbered l.calls o.left ++ z) (numbered_is l.calls x.number x.call has)) i }));
          fits = subst (λ (y : PlainWork). FitsWork l w y) (sym r.2) (record {
            worker = ap (λ (y : PlainTxn). y.worker) r.0 ∙ ap (λ (y : PlainTxn). y.worker) q.same ∙ f.worker;
            width = ap (λ (y : PlainTxn). y.width) r.0 ∙ ap (λ (y : PlainTxn). y.width) q.same ∙ f.width;
            mode = ap (λ (y : PlainTxn). y.mode) r.0 ∙ ap (λ (y : PlainTxn). y.mode) q.same ∙ f.mode;
            runs = subst (λ (y : PlainTxn). RunsBy l.procs y) (sym r.0) tt;
            stays = empty_hand ∙ sym (ap is_some gone);
            call = λ y g. absurd (let bad : None ≡ Some y = sym gone ∙ g in cc);
            low = f.low;
            high = f.high;
            again = f.again;
            mark = λ k e. absurd (let bad : None ≡ Some k = e in cc);
            left = subst (λ (z : List ℕ). AreNumbers l z) (sym r.1) (numbers_append l o.left x.number f.left (x.call, has));
            leaves = λ g. absurd (not_both (is_some o'.txn.hand) empty_hand g);
            ends = λ g. absurd (not_both (is_some o'.txn.hand) empty_hand g);
            posts = λ g. absurd (not_both false refl (ap is_post (sym (ap next_action r.0) ∙ g)));
            commits = λ g j. absurd (not_both (is_some o'.txn.hand) empty_hand g);
          });
          posts = λ g. not_both false refl (ap is_post (sym (ap next_action r.0) ∙ g));
          bare = ap (λ (y : PlainWork). y.mark) r.2;
          spare = ap (λ (y : PlainWork). y.spare) r.2;
        }

    pub settles_to : (o' : PlainWork) → Leaves next o' → Stepped l w o t o'
    settles_to o' r = by_hand t.hand refl r
      where
        moved : o' ≡ next → Stepped l w o t next → Stepped l w o t o'
        moved e s = subst (λ (y : PlainWork). Stepped l w o t y) (sym e) s

        by_standing : (st : Standing) (x : PlainHand) → t.hand ≡ Some x → x.standing ≡ st → LeavesBy st x next o' → Stepped l w o t o'
        by_standing standing.LeftOver x e s g = settled_goes o' x e s g
        by_standing standing.Running x e s g = moved g (settled_stays (shape_of x standing.Running e s (λ wk. refl)) (some_of x standing.Running (hand_of l.procs t.worker x) e s refl))
        by_standing standing.Quitting x e s g = moved g (settled_stays (shape_of x standing.Quitting e s (λ wk. refl)) (some_of x standing.Quitting (hand_of l.procs t.worker x) e s refl))
        by_standing standing.Placed x e s g = moved g (settled_stays (shape_of x standing.Placed e s (λ wk. refl)) (some_of x standing.Placed (hand_of l.procs t.worker x) e s refl))
        by_standing standing.Freeing x e s g = moved g (settled_stays (shape_of x standing.Freeing e s (λ wk. refl)) (some_of x standing.Freeing (hand_of l.procs t.worker x) e s refl))

        by_hand : (y : Option PlainHand) → t.hand ≡ y → leaves_of y next o' → Stepped l w o t o'
        by_hand None e g = moved g (settled_stays
            (λ wk. ap (λ (y : Option PlainHand). worker_in l.procs t.worker wk y) e ∙ ap (λ (y : Option Hand). record wk { hand = y }) (sym (ap (shown_of l.procs t.worker) e)))
            (ap is_some e ∙ sym (ap is_some (ap (shown_of l.procs t.worker) e))))
        by_hand (Some x) e g = by_standing x.standing x e refl g

-- the seat of a run that is known

pub seat_origin : (origin : Plain) (m : Sat) (w : ℕ) (o : PlainWork) (read : ℕ × List ℕ) (seen : List ℕ) → m.0.opened ≡ Some origin → (s : IsWorkerSeat m w o read seen) → s.origin ≡ origin
seat_origin origin m w o read seen opened s = one_origin s.origin origin (sym s.seat.opened ∙ opened)

-- and goes on
pub seat_on : (origin : Plain) (m m' : Sat) (w : ℕ) (o o' : PlainWork) (t : PlainTxn) (read : ℕ × List ℕ) (seen : List ℕ) → m.0.opened ≡ Some origin → IsWorkerSeat m w o read seen → is_some o.txn.hand ≡ true → m' ≡ (told origin.load m.0 t, []) → Stepped origin.load w o t o' → IsWorkerSeat m' w o' read seen
seat_on origin m m' w o o' t read seen opened s has knows step =
    let same = seat_origin origin m w o read seen opened s in
    let l : Load = s.origin.load in
    let step' : Stepped l w o t o' = subst (λ (p : Plain). Stepped p.load w o t o') (sym same) step in
    let there = hand_there l w o s.work.fits has in
    let wk : Worker = next_worker l s.work.worker t in
    let me : m' ≡ (Rattle.tau_rule.specs.Steps.handed m.0 w (working s.role wk), []) =
    knows ∙ ap (λ (p : Plain). (told p.load m.0 t, [])) (sym same) ∙ ap (λ (v : Knows). (v, [])) (told_is s.origin m.0 t w s.role s.work.worker s.seat.roles s.work.share) in
    let shows : wk ≡ own_worker l o' = step'.own s.work.worker (begun_own l s.work.worker o there.0 there.1 s.work.shows) in
    subst (λ (x : Sat). IsWorkerSeat x w o' read seen) (sym me) (record {
      origin = s.origin;
      role = working s.role wk;
      seat = record { opened = s.seat.opened; roles = refl; idle = refl; none = refl };
      work = record {
        worker = wk;
        share = refl;
        there = s.work.there;
        shows = subst (λ (k : Option Mark). ShowsWorker l wk o' k) (sym step'.bare) shows;
        fits = step'.fits;
        spare = s.work.spare ∙ sym step'.spare;
      };
      read_is = s.read_is;
      read_wide = s.read_wide;
      seen_is = s.seen_is;
      seen_wide = s.seen_wide;
      posts = λ e. absurd (step'.posts e);
    })

-- the actions on shards

locked_like : (h : Hand) (x : Key) (m : Mode) (v : Value) (d : List ℕ) → ((locked_with h x m v d).call ≡ h.call) × ((locked_with h x m v d).phase ≡ h.phase)
locked_like h x Read v d = (refl, refl)
locked_like h x Write v d = (refl, refl)

running_not : (p : Phase) (act : Act theory.Txn) → p ≡ theory.Running → p ≡ Placed act → ⊥
running_not p act e f = (let bad : theory.Running ≡ Placed act = sym e ∙ f in cc)

freeing_not : (p : Phase) (a act : Act theory.Txn) → p ≡ theory.Freeing a → p ≡ Placed act → ⊥
freeing_not p a act e f = (let bad : theory.Freeing a ≡ Placed act = sym e ∙ f in cc)

module _ (l : Load) (w : ℕ) (o : PlainWork) (f : FitsWork l w o) (t : PlainTxn) where
  pub locked_on : HasLocked l.procs o.txn t → Stepped l w o t (record o { txn = t; mark = None })
  locked_on q =
      let h : Hand = q.wanted.hand in
      let x : Hand = locked_with h q.key q.mode q.row q.dep in
      let like = locked_like h q.key q.mode q.row q.dep in
      stays_in l w o f h q.wanted.is t q.worker x q.is like.0 (λ act e. running_not x.phase act (like.1 ∙ q.wanted.phase) e) (λ _. ap joined_at q.wanted.phase)

  pub busy_on : HasMetBusy l.procs o.txn t → (o' : PlainWork) → Leaves (record o { txn = t; mark = None }) o' → Stepped l w o t o'
  busy_on q o' r =
      settles_to l w o f q.wanted.hand q.wanted.is t q.worker (hand_busy q.wanted.hand) refl refl (ap joined_at q.wanted.phase)
      (λ wk. q.settles wk ∙ ap (λ (n : ℕ). settled n wk (hand_busy q.wanted.hand)) f.width) o' r

  pub quit_on : HasQuit l.procs o.txn t → (o' : PlainWork) → Leaves (record o { txn = t; mark = None }) o' → Stepped l w o t o'
  quit_on q o' r =
      let k : Hand = hand_quit q.quits.hand q.key (Rattle.tau_txn.specs.Txn.leaves_in o.txn) in
      let unjoined : joined_at q.quits.hand.phase ≡ false = elim q.quits.phase [
        | inl a ↦ ap joined_at a
        | inr b ↦ ap joined_at b.0
      ] in
      settles_to l w o f q.quits.hand q.quits.is t q.worker k refl refl unjoined
      (λ wk. q.settles wk ∙ ap (λ (n : ℕ). settled n wk k) f.width) o' r

  pub freed_on_key : has_joined o.txn ≡ true → HasFreed l.procs o.txn t → Stepped l w o t (record o { txn = t; mark = None })
  freed_on_key joined q =
      let h : Hand = q.frees.hand in
      stays_in l w o f h q.frees.is t q.worker _ q.is refl (λ act e. freeing_not (theory.Freeing q.frees.act) q.frees.act act refl e) (λ e. absurd (not_both false refl (sym e)))

-- and the seat

module _ (origin : Plain) (m m' : Sat) (w : ℕ) (o : PlainWork) (t : PlainTxn) (read : ℕ × List ℕ) (seen : List ℕ) (opened : m.0.opened ≡ Some origin) (s : IsWorkerSeat m w o read seen) (knows : m' ≡ (told origin.load m.0 t, [])) where
  fits_at : FitsWork origin.load w o
  fits_at = subst (λ (p : Plain). FitsWork p.load w o) (seat_origin origin m w o read seen opened s) s.work.fits

  pub seat_locked : HasLocked origin.load.procs o.txn t → IsWorkerSeat m' w (record o { txn = t; mark = None }) read seen
  seat_locked q = seat_on origin m m' w o (record o { txn = t; mark = None }) t read seen opened s (some_hand origin.load.procs o.txn q.wanted.hand q.wanted.is) knows (locked_on origin.load w o fits_at t q)

  pub seat_busy : (o' : PlainWork) → HasMetBusy origin.load.procs o.txn t → Leaves (record o { txn = t; mark = None }) o' → IsWorkerSeat m' w o' read seen
  seat_busy o' q r = seat_on origin m m' w o o' t read seen opened s (some_hand origin.load.procs o.txn q.wanted.hand q.wanted.is) knows (busy_on origin.load w o fits_at t q o' r)

  pub seat_quit : (o' : PlainWork) → HasQuit origin.load.procs o.txn t → Leaves (record o { txn = t; mark = None }) o' → IsWorkerSeat m' w o' read seen
  seat_quit o' q r = seat_on origin m m' w o o' t read seen opened s (some_hand origin.load.procs o.txn q.quits.hand q.quits.is) knows (quit_on origin.load w o fits_at t q o' r)

  pub seat_freed : has_joined o.txn ≡ true → HasFreed origin.load.procs o.txn t → IsWorkerSeat m' w (record o { txn = t; mark = None }) read seen
  seat_freed joined q = seat_on origin m m' w o (record o { txn = t; mark = None }) t read seen opened s (some_hand origin.load.procs o.txn q.frees.hand q.frees.is) knows (freed_on_key origin.load w o fits_at t joined q)

-- a seat whose worker is this after a step

pub seat_shown : (origin : Plain) (m m' : Sat) (w : ℕ) (o o' : PlainWork) (read : ℕ × List ℕ) (seen : List ℕ) → m.0.opened ≡ Some origin → (s : IsWorkerSeat m w o read seen) → (role : Role) (wk : Worker) → role.share ≡ Working wk → m' ≡ (handed m.0 w role, []) →
    wk ≡ own_worker origin.load o' → o'.mark ≡ None → FitsWork origin.load w o' → role.spare ≡ o'.spare → (next_action o'.txn ≡ action.Post → ⊥) → IsWorkerSeat m' w o' read seen
seat_shown origin m m' w o o' read seen opened s role wk share me shows bare fits spare no_post =
    let same = seat_origin origin m w o read seen opened s in
    subst (λ (x : Sat). IsWorkerSeat x w o' read seen) (sym me) (record {
      origin = origin;
      role = role;
      seat = record { opened = opened; roles = refl; idle = refl; none = refl };
      work = record {
        worker = wk;
        share = share;
        there = subst (λ (p : Plain). w < p.load.workers) same s.work.there;
        shows = subst (λ (k : Option Mark). ShowsWorker origin.load wk o' k) (sym bare) shows;
        fits = fits;
        spare = spare;
      };
      read_is = s.read_is;
      read_wide = subst (λ (p : Plain). length read.1 ≡ p.load.streams) same s.read_wide;
      seen_is = s.seen_is;
      seen_wide = subst (λ (p : Plain). length seen ≡ p.load.streams) same s.seen_wide;
      posts = λ e. absurd (no_post e);
    })

-- what the seat has of the run
pub work_at : (origin : Plain) (m : Sat) (w : ℕ) (o : PlainWork) (read : ℕ × List ℕ) (seen : List ℕ) → m.0.opened ≡ Some origin → (s : IsWorkerSeat m w o read seen) → IsWork origin.load w s.role o
work_at origin m w o read seen opened s = subst (λ (p : Plain). IsWork p.load w s.role o) (seat_origin origin m w o read seen opened s) s.work

spare_made : (l : Load) (w : ℕ) (o : PlainWork) (spare : ℕ × ℕ) → FitsWork l w o → (next_action o.txn ≡ action.Post → ⊥) → (is_some o.txn.hand ≡ true → 1 ≤ spare.1) → FitsWork l w (record o { spare = spare })
spare_made l w o spare f no_post low = record {
  worker = f.worker;
  width = f.width;
  mode = f.mode;
  runs = f.runs;
  stays = f.stays;
  call = f.call;
  low = f.low;
  high = f.high;
  again = f.again;
  mark = f.mark;
  left = f.left;
  leaves = f.leaves;
  ends = low;
  posts = λ e. absurd (no_post e);
  commits = f.commits;
}

pub seat_posted : (origin : Plain) (m m' : Sat) (w : ℕ) (o : PlainWork) (t : PlainTxn) (spare : ℕ × ℕ) (read : ℕ × List ℕ) (seen : List ℕ) → m.0.opened ≡ Some origin → IsWorkerSeat m w o read seen → m' ≡ (told_box origin.load m.0 t spare, []) → spare.1 ≡ o.spare.1 → HasPosted origin.load.procs o.txn t →
    IsWorkerSeat m' w (record o { txn = t; spare = spare; mark = None }) read seen
seat_posted origin m m' w o t spare read seen opened s knows calls q =
    let l : Load = origin.load in
    let work = work_at origin m w o read seen opened s in
    let f = work.fits in
    let h : Hand = q.posts.hand in
    let x : Hand = record h { phase = theory.Freeing q.posts.act } in
    let step : Stepped l w o t (record o { txn = t; mark = None }) =
    stays_in l w o f h q.posts.is t q.worker x q.is refl (λ act e. freeing_not (theory.Freeing q.posts.act) q.posts.act act refl e) (λ e. absurd (not_both false refl (sym e))) in
    let wk : Worker = next_worker l work.worker t in
    seat_shown origin m m' w o (record o { txn = t; spare = spare; mark = None }) read seen opened s (with_box s.role wk spare) wk refl
    (knows ∙ ap (λ (v : Knows). (v, [])) (told_box_is origin m.0 t spare w s.role work.worker s.seat.roles work.share))
    (step.own work.worker (begun_own l work.worker o h q.posts.is work.shows)) refl
    (spare_made l w (record o { txn = t; mark = None }) spare step.fits step.posts (λ e. subst (λ (n : ℕ). 1 ≤ n) (sym calls) (f.ends (some_hand l.procs o.txn h q.posts.is)))) refl step.posts

pub seat_ended : (origin : Plain) (m m' : Sat) (w : ℕ) (o : PlainWork) (t : PlainTxn) (spare : ℕ × ℕ) (read : ℕ × List ℕ) (seen : List ℕ) → m.0.opened ≡ Some origin → IsWorkerSeat m w o read seen → m' ≡ (told_box origin.load m.0 t spare, []) → HasEnded origin.load.procs o.txn t →
    IsWorkerSeat m' w (record o { txn = t; spare = spare; mark = None }) read seen
seat_ended origin m m' w o t spare read seen opened s knows q =
    let l : Load = origin.load in
    let work = work_at origin m w o read seen opened s in
    let f = work.fits in
    let wk : Worker = next_worker l work.worker t in
    let gone : hand_in l.procs t ≡ None = ap (shown_of l.procs t.worker) q.gone in
    let none : is_some t.hand ≡ false = ap is_some q.gone in
    let no_post : next_action t ≡ action.Post → ⊥ = (λ e. not_both false refl (ap is_post (sym (ap next_of q.gone) ∙ e))) in
    seat_shown origin m m' w o (record o { txn = t; spare = spare; mark = None }) read seen opened s (with_box s.role wk spare) wk refl
    (knows ∙ ap (λ (v : Knows). (v, [])) (told_box_is origin m.0 t spare w s.role work.worker s.seat.roles work.share))
    (ap (λ (y : Worker). worker_of l.procs y t) (begun_own l work.worker o q.ends.hand q.ends.is work.shows) ∙ ap (worker_in l.procs t.worker (own_worker l o)) q.gone ∙ ap (λ (y : Option Hand). record (own_worker l o) { hand = y }) (sym gone))
    refl
    (record {
      worker = ap (λ (y : PlainTxn). y.worker) q.worker.same ∙ f.worker;
      width = ap (λ (y : PlainTxn). y.width) q.worker.same ∙ f.width;
      mode = ap (λ (y : PlainTxn). y.mode) q.worker.same ∙ f.mode;
      runs = q.worker.runs;
      stays = none ∙ sym (ap is_some gone);
      call = λ y g. absurd (let bad : None ≡ Some y = sym gone ∙ g in cc);
      low = f.low;
      high = f.high;
      again = f.again;
      mark = λ k e. absurd (let bad : None ≡ Some k = e in cc);
      left = f.left;
      leaves = λ g. absurd (not_both (is_some t.hand) none g);
      ends = λ g. absurd (not_both (is_some t.hand) none g);
      posts = λ g. absurd (no_post g);
      commits = λ g j. absurd (not_both (is_some t.hand) none g);
    })
    refl no_post

-- room was made in its outbox
pub seat_room : (origin : Plain) (m m' : Sat) (w : ℕ) (o : PlainWork) (spare : ℕ × ℕ) (read : ℕ × List ℕ) (seen : List ℕ) → m.0.opened ≡ Some origin → IsWorkerSeat m w o read seen → m' ≡ (told_room m.0 spare, []) → o.spare.0 ≤ spare.0 → o.spare.1 ≤ spare.1 →
    IsWorkerSeat m' w (record o { spare = spare }) read seen
seat_room origin m m' w o spare read seen opened s knows records calls =
    let f = s.work.fits in
    subst (λ (x : Sat). IsWorkerSeat x w (record o { spare = spare }) read seen) (sym (knows ∙ ap (λ (v : Knows). (v, [])) (told_room_is m.0 spare w s.role s.seat.roles))) (record {
      origin = s.origin;
      role = record s.role { spare = spare };
      seat = record { opened = s.seat.opened; roles = refl; idle = refl; none = refl };
      work = record {
        worker = s.work.worker;
        share = s.work.share;
        there = s.work.there;
        shows = by_mark o.mark s.work.shows;
        fits = record {
          worker = f.worker;
          width = f.width;
          mode = f.mode;
          runs = f.runs;
          stays = f.stays;
          call = f.call;
          low = f.low;
          high = f.high;
          again = f.again;
          mark = f.mark;
          left = f.left;
          leaves = f.leaves;
          ends = λ e. more o.spare.1 spare.1 (f.ends e) calls;
          posts = λ e. more o.spare.0 spare.0 (f.posts e) records;
          commits = f.commits;
        };
        spare = refl;
      };
      read_is = s.read_is;
      read_wide = s.read_wide;
      seen_is = s.seen_is;
      seen_wide = s.seen_wide;
      posts = λ e. (let p = s.posts e in record { hand = p.hand; act = p.act; base = p.base; next = p.next; is = p.is; phase = p.phase; starts = p.starts; past = p.past; small = p.small; stream = p.stream; named = p.named; spelled = p.spelled });
    })
  where
    more : (a b : ℕ) → 1 ≤ a → a ≤ b → 1 ≤ b
    more a b h k = omega arith

    by_mark : (k : Option Mark) → ShowsWorker s.origin.load s.work.worker o k → ShowsWorker s.origin.load s.work.worker (record o { spare = spare }) k
    by_mark None h = h
    by_mark (Some k) h = h
