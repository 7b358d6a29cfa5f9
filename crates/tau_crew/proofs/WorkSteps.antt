-- A worker's seat after each of its steps.
use Rattle.std.proofs.Common.{ℕ, ◌-◌, ◌≡◌, Bool, true, false, arith, List, [], ◌∷◌, ◌++◌, length, refl, sym, ap, subst, ◌∙◌, Option, inl, inr}
use Rattle.std.specs.Prelude.{Some, None, Result, Ok, Err}
use Rattle.std.proofs.lemmas.Bool.Decides.{leb_tells}
use Rattle.tau_base.specs.declared.value.Key.{Key}
use Rattle.tau_base.specs.declared.value.Mode.{Mode}
use Rattle.tau_base.specs.declared.value.NoMemory.{NoMemory}
use Rattle.tau_base.specs.declared.value.Value.{Value}
use Rattle.tau_proc.specs.declared.reply.Reply.{Reply}
use Rattle.tau_proc.specs.declared.reply.Want.{Want}
use Rattle.tau_proc.specs.declared.reply.Want.TheVariants as want
use Rattle.tau_proc.specs.Progress.{next_want}
use Rattle.tau_model.specs.declared.committed.Committed.{Committed}
use Rattle.tau_machine.specs.Hands.{Hand, Phase, act_in, act_of}
use Rattle.tau_machine.specs.Hands as theory
use Rattle.tau_machine.specs.Worker.{Worker, begun}
use Rattle.tau_txn.specs.Actions.{frees}
use Rattle.tau_txn.specs.Hand.{PlainHand}
use Rattle.tau_txn.specs.Next.{frees_on, kind_of, next_action, next_by, next_of}
use Rattle.tau_txn.specs.Txn.{PlainTxn, hand_in, has_joined, held_in, joined_by, joined_of, leaves_in, shown_of}
use Rattle.tau_txn.specs.declared.action.Action.{Action}
use Rattle.tau_txn.specs.declared.action.Action.TheVariants as action
use Rattle.tau_txn.specs.declared.action.ActionKind.{ActionKind}
use Rattle.tau_txn.specs.declared.action.ActionKind.TheVariants as kind
use Rattle.tau_txn.specs.declared.standing.Standing.{Standing}
use Rattle.tau_txn.specs.declared.standing.Standing.TheVariants as standing
use Rattle.tau_core.specs.Begins.{number_by}
use Rattle.tau_core.specs.State.{Plain}
use Rattle.tau_core.specs.View.{again_in, every, from_on}
use Rattle.tau_core.specs.declared.state.Load.{Load}
use Rattle.tau_core.proofs.FirstSteps.{drop_past}
use Rattle.tau_rule.specs.Role.{Role}
use Rattle.tau_rule.specs.Steps.{Sat, first_role, next_worker, worker_in, worker_in_share}
use Rattle.tau_desk.specs.Acts.{SameWorker}
use Rattle.tau_desk.specs.Anchors.{ReadsAnchor}
use Rattle.tau_desk.specs.Manages.{told_found}
use Rattle.tau_desk.specs.Seats.{PlainWorkerSeat, Works}
use Rattle.tau_desk.specs.Shares.{PlainWork, ShowsWorker, own_worker}
use Rattle.tau_desk.specs.Works.{BeginsBy, BeginsIn, BeginsNext, CommitsOn, EndsOn, EndsReadingOn, FirstFreesOn, FreesOn, GoesOn, IsSameSeat, JoinsOn, Leaves, LeavesBy, LocksOn, PostsOn, QuitsOn, RoomOn, joined_worker, leaves_of}
use Rattle.tau_desk.specs.declared.mark.Mark.{Mark}
use Rattle.tau_desk.specs.declared.work.Acted.{Acted}
use Rattle.tau_desk.specs.declared.work.Acted.TheVariants as acted
use Rattle.tau_desk.proofs.CallBegins.{rests_own}
use Rattle.tau_desk.proofs.GoingOn.{begun_own, joined_is, joined_at, seat_origin}
use Rattle.tau_crew_facts.specs.Ends.{IsLoose}
use Rattle.tau_run.specs.Keeping.{Keeps}
use Rattle.tau_run.proofs.Keeping.{itself, keeps_on}
use Rattle.tau_crew.specs.Working.{IsBare, IsSteady, IsUnjoined, WorksOn, has_raised, worker_at}
use Rattle.tau_crew.proofs.WorkKeeps.{keeps_busy, keeps_committed, keeps_ended, keeps_ended_reading, keeps_first_freed, keeps_freed, keeps_locked, keeps_posted, keeps_quit}
use Rattle.tau_base.proofs.Logic.{not_both}
use Rattle.tau_desk.proofs.WorkerUndoes.{shown_held}

-- ---- one step after another

-- nothing changed of what the seat knows of its worker
pub works_still : (s s' : PlainWorkerSeat) → IsSameSeat s s' → has_raised s' ≡ has_raised s → worker_at s' ≡ worker_at s → (leaves_in s.work.txn ≡ false → leaves_in s'.work.txn ≡ false) → (IsBare s → IsBare s') → WorksOn s s'
works_still s s' same raised worker stays bare = record {
  seat = same;
  raised = raised;
  stays = stays;
  bare = bare;
  keeps = λ st. subst (Keeps (worker_at s)) (sym worker) (itself (worker_at s) st.0);
}

pub works_unchanged : (s s' : PlainWorkerSeat) → s' ≡ s → WorksOn s s'
works_unchanged s s' e =
    subst (λ (x : PlainWorkerSeat). WorksOn s x) (sym e) (works_still s s (refl, refl, refl, refl) refl refl (λ x. x) (λ x. x))

pub works_none : (s : PlainWorkerSeat) → WorksOn s s
works_none s = works_unchanged s s refl

pub works_then : (a b c : PlainWorkerSeat) → WorksOn a b → WorksOn b c → WorksOn a c
works_then a b c p q = record {
  seat = (q.seat.0 ∙ p.seat.0, q.seat.1 ∙ p.seat.1, q.seat.2 ∙ p.seat.2, q.seat.3 ∙ p.seat.3);
  raised = q.raised ∙ p.raised;
  stays = λ e. q.stays (p.stays e);
  bare = λ e. q.bare (p.bare e);
  keeps = λ st. (let k = p.keeps st in keeps_on (worker_at a) (worker_at b) (worker_at c) k (q.keeps (k.steady, p.stays st.1)));
}

-- ---- what a seat knows of its worker

pub worker_is : (s : PlainWorkerSeat) (a : Works s) → worker_at s ≡ a.work.worker
worker_is s a = ap (λ (r : List (ℕ × Role)). worker_in_share (first_role r).1.share) a.seat.roles ∙ ap worker_in_share a.work.share

module _ (origin : Plain) (s : PlainWorkerSeat) (a : Works s) (opened : s.me.0.opened ≡ Some origin) where
  origin_is : a.origin ≡ origin
  origin_is = seat_origin origin s.me s.worker s.work s.read s.seen opened a

  pub tie : (h : Hand) → hand_in origin.load.procs s.work.txn ≡ Some h → (begun origin.load.streams (worker_at s)).hand ≡ Some h
  tie = subst (λ (p : Plain). (h : Hand) → hand_in p.load.procs s.work.txn ≡ Some h → (begun p.load.streams (worker_at s)).hand ≡ Some h) origin_is
      (λ h e. ap (λ (x : Worker). (begun a.origin.load.streams x).hand) (worker_is s a) ∙ ap (λ (x : Worker). x.hand) (begun_own a.origin.load a.work.worker s.work h e a.work.shows) ∙ e)

  pub width_is : s.work.txn.width ≡ origin.load.streams
  width_is = subst (λ (p : Plain). s.work.txn.width ≡ p.load.streams) origin_is a.work.fits.width

  -- a worker with no call in hand is what its seat has
  pub rests_is : s.work.txn.hand ≡ None → worker_at s ≡ own_worker origin.load s.work
  rests_is e = subst (λ (p : Plain). worker_at s ≡ own_worker p.load s.work) origin_is
      (worker_is s a ∙ rests_own a.origin.load a.work.worker s.work (ap (shown_of a.origin.load.procs s.work.txn.worker) e) a.work.shows)

  pub rests_hand : s.work.txn.hand ≡ None → (worker_at s).hand ≡ None
  rests_hand e = ap (λ (x : Worker). x.hand) (rests_is e) ∙ ap (shown_of origin.load.procs s.work.txn.worker) e

  -- where it has no call left, none waits
  pub none_waits : s.work.txn.hand ≡ None → number_by (length origin.load.calls) s.work.next s.work.again ≡ None → (worker_at s).waiting ≡ []
  none_waits e none = ap (λ (x : Worker). x.waiting) (rests_is e) ∙ by_again s.work.again refl none
    where
      by_again : (x : Option ℕ) → s.work.again ≡ x → number_by (length origin.load.calls) s.work.next x ≡ None → again_in origin.load.calls s.work.again ++ from_on origin.load.calls origin.load.workers s.work.next ≡ []
      by_again (Some k) is f = absurd (let bad : Some k ≡ None = f in cc)
      by_again None is f = elim (leb_tells s.work.next (length origin.load.calls)) [
        | inl le ↦ absurd (let bad : Some s.work.next ≡ None = (let u = rw le.0 at f in u) in cc)
        | inr gt ↦
            (λ i. again_in origin.load.calls (is i) ++ from_on origin.load.calls origin.load.workers s.work.next)
            ∙ ap (every origin.load.workers 0 s.work.next) (drop_past (s.work.next - 1) origin.load.calls (let u = gt.1 in omega arith))
      ]

-- ---- the steps

-- a call that is left over goes to the others that are
left_stays : (o o' : PlainWork) → Leaves o o' → leaves_in o.txn ≡ false → leaves_in o'.txn ≡ false
left_stays o o' r e = by_hand o.txn.hand r
  where
    same : o' ≡ o → leaves_in o'.txn ≡ false
    same f = ap (λ (x : PlainWork). leaves_in x.txn) f ∙ e

    by_standing : (st : Standing) (h : PlainHand) → LeavesBy st h o o' → leaves_in o'.txn ≡ false
    by_standing standing.LeftOver h f = ap leaves_in f.0
    by_standing standing.Running h f = same f
    by_standing standing.Quitting h f = same f
    by_standing standing.Placed h f = same f
    by_standing standing.Freeing h f = same f

    by_hand : (x : Option PlainHand) → leaves_of x o o' → leaves_in o'.txn ≡ false
    by_hand None f = same f
    by_hand (Some h) f = by_standing h.standing h f

left_bare : (o o' : PlainWork) → Leaves o o' → o.mark ≡ None → o'.mark ≡ None
left_bare o o' r e = by_hand o.txn.hand r
  where
    same : o' ≡ o → o'.mark ≡ None
    same f = ap (λ (x : PlainWork). x.mark) f ∙ e

    by_standing : (st : Standing) (h : PlainHand) → LeavesBy st h o o' → o'.mark ≡ None
    by_standing standing.LeftOver h f = ap (λ (x : PlainWork). x.mark) f.2 ∙ e
    by_standing standing.Running h f = same f
    by_standing standing.Quitting h f = same f
    by_standing standing.Placed h f = same f
    by_standing standing.Freeing h f = same f

    by_hand : (x : Option PlainHand) → leaves_of x o o' → o'.mark ≡ None
    by_hand None f = same f
    by_hand (Some h) f = by_standing h.standing h f

module _ (origin : Plain) (s s' : PlainWorkerSeat) (a : Works s) (opened : s.me.0.opened ≡ Some origin) (same : IsSameSeat s s') where
  abbrev l : Load
  l = origin.load

  abbrev wk : Worker
  wk = worker_at s

  -- the seat knows the worker that has this in hand now
  now_is : (next : Worker) (raised : has_raised s' ≡ has_raised s) (t : PlainTxn) (bare : s'.work.mark ≡ None) → worker_at s' ≡ next → (leaves_in s.work.txn ≡ false → leaves_in t ≡ false) → (leaves_in t ≡ false → leaves_in s'.work.txn ≡ false) → (IsSteady s → Keeps wk next) → WorksOn s s'
  now_is next raised t bare worker first then k = record {
    seat = same;
    raised = raised;
    bare = λ _ _. bare;
    stays = λ e. then (first e);
    keeps = λ st. subst (Keeps wk) (sym worker) (k st);
  }

  went : (t : PlainTxn) → SameWorker l.procs s.work.txn t → GoesOn l s s' t → (IsSteady s → Keeps wk (next_worker l wk t)) → WorksOn s s'
  went t w g k =
      now_is (next_worker l wk t) (ap (λ (m : Sat). (first_role m.0.roles).1.raised) g.me) t (left_bare (record s.work { txn = t; mark = None }) s'.work g.leaves refl) (ap (λ (m : Sat). worker_in m.0) g.me) w.stays
      (left_stays (record s.work { txn = t; mark = None }) s'.work g.leaves) k

  pub works_locked : (r : Acted) → LocksOn l s s' r → WorksOn s s'
  works_locked acted.Went q = went q.0 q.1.worker q.2 (λ st. keeps_locked l wk s.work.txn q.0 (tie origin s a opened) (width_is origin s a opened) st.0 q.1)
  works_locked acted.Busy q = went q.0 q.1.worker q.2 (λ st. keeps_busy l wk s.work.txn q.0 (tie origin s a opened) (width_is origin s a opened) st.0 q.1)
  works_locked acted.Other q = works_unchanged s s' q
  works_locked acted.NoMemory q = works_unchanged s s' q

  pub works_quit : (r : Acted) → QuitsOn l s s' r → WorksOn s s'
  works_quit acted.Went q = went q.0 q.1.worker q.2 (λ st. keeps_quit l wk s.work.txn q.0 (tie origin s a opened) (width_is origin s a opened) st.0 st.1 q.1)
  works_quit acted.Busy q = absurd q
  works_quit acted.Other q = works_unchanged s s' q
  works_quit acted.NoMemory q = absurd q

  pub works_freed : (r : Acted) → has_joined s.work.txn ≡ true → FreesOn l s s' r → WorksOn s s'
  works_freed acted.Went joined q = went q.0 q.1.worker q.2 (λ st. keeps_freed l wk s.work.txn q.0 (tie origin s a opened) (width_is origin s a opened) st.0 joined q.1)
  works_freed acted.Busy joined q = absurd q
  works_freed acted.Other joined q = works_unchanged s s' q
  works_freed acted.NoMemory joined q = absurd q

  joins : (t : PlainTxn) (start : ℕ) (kept : Committed) → SameWorker l.procs s.work.txn t → JoinsOn l s s' t start kept → (IsSteady s → Keeps wk (joined_worker l wk t kept)) → WorksOn s s'
  joins t start kept w g k =
      now_is (joined_worker l wk t kept) (ap (λ (m : Sat). (first_role m.0.roles).1.raised) g.me) t (ap (λ (o : PlainWork). o.mark) g.work) (ap (λ (m : Sat). worker_in m.0) g.me) w.stays
      (λ e. ap (λ (o : PlainWork). leaves_in o.txn) g.work ∙ e) k

  pub works_committed : (r : Acted) → CommitsOn l s s' r → WorksOn s s'
  works_committed acted.Went q =
      joins q.0 q.1 q.2 q.3.worker q.4 (λ st. keeps_committed l wk s.work.txn q.0 (tie origin s a opened) (width_is origin s a opened) st.0 s.read.0 q.1 s.read.1 q.2 q.3)
  works_committed acted.Busy q = absurd q
  works_committed acted.Other q = works_unchanged s s' q
  works_committed acted.NoMemory q = works_unchanged s s' q

  pub works_first_freed : (r : Acted) → has_joined s.work.txn ≡ false → FirstFreesOn l s s' r → WorksOn s s'
  works_first_freed acted.Went unjoined q =
      joins q.0 s.work.start q.1 q.2.worker q.3 (λ st. keeps_first_freed l wk s.work.txn q.0 (tie origin s a opened) (width_is origin s a opened) st.0 unjoined q.1 q.2)
  works_first_freed acted.Busy unjoined q = absurd q
  works_first_freed acted.Other unjoined q = works_unchanged s s' q
  works_first_freed acted.NoMemory unjoined q = absurd q

  pub works_posted : PostsOn l s s' → WorksOn s s'
  works_posted q =
      now_is (next_worker l wk q.txn) (ap (λ (m : Sat). (first_role m.0.roles).1.raised) q.me) q.txn (ap (λ (x : PlainWorkerSeat). x.work.mark) q.after) (ap (λ (m : Sat). worker_in m.0) q.me) q.posted.worker.stays
      (λ e. ap (λ (x : PlainWorkerSeat). leaves_in x.work.txn) q.after ∙ e) (λ st. keeps_posted l wk s.work.txn q.txn (tie origin s a opened) (width_is origin s a opened) st.0 q.posted)

  pub works_ended : has_joined s.work.txn ≡ true → EndsOn l s s' → WorksOn s s'
  works_ended joined q =
      now_is (next_worker l wk q.txn) (ap (λ (m : Sat). (first_role m.0.roles).1.raised) q.me) q.txn (ap (λ (x : PlainWorkerSeat). x.work.mark) q.after) (ap (λ (m : Sat). worker_in m.0) q.me) q.ended.worker.stays
      (λ e. ap (λ (x : PlainWorkerSeat). leaves_in x.work.txn) q.after ∙ e) (λ st. keeps_ended l wk s.work.txn q.txn (tie origin s a opened) (width_is origin s a opened) st.0 joined q.ended)

  pub works_ended_reading : has_joined s.work.txn ≡ false → EndsReadingOn l s s' → WorksOn s s'
  works_ended_reading unjoined q =
      now_is (joined_worker l wk q.txn q.kept) (ap (λ (m : Sat). (first_role m.0.roles).1.raised) q.me) q.txn (ap (λ (o : PlainWork). o.mark) q.work) (ap (λ (m : Sat). worker_in m.0) q.me) q.ended.worker.stays
      (λ e. ap (λ (o : PlainWork). leaves_in o.txn) q.work ∙ e) (λ st. keeps_ended_reading l wk s.work.txn q.txn (tie origin s a opened) (width_is origin s a opened) st.0 unjoined q.kept q.ended)

-- ---- and those that are no event

same_bare : (s s' : PlainWorkerSeat) → s'.work.txn.hand ≡ s.work.txn.hand → s'.work.mark ≡ s.work.mark → IsBare s → IsBare s'
same_bare s s' hand mark b e = mark ∙ b (sym hand ∙ e)

-- what the seat knows of its roles is the same, and whether its call is given up
pub works_known : (s s' : PlainWorkerSeat) → IsSameSeat s s' → s'.me.0.roles ≡ s.me.0.roles → (leaves_in s.work.txn ≡ false → leaves_in s'.work.txn ≡ false) → (IsBare s → IsBare s') → WorksOn s s'
works_known s s' same roles stays bare =
    works_still s s' same (ap (λ (r : List (ℕ × Role)). (first_role r).1.raised) roles) (ap (λ (r : List (ℕ × Role)). worker_in_share (first_role r).1.share) roles) stays bare

pub works_roomy : (s s' : PlainWorkerSeat) → RoomOn s s' → WorksOn s s'
works_roomy s s' q =
    works_still s s' (ap (λ (x : PlainWorkerSeat). x.table_id) q.after, ap (λ (x : PlainWorkerSeat). x.id) q.after, ap (λ (x : PlainWorkerSeat). x.worker) q.after, ap (λ (m : Sat). m.0.opened) q.me) (ap (λ (m : Sat). (first_role m.0.roles).1.raised) q.me) (ap (λ (m : Sat). worker_in m.0) q.me) (λ e. ap (λ (x : PlainWorkerSeat). leaves_in x.work.txn) q.after ∙ e)
    (same_bare s s' (ap (λ (x : PlainWorkerSeat). x.work.txn.hand) q.after) (ap (λ (x : PlainWorkerSeat). x.work.mark) q.after))

pub works_looked : (s s' : PlainWorkerSeat) (word : ℕ) → s' ≡ record s { me = (told_found s.me.0 word, s.me.1) } → WorksOn s s'
works_looked s s' word e = subst (λ (x : PlainWorkerSeat). WorksOn s x) (sym e) (works_known s (record s { me = (told_found s.me.0 word, s.me.1) }) (refl, refl, refl, refl) refl (λ x. x) (λ x. x))

-- and after it went on
pub works_looked_then : (a b c d : PlainWorkerSeat) (word : ℕ) → WorksOn a b → c ≡ record b { me = (told_found b.me.0 word, b.me.1) } → WorksOn c d → WorksOn a d
works_looked_then a b c d word p e q = works_then a c d (works_then a b c p (works_looked b c word e)) q

pub works_read : (origin : Plain) (s s' : PlainWorkerSeat) → ReadsAnchor origin s s' → WorksOn s s'
works_read origin s s' q =
    works_known s s' (ap (λ (x : PlainWorkerSeat). x.table_id) q.after, ap (λ (x : PlainWorkerSeat). x.id) q.after, ap (λ (x : PlainWorkerSeat). x.worker) q.after, ap (λ (x : PlainWorkerSeat). x.me.0.opened) q.after)
    (ap (λ (x : PlainWorkerSeat). x.me.0.roles) q.after) (λ e. ap (λ (x : PlainWorkerSeat). leaves_in x.work.txn) q.after ∙ e)
    (same_bare s s' (ap (λ (x : PlainWorkerSeat). x.work.txn.hand) q.after) (ap (λ (x : PlainWorkerSeat). x.work.mark) q.after))

some_not_none : (o : Option Hand) (h : Hand) → o ≡ Some h → o ≡ None → ⊥
some_not_none o h e f = (let bad : Some h ≡ None = sym e ∙ f in cc)

begun_some : (ld : Load) (o o' : PlainWork) (g : BeginsNext ld o o') → o'.txn.hand ≡ None → ⊥
begun_some ld o o' g none = some_not_none (hand_in ld.procs o'.txn) _ g.begun (ap (shown_of ld.procs o'.txn.worker) none)

pub works_begun : (ld : Load) (s s' : PlainWorkerSeat) (r : Result Bool NoMemory) → BeginsIn ld s.work s'.work r → s' ≡ record s { work = s'.work } → WorksOn s s'
works_begun ld s s' r q e =
    works_known s s' (ap (λ (x : PlainWorkerSeat). x.table_id) e, ap (λ (x : PlainWorkerSeat). x.id) e, ap (λ (x : PlainWorkerSeat). x.worker) e, ap (λ (x : PlainWorkerSeat). x.me.0.opened) e)
    (ap (λ (x : PlainWorkerSeat). x.me.0.roles) e) (stays r q) (bare r q)
  where
    by_begun : (b : Bool) → BeginsBy ld s.work s'.work b → leaves_in s.work.txn ≡ false → leaves_in s'.work.txn ≡ false
    by_begun true g f = g.stays
    by_begun false g f = ap (λ (o : PlainWork). leaves_in o.txn) g.0 ∙ f

    stays : (x : Result Bool NoMemory) → BeginsIn ld s.work s'.work x → leaves_in s.work.txn ≡ false → leaves_in s'.work.txn ≡ false
    stays (Ok b) g f = by_begun b g f
    stays (Err x) g f = ap (λ (o : PlainWork). leaves_in o.txn) g.others ∙ f

    kept : s'.work.txn.hand ≡ s.work.txn.hand → s'.work.mark ≡ s.work.mark → IsBare s → IsBare s'
    kept hand mark = same_bare s s' hand mark

    bare_by : (b : Bool) → BeginsBy ld s.work s'.work b → IsBare s → IsBare s'
    bare_by true g f = λ none. absurd (begun_some ld s.work s'.work g none)
    bare_by false g f = kept (ap (λ (o : PlainWork). o.txn.hand) g.0) (ap (λ (o : PlainWork). o.mark) g.0) f

    bare : (x : Result Bool NoMemory) → BeginsIn ld s.work s'.work x → IsBare s → IsBare s'
    bare (Ok b) g = bare_by b g
    bare (Err x) g = kept (ap (λ (o : PlainWork). o.txn.hand) g.others) (ap (λ (o : PlainWork). o.mark) g.others)

-- ---- which calls have not joined

-- what a call does before it joins the committed ones
abbrev pub is_before : ActionKind → Bool
is_before kind.Lock = true
is_before kind.Commit = true
is_before kind.Quit = false
is_before kind.Post = false
is_before kind.Free = false
is_before kind.Done = false
is_before kind.LeftOver = false
is_before kind.Nothing = false

frees_after : (r : Reply) (lv : List ℕ) (ws : List (Key × Value)) (ks : List (Key × Mode)) → is_before (kind_of (frees r lv ws ks)) ≡ false
frees_after r lv ws [] = refl
frees_after r lv ws (k ∷ ks) = refl

freed_after : (w : Want) (h : PlainHand) → is_before (kind_of (frees_on w h)) ≡ false
freed_after (want.Read x) h = refl
freed_after (want.Write x) h = refl
freed_after (want.Finished r) h = frees_after r _ _ h.held

pub before_joining : (t : PlainTxn) → is_before (kind_of (next_action t)) ≡ true → has_joined t ≡ false
before_joining t e = by_hand t.hand e
  where
    by_standing : (st : Standing) (h : PlainHand) → is_before (kind_of (next_by st h)) ≡ true → joined_by st ≡ false
    by_standing standing.Running h f = refl
    by_standing standing.Quitting h f = refl
    by_standing standing.LeftOver h f = refl
    by_standing standing.Placed h f = absurd (not_both false refl f)
    by_standing standing.Freeing h f = absurd (not_both _ (freed_after (next_want h.machine) h) f)

    by_hand : (x : Option PlainHand) → is_before (kind_of (next_of x)) ≡ true → joined_of x ≡ false
    by_hand None f = refl
    by_hand (Some h) f = by_standing h.standing h f

-- a call that locks, or is to get the place of its record, has not joined
post_other : (t : PlainTxn) → is_before (kind_of (next_action t)) ≡ true → next_action t ≡ action.Post → ⊥
post_other t e p = not_both false refl (sym (ap (λ (x : Action). is_before (kind_of x)) p) ∙ e)

pub unjoined_before : (t : PlainTxn) → is_before (kind_of (next_action t)) ≡ true → IsUnjoined t
unjoined_before t e = record { joined = before_joining t e; posted = post_other t e }

-- and so has none in hand
post_none : (t : PlainTxn) → t.hand ≡ None → next_action t ≡ action.Post → ⊥
post_none t none p = (let bad : action.Nothing ≡ action.Post = sym (ap next_of none) ∙ p in cc)

pub unjoined_none : (t : PlainTxn) → t.hand ≡ None → IsUnjoined t
unjoined_none t none = record { joined = ap joined_of none; posted = post_none t none }

pub unjoined_same : (t t' : PlainTxn) → t' ≡ t → IsUnjoined t → IsUnjoined t'
unjoined_same t t' e u = subst IsUnjoined (sym e) u

-- ---- a call that holds no key and has not joined

unplaced : (p : Phase) → joined_at p ≡ false → act_of p ≡ None
unplaced theory.Running e = refl
unplaced theory.Quitting e = refl
unplaced (theory.Placed act) e = absurd (not_both true e refl)
unplaced (theory.Freeing act) e = absurd (not_both true e refl)

pub loose_hand : (s : PlainWorkerSeat) → Works s → held_in s.work.txn ≡ [] → has_joined s.work.txn ≡ false → IsLoose (worker_at s).hand
loose_hand s a held unjoined = subst (λ (x : Worker). IsLoose x.hand) (sym (worker_is s a)) (by_mark s.work.mark a.work.shows)
  where
    by_shown : (o : Option Hand) → hand_in a.origin.load.procs s.work.txn ≡ o → IsLoose o
    by_shown None e = tt
    by_shown (Some h) e = (unplaced h.phase (sym (joined_is a.origin.load.procs s.work.txn h e) ∙ unjoined), sym (shown_held a.origin.load.procs s.work.txn h e) ∙ held)

    by_mark : (m : Option Mark) → ShowsWorker a.origin.load a.work.worker s.work m → IsLoose a.work.worker.hand
    by_mark None e = subst (λ (x : Worker). IsLoose x.hand) (sym e) (by_shown (hand_in a.origin.load.procs s.work.txn) refl)
    by_mark (Some m) e = subst (λ (x : Worker). IsLoose x.hand) (sym e.0) tt
