-- How the loop of a worker ends.
use Rattle.std.proofs.Common.{ℕ, ◌≡◌, ◌⊎◌, ◌≤◌, Bool, true, false, arith, [], length, refl, sym, ap, subst, ◌∙◌, Option, inl, inr}
use Rattle.std.specs.Prelude.{Some, None, Result, Ok, Err, IfOk, OnErr}
use Rattle.std.proofs.lemmas.Bool.Decides.{leb_tells}
use Rattle.tau_base.specs.declared.value.NoMemory.{NoMemory}
use Rattle.tau_txn.specs.Txn.{held_by, held_in, leaves_by}
use Rattle.tau_core.specs.Begins.{number_by}
use Rattle.tau_core.specs.State.{Plain}
use Rattle.tau_core.specs.declared.state.Load.{Load}
use Rattle.tau_desk.specs.Resumes.{RestsWork}
use Rattle.tau_desk.specs.Seats.{PlainWorkerSeat, Works}
use Rattle.tau_desk.specs.Shares.{PlainWork}
use Rattle.tau_desk.specs.Works.{BeginsIn, IsSameSeat, undone}
use Rattle.tau_crew.specs.Working.{HasNone, HasRun, IsBare, IsSteady, IsUnjoined, WorkerEnds, WorksOn, has_raised}
use Rattle.tau_crew.proofs.WorkSteps.{loose_hand, none_waits, rests_hand, unjoined_none}

pub same_then : (a b c : PlainWorkerSeat) → IsSameSeat a b → IsSameSeat b c → IsSameSeat a c
same_then a b c p q = (q.0 ∙ p.0, q.1 ∙ p.1, q.2 ∙ p.2, q.3 ∙ p.3)

-- a worker that has no call to begin
pub has_none : (origin : Plain) (s : PlainWorkerSeat) → Works s → s.me.0.opened ≡ Some origin → s.work.txn.hand ≡ None → number_by (length origin.load.calls) s.work.next s.work.again ≡ None → HasNone origin.load s
has_none origin s a opened hand none = (none_waits origin s a opened hand none, none)

rests_work : (l : Load) (s : PlainWorkerSeat) → s.work.txn.hand ≡ None → IsBare s → number_by (length l.calls) s.work.next s.work.again ≡ None → RestsWork (length l.calls) s.work
rests_work l s hand bare none = by_again s.work.again refl none
  where
    by_again : (x : Option ℕ) → s.work.again ≡ x → number_by (length l.calls) s.work.next x ≡ None → RestsWork (length l.calls) s.work
    by_again (Some k) is f = absurd (let bad : Some k ≡ None = f in cc)
    by_again None is f = elim (leb_tells s.work.next (length l.calls)) [
      | inl le ↦ absurd (let bad : Some s.work.next ≡ None = (let u = rw le.0 at f in u) in cc)
      | inr gt ↦ record { hand = hand; begun = bare hand; again = is; next = (let u = gt.1 in omega (arith, u)) }
    ]

-- what comes of the beginning of the next call
module _ (origin : Plain) (s s' : PlainWorkerSeat) (a : Works s) (opened : s.me.0.opened ≡ Some origin) (hand : s.work.txn.hand ≡ None) (others : s' ≡ record s { work = s'.work }) where
  pub begun_rests : (r : Result Bool NoMemory) → BeginsIn origin.load s.work s'.work r → IfOk r (λ b. b ≡ false → s'.work.txn.hand ≡ None)
  begun_rests (Err e) q = tt
  begun_rests (Ok true) q = λ e. absurd (let bad : true ≡ false = e in cc)
  begun_rests (Ok false) q = λ _. ap (λ (o : PlainWork). o.txn.hand) q.0 ∙ hand

  unbegun_same : s'.work ≡ s.work → s' ≡ s
  unbegun_same e = others ∙ ap (λ (o : PlainWork). record s { work = o }) e

  pub begun_none : (r : Result Bool NoMemory) → BeginsIn origin.load s.work s'.work r → IfOk r (λ b. b ≡ false → HasNone origin.load s')
  begun_none (Err e) q = tt
  begun_none (Ok true) q = λ e. absurd (let bad : true ≡ false = e in cc)
  begun_none (Ok false) q = λ _. subst (HasNone origin.load) (sym (unbegun_same q.0)) (has_none origin s a opened hand q.1)

  pub begun_short : (r : Result Bool NoMemory) → BeginsIn origin.load s.work s'.work r → OnErr r (IsUnjoined s'.work.txn)
  begun_short (Err e) q = unjoined_none s'.work.txn (ap (λ (o : PlainWork). o.txn.hand) q.others ∙ hand)
  begun_short (Ok b) q = tt

-- without a call in hand none is given up
rests_steady : (origin : Plain) (s : PlainWorkerSeat) → Works s → s.me.0.opened ≡ Some origin → s.work.txn.hand ≡ None → IsSteady s
rests_steady origin s a opened hand = ((λ h e. absurd (let bad : None ≡ Some h = sym (rests_hand origin s a opened hand) ∙ e in cc)), ap leaves_by hand)

has_run : (origin : Plain) (s s' : PlainWorkerSeat) → Works s → Works s' → s.me.0.opened ≡ Some origin → s.work.txn.hand ≡ None → WorksOn s s' → s'.work.txn.hand ≡ None → (s'.me.0.found ≡ true) ⊎ HasNone origin.load s' → HasRun origin.load s s'
has_run origin s s' a a' opened rested w hand ended = record {
  hand = hand;
  rests = rests_hand origin s' a' (w.seat.3 ∙ opened) hand;
  keeps = w.keeps (rests_steady origin s a opened rested);
  raised = w.raised;
  bare = w.bare;
  ended = elim ended [ inl found ↦ inl found | inr none ↦ inr none.0 ];
  resting = λ bare. elim ended [ inl found ↦ inl found | inr none ↦ inr (rests_work origin.load s' hand (w.bare bare) none.1) ];
}

-- it ran to its end
pub ends_run : (origin : Plain) (s s' : PlainWorkerSeat) → Works s → Works s' → s.me.0.opened ≡ Some origin → s.work.txn.hand ≡ None → WorksOn s s' → s'.work.txn.hand ≡ None → (s'.me.0.found ≡ true) ⊎ HasNone origin.load s' → (u : Unit {0}) → WorkerEnds origin.load s s' (Ok u)
ends_run origin s s' a a' opened rested w hand ended u =
    let free = unjoined_none s'.work.txn hand in
    let held : held_in s'.work.txn ≡ [] = ap held_by hand in
    record {
      seat = w.seat;
      loose = loose_hand s' a' held free.joined;
      held = held;
      unjoined = free;
      done = has_run origin s s' a a' opened rested w hand ended;
      short = tt;
    }

-- its call was given up, and it raised the stop
pub ends_short : (l : Load) (s s' : PlainWorkerSeat) → Works s' → IsSameSeat s s' → held_in s'.work.txn ≡ [] → IsUnjoined s'.work.txn → has_raised s' ≡ true → (e : NoMemory) → WorkerEnds l s s' (Err e)
ends_short l s s' a same held free raised e = record {
  seat = same;
  loose = loose_hand s' a held free.joined;
  held = held;
  unjoined = free;
  done = tt;
  short = raised;
}

-- a call that is given up and holds no key stays, or is undone
pub record GaveUp (s s' : PlainWorkerSeat) : Type 0 where
  pub seat : IsSameSeat s s'
  pub held : held_in s'.work.txn ≡ []
  pub unjoined : IsUnjoined s'.work.txn

-- ---- what the end of a run in threads wants of a worker
