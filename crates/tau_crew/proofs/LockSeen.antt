-- An optimistic worker peeks and locks.
use Rattle.std.proofs.Common.{◌≡◌, true, List, Option, refl}
use Rattle.std.specs.Prelude.{Some, None, Ok, Err, OnErr, Result, is_some}
use Rattle.tau_base.specs.declared.value.Key.{Key}
use Rattle.tau_base.specs.declared.value.Value.{Value}
use Rattle.tau_txn.specs.Hand.{PlainHand}
use Rattle.tau_txn.specs.Next.{kind_of, next_action, next_of}
use Rattle.tau_txn.specs.Txn.{PlainTxn}
use Rattle.tau_txn.specs.declared.action.ActionKind.TheVariants as kind
use Rattle.tau_core.specs.State.{Plain}
use Rattle.tau_desk.specs.Peeks.{LocksSeenOn}
use Rattle.tau_desk.specs.Seats.{PlainWorkerSeat, Works}
use Rattle.tau_desk.specs.Works.{IsSameSeat, LocksOn}
use Rattle.tau_desk.specs.declared.work.Acted.{Acted}
use Rattle.tau_desk.specs.declared.work.Acted.TheVariants as acted
use Rattle.tau_crew.specs.Working.{WorksOn}
use Rattle.tau_crew.proofs.WorkSteps.{works_locked}

-- a call that locks is in hand
pub lock_in_hand : (t : PlainTxn) → kind_of (next_action t) ≡ kind.Lock → is_some t.hand ≡ true
lock_in_hand t e = by_hand t.hand e
  where
    by_hand : (x : Option PlainHand) → kind_of (next_of x) ≡ kind.Lock → is_some x ≡ true
    by_hand None f = absurd (let bad : kind.Nothing ≡ kind.Lock = f in cc)
    by_hand (Some h) f = refl

-- what was peeked left out, it is a lock
locks_on : (origin : Plain) (seen : List (Key × Value)) (s s' : PlainWorkerSeat) (r : Acted) → LocksSeenOn origin seen s s' r → LocksOn origin.load s s' r
locks_on origin seen s s' acted.Went q = (q.0, q.1, q.3)
locks_on origin seen s s' acted.Busy q = (q.0, q.1, q.3)
locks_on origin seen s s' acted.Other q = q
locks_on origin seen s s' acted.NoMemory q = q

pub works_seen : (origin : Plain) (seen : List (Key × Value)) (s s' : PlainWorkerSeat) (a : Works s) (opened : s.me.0.opened ≡ Some origin) (same : IsSameSeat s s') (r : Acted) → LocksSeenOn origin seen s s' r → WorksOn s s'
works_seen origin seen s s' a opened same r q = works_locked origin s s' a opened same r (locks_on origin seen s s' r q)

pub on_err : {A E P : Type 0} (r : Result A E) → P → OnErr r P
on_err (Ok x) p = tt
on_err (Err e) p = p
