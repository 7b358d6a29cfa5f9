-- The lock that a worker takes next.
use Rattle.std.proofs.Common.{ℕ, ◌≡◌, Bool, true, false, ◌⊎◌, inl, inr, List, [], length, refl, sym, ap, subst, ◌∙◌, Option}
use Rattle.std.specs.Prelude.{Some, None, is_some, slice_get}
use Rattle.tau_base.specs.declared.value.Call.{Call}
use Rattle.tau_base.specs.declared.value.Key.{Key}
use Rattle.tau_base.specs.declared.value.Mode.{Mode}
use Rattle.tau_base.specs.declared.value.Mode.TheVariants.{Read}
use Rattle.tau_model.specs.History.{Act, updating}
use Rattle.tau_machine.specs.Hands.{Txn, Hand}
use Rattle.tau_machine.specs.Stage.{Stage, Wants, Ends, stage}
use Rattle.tau_machine.specs.Worker.{Worker, begun_by, lock_of}
use Rattle.tau_machine.specs.Events.{ready}
use Rattle.tau_txn.specs.Hand.{PlainHand}
use Rattle.tau_txn.specs.Txn.{hand_in}
use Rattle.tau_core.specs.declared.state.Load.{Load}
use Rattle.tau_core.specs.declared.event.Phase.TheVariants.{Locking}
use Rattle.tau_core.specs.Plain.{PlainSeat}
use Rattle.tau_core.specs.State.{Plain}
use Rattle.tau_core.specs.View.{setting_of, Hidden, core_of, call_of}
use Rattle.tau_core.specs.Stands.{Stands}
use Rattle.tau_core.specs.Begins.{next_number, next_behind}
use Rattle.tau_core.specs.Phases.{finished_phase, running_phase, hand_phase}
use Rattle.tau_core.specs.NextLock.{TellsHand, TellsFirst, TellsLock, IsNextLock, begun_hand}
use Rattle.tau_core.proofs.Seats.{worker_of_seat}
use Rattle.tau_core.proofs.Hands.{hand_gone}
use Rattle.tau_core.proofs.Begins.{ready_in_hand}
use Rattle.tau_core.proofs.Starts.{waiting_next}
use Rattle.tau_core.proofs.FirstSteps.{waits_none}

-- a call that begins and has no lock to take has finished
pub none_first : (l : Load) (n : ℕ) (c : Call) → lock_of (stage l.procs c []) [] ≡ None → hand_phase l.procs (begun_hand l n c) ≡ Locking → ⊥
none_first l n c none e = by_stage (stage l.procs c []) none e
  where
    by_end : (b : Bool) → finished_phase b [] ≡ Locking → ⊥
    by_end true f = cc
    by_end false f = cc

    by_stage : (s : Stage) → lock_of s [] ≡ None → running_phase (lock_of s []) s [] ≡ Locking → ⊥
    by_stage (Wants rs k) f g = (let bad : Some (k, Read) ≡ None = f in cc)
    by_stage (Ends effect) f g = by_end (updating effect.writes) (ap (λ (o : Option (Key × Mode)). running_phase o (Ends effect) []) (sym f) ∙ g)

module _ (p : Plain) (K : List (Act Txn)) (h : Hidden) (g : Stands p K h) (w : ℕ) (s : PlainSeat) (is : slice_get p.seats w ≡ Some s) where
  abbrev worker : Worker
  worker = (core_of p h).workers w

  hand_there : worker.hand ≡ hand_in p.load.procs s.txn
  hand_there = ap (λ (x : Worker). x.hand) (worker_of_seat p h w s s is)

  tells : (o : Option Hand) → (ready (setting_of p.load) (core_of p h) w).hand ≡ o → (r : Option (ℕ × Key × Mode)) → TellsHand p.load.procs o r → TellsLock p h w r
  tells o e r q = subst (λ (x : Option Hand). TellsHand p.load.procs x r) (sym e) q

  some_shown : (o : Option Hand) → hand_in p.load.procs s.txn ≡ o → is_some o ≡ true → (ready (setting_of p.load) (core_of p h) w).hand ≡ hand_in p.load.procs s.txn
  some_shown None e f = absurd (let bad : false ≡ true = f in cc)
  some_shown (Some x) e f = ap (λ (y : Worker). y.hand) (ready_in_hand p.load.streams worker x (hand_there ∙ e)) ∙ hand_there

  there : (o : Option PlainHand) → s.txn.hand ≡ o → (s.txn.hand ≡ None → ⊥) → is_some s.txn.hand ≡ true
  there None e ne = absurd (ne e)
  there (Some x) e ne = ap is_some e

  begins_next : s.txn.hand ≡ None → (n : ℕ) (c : Call) → next_number (length p.load.calls) s ≡ Some n → call_of p.load.calls n ≡ Some c → (ready (setting_of p.load) (core_of p h) w).hand ≡ begun_hand p.load n c
  begins_next none n c next call =
      let new : PlainSeat = record s { next = next_behind p.load.workers s.next s.again; again = None } in
      let waits = waiting_next p.load w s new n c (g.sound.seat w s is) g.sound.workers_low next call refl refl in
      let waiting = ap (λ (x : Worker). x.waiting) (worker_of_seat p h w s s is) ∙ waits in
      λ i. (begun_by p.load.streams worker ((hand_there ∙ hand_gone p.load.procs s.txn none) i) (waiting i)).hand

  begins_none : s.txn.hand ≡ None → next_number (length p.load.calls) s ≡ None → (ready (setting_of p.load) (core_of p h) w).hand ≡ None
  begins_none none next =
      let gone : worker.hand ≡ None = hand_there ∙ hand_gone p.load.procs s.txn none in
      let waiting : worker.waiting ≡ [] = ap (λ (x : Worker). x.waiting) (worker_of_seat p h w s s is) ∙ waits_none p.load s next in
      (λ i. (begun_by p.load.streams worker (gone i) (waiting i)).hand) ∙ gone

  pub next_tells : (r : Option (ℕ × Key × Mode)) → IsNextLock p.load s r → TellsLock p h w r
  next_tells r (inl q) =
      let o = g.sound.seat w s is in
      tells (hand_in p.load.procs s.txn) (some_shown (hand_in p.load.procs s.txn) refl (sym o.txn.stays ∙ there s.txn.hand refl q.0)) r q.1
  next_tells r (inr q) = by_next q.0 q.1
    where
      by_next : s.txn.hand ≡ None → ((n : ℕ) × (next_number (length p.load.calls) s ≡ Some n) × TellsFirst p.load n r) ⊎ ((next_number (length p.load.calls) s ≡ None) × (r ≡ None)) → TellsLock p h w r
      by_next none (inl a) = tells (begun_hand p.load a.0 a.2.0) (begins_next none a.0 a.2.0 a.1 a.2.1) r a.2.2
      by_next none (inr b) = tells None (begins_none none b.0) r (subst (λ (x : Option (ℕ × Key × Mode)). TellsHand p.load.procs None x) (sym b.1) (λ e. cc))
