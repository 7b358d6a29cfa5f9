-- Lock and Done, also where they begin the worker's next call.
use Rattle.std.proofs.Common.{ℕ, zero, suc, ◌<◌, ◌≤◌, ◌-◌, ◌≡◌, ◌⊎◌, inl, inr, List, [], ◌∷◌, ◌++◌, length, drop, refl, sym, ap, subst, ◌∙◌, Option, arith}
use Rattle.std.specs.Prelude.{Some, None, is_some, slice_get}
use Rattle.tau_model.specs.History.{Act}
use Rattle.tau_machine.specs.Hands.{Txn, Running, Freeing}
use Rattle.tau_model.specs.History.{Numbered}
use Rattle.tau_machine.specs.Worker.{Worker, fresh, begun, begun_by}
use Rattle.tau_base.specs.declared.value.Call.{Call}
use Rattle.std.proofs.lemmas.Bool.Decides.{leb_tells}
use Rattle.tau_machine.specs.State.{Setting, Core, hand_of}
use Rattle.tau_machine.specs.Invariant.{Invariant}
use Rattle.tau_machine.specs.Events as machine
use Rattle.tau_machine.specs.Events.{with_worker, Leads, ready}
use Rattle.tau_machine.proofs.Shapes.{invariant_kept}
use Rattle.tau_shard.proofs.At.{at_same}
use Rattle.tau_txn.specs.Txn.{hand_in}
use Rattle.tau_core.specs.declared.event.Phase.{Phase}
use Rattle.tau_core.specs.declared.event.Phase.TheVariants.{Resting, Locking, Ended}
use Rattle.tau_core.specs.declared.event.Outcome.{Outcome}
use Rattle.tau_core.specs.declared.event.Outcome.TheVariants as outcome
use Rattle.tau_core.specs.declared.state.Load.{Load}
use Rattle.tau_core.specs.Plain.{PlainSeat}
use Rattle.tau_core.specs.State.{Plain}
use Rattle.tau_core.specs.View.{setting_of, Hidden, core_of, again_in, from_on, every}
use Rattle.tau_core.proofs.CallsBegun.{waiting_in}
use Rattle.tau_core.proofs.Begins.{carried, begun_state, reads_lift}
use Rattle.tau_core.proofs.FreeLeads.{finishes, reading_finishes, end_stands}
use Rattle.tau_core.specs.Stands.{Stands, SoundSeat}
use Rattle.tau_core.specs.Phases.{hand_phase}
use Rattle.tau_core.specs.Steps.{Happened, StandsElsewhere, WouldBegin, LockSteps, DoneSteps}
use Rattle.tau_core.specs.Locks.{IsElsewhere, LockedBy}
use Rattle.tau_core.specs.Frees.{EndsCall, DoneBy, JoinsBy}
use Rattle.tau_core.specs.Begins.{HasNext, number_by, next_number, next_behind, Undone}
use Rattle.tau_core.specs.Firsts.{InHand, Rests, BeginsBy, ActsBy, goes, begins, rests}
use Rattle.tau_core.proofs.Seats.{worker_of_seat}
use Rattle.tau_core.proofs.Hands.{hand_gone}
use Rattle.tau_core.proofs.Numbers.{next_is_that}
use Rattle.tau_core.proofs.Starts.{waiting_next}
use Rattle.tau_core.proofs.Steps.{unmoved}
use Rattle.tau_core.proofs.Firsts.{none_some, room_rests}
use Rattle.tau_core.proofs.WorkerSteps.{Began, began, first_granted, first_busy, locks_on, elsewhere_by}
use Rattle.tau_core.proofs.Undone.{room_unmoved, undone_same, undone_short, undone_unmoved}
use Rattle.tau_base.proofs.Lists.{some_at}

-- a worker that rests, whose next call would begin elsewhere
pub rests_elsewhere : (p b : Plain) (K : List (Act Txn)) (h : Hidden) (g : Stands p K h) (w n : ℕ) → w < p.load.workers → Rests p w → Began p b K h w n → (wanted at : Phase) → IsElsewhere b w wanted at → StandsElsewhere p h w wanted Resting
rests_elsewhere p b K h g w n there at_rest a wanted at q =
    let found = some_at p.seats w (let e = g.sound.seats in omega arith) in
    let shown : hand_of (core_of p h) w ≡ None = ap (λ (x : Worker). x.hand) (worker_of_seat p h w found.0 found.0 found.1) ∙ hand_gone p.load.procs found.0.txn (at_rest found.0 found.1) in
    let there_b : w < length b.seats = (let e = a.carries.sound.seats in let l = ap (λ (x : Load). x.workers) a.load in omega arith) in
    let found_b = some_at b.seats w there_b in
    let else_b = q found_b.0 found_b.1 in
    let begun_hand : hand_in b.load.procs found_b.0.txn ≡ (ready (setting_of p.load) (core_of p h) w).hand =
    sym (ap (λ (x : Worker). x.hand) (worker_of_seat b h w found_b.0 found_b.0 found_b.1)) ∙ ap (λ (c : Core). hand_of c w) a.core
    ∙ ap (λ (x : Worker). x.hand) (at_same w (ready (setting_of p.load) (core_of p h) w) (core_of p h).workers) in (
      ap (hand_phase p.load.procs) (sym shown),
      λ f. else_b.1 (else_b.0 ∙ (λ i. hand_phase (a.load i).procs (begun_hand i)) ∙ f),
    )

-- a worker has no call left
pub drop_past : (i : ℕ) (calls : List Call) → length calls ≤ i → drop i calls ≡ []
drop_past zero [] e = refl
drop_past zero (c ∷ cs) e = absurd (omega arith)
drop_past (suc i) [] e = refl
drop_past (suc i) (c ∷ cs) e = drop_past i cs (omega arith)

pub waits_none : (l : Load) (s : PlainSeat) → next_number (length l.calls) s ≡ None → waiting_in l s ≡ []
waits_none l s e = by_again s.again refl e
  where
    by_again : (a : Option ℕ) → s.again ≡ a → number_by (length l.calls) s.next a ≡ None → waiting_in l s ≡ []
    by_again (Some k) is f = absurd (let bad : Some k ≡ None = f in cc)
    by_again None is f = elim (leb_tells s.next (length l.calls)) [
      | inl le ↦ absurd (let bad : Some s.next ≡ None = (let u = rw le.0 at f in u) in cc)
      | inr gt ↦
          (λ i. again_in l.calls (is i) ++ from_on l.calls l.workers s.next)
          ∙ ap (every l.workers 0 s.next) (drop_past (s.next - 1) l.calls (let u = gt.1 in omega arith))
    ]

-- the call in hand has freed all its keys
ends_by : (p p' : Plain) (K : List (Act Txn)) (h : Hidden) (g : Stands p K h) (w : ℕ) (q : EndsCall w p p') → JoinsBy p.load w q.hand q.act q.joined → Happened (machine.Done w) p p' K h ⊎ Happened (machine.DoneReading w) p p' K h
ends_by p p' K h g w q (inl e) =
    let o = g.sound.seat w q.seat q.is in
    let leads : Leads (setting_of p.load) (machine.Done w) (core_of p h) (core_of p' h) [] = (finishes p p' h w q o e.0 e.1, refl) in
    let inv = invariant_kept (setting_of p.load) K (machine.Done w) (core_of p h) (core_of p' h) [] g.inv leads in
    inl (record { hidden = h; joined = []; leads = leads; stands = end_stands p p' h w q o K [] e.1 (carried p K h g) inv; load = ap (λ (x : Plain). x.load) q.after; taken = refl })
ends_by p p' K h g w q (inr e) =
    let o = g.sound.seat w q.seat q.is in
    let first = reading_finishes p p' h w q o e.0 e.1 in
    let leads : Leads (setting_of p.load) (machine.DoneReading w) (core_of p h) (core_of p' h) (q.act ∷ []) = (first.0, q.act, first.1, first.2, refl) in
    let inv = invariant_kept (setting_of p.load) K (machine.DoneReading w) (core_of p h) (core_of p' h) (q.act ∷ []) g.inv leads in
    inr (record { hidden = h; joined = q.act ∷ []; leads = leads; stands = end_stands p p' h w q o K (q.act ∷ []) e.1 (carried p K h g) inv; load = ap (λ (x : Plain). x.load) q.after; taken = refl })

-- a call that begins by it is read-only, without a key
first_done : (p p' b : Plain) (K : List (Act Txn)) (h : Hidden) (g : Stands p K h) (w n : ℕ) (a : Began p b K h w n) → EndsCall w b p' → Happened (machine.Done w) p p' K h ⊎ Happened (machine.DoneReading w) p p' K h
first_done p p' b K h g w n a q = by_joins q.joins
  where
    o : SoundSeat b.load w q.seat
    o = a.carries.sound.seat w q.seat q.is

    by_joins : JoinsBy b.load w q.hand q.act q.joined → Happened (machine.Done w) p p' K h ⊎ Happened (machine.DoneReading w) p p' K h
    by_joins (inl e) = absurd (let bad : Freeing q.act ≡ Running = sym e.0 ∙ a.runs q.seat q.hand q.is q.hand_is in cc)
    by_joins (inr e) =
        let first = reading_finishes b p' h w q o e.0 e.1 in
        let set : Setting = setting_of p.load in
        let moved : machine.Reads set w (begun_state set (core_of p h) w) first.0 q.act × machine.Finishes set w first.0 (core_of p' h) =
        subst (λ (x : Load × Core). machine.Reads (setting_of x.0) w x.1 first.0 q.act × machine.Finishes (setting_of x.0) w first.0 (core_of p' h)) (λ i. (a.load i, a.core i)) (first.1, first.2) in
        let leads : Leads set (machine.DoneReading w) (core_of p h) (core_of p' h) (q.act ∷ []) = (first.0, q.act, reads_lift set (core_of p h) w first.0 q.act moved.0, moved.1, refl) in
        let inv = invariant_kept set K (machine.DoneReading w) (core_of p h) (core_of p' h) (q.act ∷ []) g.inv leads in
        inr (record {
          hidden = h;
          joined = q.act ∷ [];
          leads = leads;
          stands = end_stands b p' h w q o K (q.act ∷ []) e.1 a.carries (subst (λ (l : Load). Invariant (setting_of l) (K ++ q.act ∷ []) (core_of p' h)) (sym a.load) inv);
          load = ap (λ (x : Plain). x.load) q.after ∙ a.load;
          taken = refl;
        })

module _ (p p' : Plain) (K : List (Act Txn)) (h : Hidden) (g : Stands p K h) (w : ℕ) (there : w < p.load.workers) where
  -- a worker that rests and has no call left
  pub none_left : (wanted : Phase) → (Resting ≡ wanted → ⊥) → Rests p w → ((s : PlainSeat) → slice_get p.seats w ≡ Some s → next_number (length p.load.calls) s ≡ None) → StandsElsewhere p h w wanted Resting
  none_left wanted resting at_rest none =
      let found = some_at p.seats w (let e = g.sound.seats in omega arith) in
      let wk : Worker = (core_of p h).workers w in
      let seat_is = worker_of_seat p h w found.0 found.0 found.1 in
      let shown : wk.hand ≡ None = ap (λ (x : Worker). x.hand) seat_is ∙ hand_gone p.load.procs found.0.txn (at_rest found.0 found.1) in
      let waits : wk.waiting ≡ [] = ap (λ (x : Worker). x.waiting) seat_is ∙ waits_none p.load found.0 (none found.0 found.1) in
      let begun_hand : (begun p.load.streams wk).hand ≡ None = (λ i. (begun_by p.load.streams wk (shown i) (waits i)).hand) ∙ shown in
      (ap (hand_phase p.load.procs) (sym shown), λ f. resting (ap (hand_phase p.load.procs) (sym begun_hand) ∙ f))

  -- a worker that rests and has a call left
  pub would_begin : (n : ℕ) → Rests p w → HasNext p w n → WouldBegin p h w
  would_begin n at_rest next =
      let found = some_at p.seats w (let e = g.sound.seats in omega arith) in
      let s : PlainSeat = found.0 in
      let o = g.sound.seat w s found.1 in
      let number = next_is_that p.load w s n o (next s found.1) in
      let wk : Worker = (core_of p h).workers w in
      let seat_is = worker_of_seat p h w s s found.1 in
      let shown : wk.hand ≡ None = ap (λ (x : Worker). x.hand) seat_is ∙ hand_gone p.load.procs s.txn (at_rest s found.1) in
      let behind : PlainSeat = record s { next = next_behind p.load.workers s.next s.again; again = None } in
      let c : Numbered = record { number = n; call = number.call } in
      let waits : wk.waiting ≡ c ∷ waiting_in p.load behind =
      ap (λ (x : Worker). x.waiting) seat_is ∙ waiting_next p.load w s behind n number.call o g.sound.workers_low (next s found.1) number.is refl refl in
      (shown, fresh p.load.streams c 0, λ i. (begun_by p.load.streams wk (shown i) (waits i)).hand)

  lock_begins : (n : ℕ) (o : Outcome) → Rests p w → HasNext p w n → BeginsBy LockedBy w n p o p' → LockSteps p p' K h w o
  lock_begins n (outcome.Granted value) at_rest next q = first_granted p p' q.0 K h g w n (began p q.0 K h g w n q.1 at_rest next) value q.2
  lock_begins n (outcome.Busy holder) at_rest next q = first_busy p p' q.0 K h g w n (began p q.0 K h g w n q.1 at_rest next) holder q.2
  lock_begins n (outcome.NotNow phase) at_rest next q =
      let u = q.1.1 in
      let roomy_rests = room_rests p u.as_begun.roomy w n u.as_begun.made at_rest in
      let same : p' ≡ u.as_begun.roomy = undone_same u.as_begun.roomy u.begun w n u.as_begun.begins roomy_rests p' (subst (λ (x : Plain). Undone w u.as_begun.begins.seat.next u.as_begun.begins.seat.again x p') u.refused.0 u.undone) in (
        undone_unmoved p p' K h g w n (u.as_begun.roomy, u.as_begun.made, inl same),
        subst (λ (x : Phase). StandsElsewhere p h w Locking x) (sym q.0) (rests_elsewhere p u.begun K h g w n there at_rest (began p u.begun K h g w n u.as_begun at_rest next) Locking q.1.0 u.refused.1),
      )
  lock_begins n outcome.NoMemory at_rest next (inl made) = (room_unmoved p p' K h g w made, inr (would_begin n at_rest next))
  lock_begins n outcome.NoMemory at_rest next (inr u) =
      let roomy_rests = room_rests p u.as_begun.roomy w n u.as_begun.made at_rest in (
        undone_unmoved p p' K h g w n (u.as_begun.roomy, u.as_begun.made, inr (undone_short u.as_begun.roomy u.begun w n u.as_begun.begins roomy_rests u.tried p' u.refused.0 u.undone)),
        inr (would_begin n at_rest next),
      )
  lock_begins n outcome.Went at_rest next q = absurd q.2
  lock_begins n (outcome.Placed u) at_rest next q = absurd q.2
  lock_begins n (outcome.Gathered u) at_rest next q = absurd q.2
  lock_begins n (outcome.Acked m lv) at_rest next q = absurd q.2
  lock_begins n outcome.NothingCovered at_rest next q = absurd q.2

  pub lock_steps : (o : Outcome) → ActsBy LockedBy p w o p' → LockSteps p p' K h w o
  lock_steps o (goes has q) = locks_on p p' K h g w there o has q
  lock_steps o (begins n at_rest next q) = lock_begins n o at_rest next q
  lock_steps o (rests is same at_rest none) =
      subst (λ (x : Outcome). LockSteps p p' K h w x) (sym is) (unmoved p p' K h g same, none_left Locking (λ e. cc) at_rest none)

  -- Done that begins the call
  done_begins : (n : ℕ) (o : Outcome) → Rests p w → HasNext p w n → BeginsBy DoneBy w n p o p' → DoneSteps p p' K h w o
  done_begins n outcome.Went at_rest next q = first_done p p' q.0 K h g w n (began p q.0 K h g w n q.1 at_rest next) q.2
  done_begins n (outcome.NotNow phase) at_rest next q =
      let u = q.1.1 in
      let roomy_rests = room_rests p u.as_begun.roomy w n u.as_begun.made at_rest in
      let same : p' ≡ u.as_begun.roomy = undone_same u.as_begun.roomy u.begun w n u.as_begun.begins roomy_rests p' (subst (λ (x : Plain). Undone w u.as_begun.begins.seat.next u.as_begun.begins.seat.again x p') u.refused.0 u.undone) in (
        undone_unmoved p p' K h g w n (u.as_begun.roomy, u.as_begun.made, inl same),
        subst (λ (x : Phase). StandsElsewhere p h w Ended x) (sym q.0) (rests_elsewhere p u.begun K h g w n there at_rest (began p u.begun K h g w n u.as_begun at_rest next) Ended q.1.0 u.refused.1),
      )
  done_begins n outcome.NoMemory at_rest next (inl made) = (room_unmoved p p' K h g w made, would_begin n at_rest next)
  done_begins n outcome.NoMemory at_rest next (inr u) = absurd u.refused
  done_begins n (outcome.Granted v) at_rest next q = absurd q.2
  done_begins n (outcome.Busy u) at_rest next q = absurd q.2
  done_begins n (outcome.Placed u) at_rest next q = absurd q.2
  done_begins n (outcome.Gathered u) at_rest next q = absurd q.2
  done_begins n (outcome.Acked m lv) at_rest next q = absurd q.2
  done_begins n outcome.NothingCovered at_rest next q = absurd q.2

  -- Done of the call in hand
  done_on : (o : Outcome) → InHand p w → DoneBy p w o p' → DoneSteps p p' K h w o
  done_on outcome.Went has q = ends_by p p' K h g w q q.joins
  done_on (outcome.NotNow phase) has q =
      let found = some_at p.seats w (let e = g.sound.seats in omega arith) in
      let at = q.1 found.0 found.1 in
      let o = g.sound.seat w found.0 found.1 in (
        unmoved p p' K h g q.0,
        elsewhere_by p K h g w found.0 Ended phase found.1
            (λ e. absurd (has found.0 found.1 (none_some found.0.txn.hand (o.txn.stays ∙ ap is_some e)))) at.0 at.1,
      )
  done_on outcome.NoMemory has q = absurd q
  done_on (outcome.Granted v) has q = absurd q
  done_on (outcome.Busy u) has q = absurd q
  done_on (outcome.Placed u) has q = absurd q
  done_on (outcome.Gathered u) has q = absurd q
  done_on (outcome.Acked n lv) has q = absurd q
  done_on outcome.NothingCovered has q = absurd q

  pub done_steps : (o : Outcome) → ActsBy DoneBy p w o p' → DoneSteps p p' K h w o
  done_steps o (goes has q) = done_on o has q
  done_steps o (begins n at_rest next q) = done_begins n o at_rest next q
  done_steps o (rests is same at_rest none) =
      subst (λ (x : Outcome). DoneSteps p p' K h w x) (sym is) (unmoved p p' K h g same, none_left Ended (λ e. cc) at_rest none)
