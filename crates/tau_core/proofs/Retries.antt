-- A call that does not take its lock meets Busy.
use Rattle.std.proofs.Common.{ℕ, ◌<◌, ◌≡◌, inl, inr, List, [], ◌++◌, refl, sym, ap, subst, ◌∙◌, arith}
use Rattle.std.specs.Prelude.{Some, is_some, slice_get, slice_set}
use Rattle.tau_base.specs.declared.limits.TheConstants.{SHARDS}
use Rattle.tau_base.specs.Shards.{shard_number}
use Rattle.tau_model.specs.History.{Act}
use Rattle.tau_machine.specs.Hands.{Txn}
use Rattle.tau_shard.specs.Shard.{at, Shard}
use Rattle.tau_machine.specs.Worker.{Worker, hand_busy, settled}
use Rattle.tau_machine.specs.Invariant.{Invariant}
use Rattle.tau_machine.specs.State.{Core}
use Rattle.tau_machine.specs.Events as machine
use Rattle.tau_machine.specs.Events.{Leads, Refuses, ready}
use Rattle.tau_shard.proofs.At.{at_itself}
use Rattle.tau_shard.specs.Plain.{PlainShard}
use Rattle.tau_core.specs.declared.event.Phase.{Phase}
use Rattle.tau_core.specs.declared.event.Phase.TheVariants.{Locking}
use Rattle.tau_core.specs.declared.event.Outcome.{Outcome}
use Rattle.tau_core.specs.declared.event.Outcome.TheVariants as outcome
use Rattle.tau_core.specs.declared.state.Load.{Load}
use Rattle.tau_core.specs.State.{Plain}
use Rattle.tau_core.specs.View.{setting_of, Hidden, shard_in, core_of}
use Rattle.tau_core.specs.Stands.{Stands, Stood, Sound}
use Rattle.tau_core.proofs.Carried.{Carried}
use Rattle.tau_core.specs.Begins.{HasNext, Undone}
use Rattle.tau_core.specs.Firsts.{InHand, Rests, BeginsBy, ActsBy, goes, begins, rests}
use Rattle.tau_core.specs.Steps.{Happened, StandsElsewhere}
use Rattle.tau_core.specs.Retries.{GivesWay, RetriedBy, RetrySteps}
use Rattle.tau_core.proofs.Lists.{set_got}
use Rattle.tau_core.proofs.Seats.{worker_of_seat}
use Rattle.tau_core.proofs.Joins.{one_one}
use Rattle.tau_core.proofs.Begins.{ready_in_hand, carried, begun_state, refuses_lift}
use Rattle.tau_core.proofs.Settled.{settled_core, settled_stands}
use Rattle.tau_core.proofs.PersistLeads.{kept}
use Rattle.tau_core.proofs.Steps.{happened, unmoved}
use Rattle.tau_core.proofs.Firsts.{none_some, room_rests}
use Rattle.tau_core.proofs.WorkerSteps.{Began, began, elsewhere_by}
use Rattle.tau_core.proofs.Undone.{room_unmoved, undone_same, undone_unmoved}
use Rattle.tau_core.proofs.FirstSteps.{rests_elsewhere, none_left, would_begin}
use Rattle.tau_core.proofs.Shards.{shard_small}
use Rattle.tau_base.proofs.Lists.{some_at}

module _ (p p' : Plain) (h : Hidden) (w : ℕ) (q : GivesWay w p p') (sh : PlainShard) (shard_is : slice_get p.shards (shard_number q.key) ≡ Some sh) where
  way_after : p' ≡ record p { seats = slice_set p.seats w q.new; shards = slice_set p.shards (shard_number q.key) sh }
  way_after = q.after ∙ ap (λ (l : List PlainShard). record p { seats = slice_set p.seats w q.new; shards = l }) (sym (set_got p.shards (shard_number q.key) sh shard_is))

  way_hand : ((core_of p h).workers w).hand ≡ Some q.hand
  way_hand = ap (λ (x : Worker). x.hand) (worker_of_seat p h w q.seat q.new q.is) ∙ q.wants.is

  way_ready : ready (setting_of p.load) (core_of p h) w ≡ (core_of p h).workers w
  way_ready = ready_in_hand p.load.streams ((core_of p h).workers w) q.hand way_hand

  way_refuses : Refuses (setting_of p.load) w (core_of p h) (core_of p' h)
  way_refuses = record {
    hand = q.hand;
    key = q.key;
    mode = q.mode;
    is = ap (λ (x : Worker). x.hand) way_ready ∙ way_hand;
    phase = q.wants.phase;
    next = q.wants.next;
    after = ap (λ (x : Plain). core_of x h) way_after
        ∙ settled_core p [] h w (shard_number q.key) q.seat q.new sh sh q.hand (hand_busy q.hand) q.is shard_is q.wants.is (one_one p.load q.seat q.hand q.wants.is q.wants.phase) refl q.keeps q.settles q.sound
        ((core_of p h).shards (shard_number q.key)) (sym (ap shard_in shard_is))
        ∙ ap (λ (x : (ℕ → Shard) × Worker). record (core_of p h) { shards = x.0; workers = at w (settled p.load.streams x.1 (hand_busy q.hand)) (core_of p h).workers })
        (λ l. (at_itself (shard_number q.key) (core_of p h).shards l, sym way_ready l));
  }

  way_stands : (K : List (Act Txn)) → Carried p K h → Invariant (setting_of p.load) K (core_of p' h) → Stands p' K h
  way_stands K g inv = subst (λ (x : Plain). Stands x K h) (sym way_after)
      (settled_stands p K h w (shard_number q.key) q.seat q.new sh sh q.hand (hand_busy q.hand) q.is shard_is q.wants.is (one_one p.load q.seat q.hand q.wants.is q.wants.phase) refl q.keeps q.settles q.sound
      g (subst (λ (x : Plain). Invariant (setting_of p.load) K (core_of x h)) way_after inv))

shard_there : (p : Plain) → Sound p → (i : ℕ) → i < SHARDS → (sh : PlainShard) × (slice_get p.shards i ≡ Some sh)
shard_there p g i lt = some_at p.shards i (let e = g.shards in omega arith)

-- of a call that begins by it
first_way : (p p' b : Plain) (K : List (Act Txn)) (h : Hidden) (g : Stands p K h) (w n : ℕ) (a : Began p b K h w n) → GivesWay w b p' → Happened (machine.Busy w) p p' K h
first_way p p' b K h g w n a q =
    let found = shard_there b a.carries.sound (shard_number q.key) (shard_small q.key) in
    let t : machine.Refuses (setting_of p.load) w (begun_state (setting_of p.load) (core_of p h) w) (core_of p' h) =
    subst (λ (x : Load × Core). machine.Refuses (setting_of x.0) w x.1 (core_of p' h)) (λ i. (a.load i, a.core i)) (way_refuses b p' h w q found.0 found.1) in
    let leads : Leads (setting_of p.load) (machine.Busy w) (core_of p h) (core_of p' h) [] = (refuses_lift (setting_of p.load) (core_of p h) w (core_of p' h) t, refl) in
    let inv = kept (setting_of p.load) K (machine.Busy w) (core_of p h) (core_of p' h) g.inv leads in
    happened (machine.Busy w) p p' K h h leads (way_stands b p' h w q found.0 found.1 K a.carries (subst (λ (l : Load). Invariant (setting_of l) K (core_of p' h)) (sym a.load) inv))
    (ap (λ (x : Plain). x.load) q.after ∙ a.load) refl

module _ (p p' : Plain) (K : List (Act Txn)) (h : Hidden) (g : Stands p K h) (w : ℕ) (there : w < p.load.workers) where
  -- of the call in hand
  retry_on : (o : Outcome) → InHand p w → RetriedBy p w o p' → RetrySteps p p' K h w o
  retry_on outcome.Went has q =
      let found = shard_there p g.sound (shard_number q.key) (shard_small q.key) in
      let leads : Leads (setting_of p.load) (machine.Busy w) (core_of p h) (core_of p' h) [] = (way_refuses p p' h w q found.0 found.1, refl) in
      let inv = kept (setting_of p.load) K (machine.Busy w) (core_of p h) (core_of p' h) g.inv leads in
      happened (machine.Busy w) p p' K h h leads (way_stands p p' h w q found.0 found.1 K (carried p K h g) inv) (ap (λ (x : Plain). x.load) q.after) refl
  retry_on (outcome.NotNow phase) has q =
      let found = some_at p.seats w (let e = g.sound.seats in omega arith) in
      let at = q.1 found.0 found.1 in
      let o = g.sound.seat w found.0 found.1 in (
        unmoved p p' K h g q.0,
        elsewhere_by p K h g w found.0 Locking phase found.1
            (λ e. absurd (has found.0 found.1 (none_some found.0.txn.hand (o.txn.stays ∙ ap is_some e)))) at.0 at.1,
      )
  retry_on outcome.NoMemory has q = absurd q
  retry_on (outcome.Granted v) has q = absurd q
  retry_on (outcome.Busy u) has q = absurd q
  retry_on (outcome.Placed u) has q = absurd q
  retry_on (outcome.Gathered u) has q = absurd q
  retry_on (outcome.Acked n lv) has q = absurd q
  retry_on outcome.NothingCovered has q = absurd q

  -- of a call that begins by it
  retry_begins : (n : ℕ) (o : Outcome) → Rests p w → HasNext p w n → BeginsBy RetriedBy w n p o p' → RetrySteps p p' K h w o
  retry_begins n outcome.Went at_rest next q = first_way p p' q.0 K h g w n (began p q.0 K h g w n q.1 at_rest next) q.2
  retry_begins n (outcome.NotNow phase) at_rest next q =
      let u = q.1.1 in
      let roomy_rests = room_rests p u.as_begun.roomy w n u.as_begun.made at_rest in
      let same : p' ≡ u.as_begun.roomy = undone_same u.as_begun.roomy u.begun w n u.as_begun.begins roomy_rests p' (subst (λ (x : Plain). Undone w u.as_begun.begins.seat.next u.as_begun.begins.seat.again x p') u.refused.0 u.undone) in (
        undone_unmoved p p' K h g w n (u.as_begun.roomy, u.as_begun.made, inl same),
        subst (λ (x : Phase). StandsElsewhere p h w Locking x) (sym q.0) (rests_elsewhere p u.begun K h g w n there at_rest (began p u.begun K h g w n u.as_begun at_rest next) Locking q.1.0 u.refused.1),
      )
  retry_begins n outcome.NoMemory at_rest next (inl made) = (room_unmoved p p' K h g w made, would_begin p p' K h g w there n at_rest next)
  retry_begins n outcome.NoMemory at_rest next (inr u) = absurd u.refused
  retry_begins n (outcome.Granted v) at_rest next q = absurd q.2
  retry_begins n (outcome.Busy u) at_rest next q = absurd q.2
  retry_begins n (outcome.Placed u) at_rest next q = absurd q.2
  retry_begins n (outcome.Gathered u) at_rest next q = absurd q.2
  retry_begins n (outcome.Acked m lv) at_rest next q = absurd q.2
  retry_begins n outcome.NothingCovered at_rest next q = absurd q.2

  pub retry_steps : (o : Outcome) → ActsBy RetriedBy p w o p' → RetrySteps p p' K h w o
  retry_steps o (goes has q) = retry_on o has q
  retry_steps o (begins n at_rest next q) = retry_begins n o at_rest next q
  retry_steps o (rests is same at_rest none) =
      subst (λ (x : Outcome). RetrySteps p p' K h w x) (sym is) (unmoved p p' K h g same, none_left p p' K h g w there Locking (λ e. cc) at_rest none)

pub retry_stood : (p p' : Plain) (K : List (Act Txn)) (h : Hidden) (w : ℕ) (o : Outcome) → RetrySteps p p' K h w o → Stood p'
retry_stood p p' K h w outcome.Went q = (K ++ q.joined, q.hidden, q.stands)
retry_stood p p' K h w (outcome.NotNow phase) q = (K, q.0.hidden, q.0.stands)
retry_stood p p' K h w outcome.NoMemory q = (K, q.0.hidden, q.0.stands)
retry_stood p p' K h w (outcome.Granted v) q = absurd q
retry_stood p p' K h w (outcome.Busy u) q = absurd q
retry_stood p p' K h w (outcome.Placed u) q = absurd q
retry_stood p p' K h w (outcome.Gathered u) q = absurd q
retry_stood p p' K h w (outcome.Acked n lv) q = absurd q
retry_stood p p' K h w outcome.NothingCovered q = absurd q
