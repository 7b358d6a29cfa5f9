-- Anchors, and entries that are dropped.
use Rattle.std.proofs.Common.{ℕ, ◌+◌, ◌<◌, ◌-◌, ◌^◌, ◌≡◌, ◌++◌, Bool, true, false, List, [], ◌∷◌, length, refl, ap, Option, lt-ltb}
use Rattle.std.specs.Prelude.{Some, None, is_none, ◌&&◌, nat_lt, slice_get}
use Rattle.tau_model.specs.History.{Act}
use Rattle.tau_machine.specs.Hands.{Txn}
use Rattle.tau_machine.specs.Events as machine
use Rattle.tau_core.specs.declared.event.Event.TheVariants as event
use Rattle.tau_core.specs.declared.event.Outcome.{Outcome}
use Rattle.tau_core.specs.declared.event.Outcome.TheVariants as outcome
use Rattle.tau_core.specs.declared.event.Phase.TheVariants.{Resting, Locking, Quitting, Ready, Placed, Freeing, Ended, Short, Stopped}
use Rattle.tau_core.specs.declared.state.Load.{Load}
use Rattle.tau_core.specs.State.{Plain}
use Rattle.tau_core.specs.View.{Hidden, setting_of, core_of, stop_in}
use Rattle.tau_core.specs.Steps.{Steps, Happened, Unmoved}
use Rattle.tau_run.specs.Turns.{Progress, Stays, Goes, is_going}
use Rattle.tau_step.specs.Progressed as on
use Rattle.tau_step.specs.Progressed.{progress, Comes}
use Rattle.tau_step.proofs.Deciding.{if_so, if_not}
use Rattle.tau_step.proofs.Working.{same_progress, goes}
use Rattle.tau_base.proofs.Logic.{first_not, and_from}

some_none : {A : Type 0} (o : Option A) → o ≡ None → is_none o ≡ true
some_none None e = refl
some_none (Some x) e = absurd (let bad : Some x ≡ None = e in cc)

pub not_second : (a b : Bool) → b ≡ false → (a && b) ≡ false
not_second false b e = refl
not_second true b e = e

module _ (p p' : Plain) (K : List (Act Txn)) (h : Hidden) (es : List machine.Event) (told : List (ℕ × List ℕ)) where
  -- one event, as what it is in a turn
  pub event_as : (R : Load → Progress → Progress → Type 0) (e : machine.Event) (q : Happened e p p' K h) → R p.load (progress p h es K told) (progress p' q.hidden (es ++ e ∷ []) (K ++ q.joined) told) → Comes R p p' told told K h es
  event_as R e q r = record { hidden = q.hidden; order = K ++ q.joined; events = es ++ e ∷ []; stands = q.stands; load = q.load; taken = q.taken; moved = r }

  module _ (j : ℕ) (there : j < p.load.streams) where
    abbrev room : Bool
    room = nat_lt ((setting_of p.load).anchored j + length ((core_of p h).streams j).anchors) (2 ^ 32 - 1)

    abbrev going : Bool
    going = is_going (setting_of p.load) p.load.workers p.load.streams (core_of p h) j

    pub anchored : Happened (machine.PlaceAnchor j p.plv) p p' K h → Comes (on.anchors true j) p p' told told K h es
    anchored q =
        let a = q.leads.0 in
        let P = progress p h es K told in
        let P' = progress p' q.hidden (es ++ machine.PlaceAnchor j p.plv ∷ []) (K ++ q.joined) told in
        let open_now : going ≡ true = and_from (nat_lt j p.load.streams) (is_none (stop_in (slice_get p.streams j))) (lt-ltb j p.load.streams there) (some_none (stop_in (slice_get p.streams j)) a.going) in
        let enough : room ≡ true = lt-ltb ((setting_of p.load).anchored j + length ((core_of p h).streams j).anchors) (2 ^ 32 - 1) a.room in
        event_as (on.anchors true j) (machine.PlaceAnchor j p.plv) q
        (if_so (going && room) (Goes (setting_of p.load) p.load.workers p.load.streams (machine.PlaceAnchor j p.plv) P P') (Stays P P') (and_from going room open_now enough)
        (goes p p' K h es told (machine.PlaceAnchor j p.plv) q))

    pub unanchored : (at : ℕ) → stop_in (slice_get p.streams j) ≡ Some at → Unmoved p p' K h → Comes (on.anchors true j) p p' told told K h es
    unanchored at stop u =
        let P = progress p h es K told in
        let P' = progress p' u.hidden es K told in
        let shut : going ≡ false = not_second (nat_lt j p.load.streams) (is_none (stop_in (slice_get p.streams j))) (ap is_none stop) in
        record {
          hidden = u.hidden;
          order = K;
          events = es;
          stands = u.stands;
          load = u.load;
          taken = u.taken;
          moved = if_not (going && room) (Goes (setting_of p.load) p.load.workers p.load.streams (machine.PlaceAnchor j p.plv) P P') (Stays P P') (first_not going room shut) (same_progress p p' K h es told u);
        }

    -- the turn, by its outcome
    pub anchor_goes : (o : Outcome) → (o ≡ outcome.NoMemory → ⊥) → Steps p p' K h (event.Anchor j) o → Comes (on.anchors true j) p p' told told K h es
    anchor_goes outcome.Went far t = absurd t
    anchor_goes (outcome.Granted value) far t = absurd t
    anchor_goes (outcome.Busy holder) far t = absurd t
    anchor_goes (outcome.Placed start) far t = anchored t.0
    anchor_goes (outcome.Gathered upto) far t = absurd t
    anchor_goes (outcome.Acked number lv) far t = absurd t
    anchor_goes outcome.NothingCovered far t = absurd t
    anchor_goes (outcome.NotNow Resting) far t = absurd t.1
    anchor_goes (outcome.NotNow Locking) far t = absurd t.1
    anchor_goes (outcome.NotNow Quitting) far t = absurd t.1
    anchor_goes (outcome.NotNow Ready) far t = absurd t.1
    anchor_goes (outcome.NotNow Placed) far t = absurd t.1
    anchor_goes (outcome.NotNow Freeing) far t = absurd t.1
    anchor_goes (outcome.NotNow Ended) far t = absurd t.1
    anchor_goes (outcome.NotNow (Short at)) far t = absurd t.1
    anchor_goes (outcome.NotNow (Stopped at)) far t = unanchored at t.1 t.0
    anchor_goes outcome.NoMemory far t = absurd (far refl)

  -- a shard drops entries
  pub dropped : (i : ℕ) (o : Outcome) → Steps p p' K h (event.Drop i) o → Comes (on.drops_one i) p p' told told K h es
  dropped i outcome.Went t = event_as (on.drops_one i) (machine.Drop i p.plv) t (goes p p' K h es told (machine.Drop i p.plv) t)
  dropped i (outcome.Granted value) t = absurd t
  dropped i (outcome.Busy holder) t = absurd t
  dropped i (outcome.Placed start) t = absurd t
  dropped i (outcome.Gathered upto) t = absurd t
  dropped i (outcome.Acked number lv) t = absurd t
  dropped i outcome.NothingCovered t = absurd t
  dropped i (outcome.NotNow phase) t = absurd t
  dropped i outcome.NoMemory t = absurd t
