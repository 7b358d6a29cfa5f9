-- Nothing is ready, or one record more is applied.
use Rattle.std.proofs.Common.{is_some, inl, refl, sym, ap, subst, ◌∙◌, ◌≡◌, ◌++◌, ◌∷◌, [], ℕ, List, true}
use Rattle.std.specs.Global.{Vec}
use Rattle.tau_record.specs.declared.entry.Placed.{Placed}
use Rattle.tau_follow.specs.declared.applier.Applier.{Applier}
use Rattle.tau_follow.specs.declared.spot.Spot.{Spot}
use Rattle.tau_follow.specs.declared.stage.Stage.{Stage}
use Rattle.tau_follow.specs.Applying.{is_ready_in, reaches}
use Rattle.tau_follow.specs.Holding.{IsKnown, IsReadyAt, HasApplied}
use Rattle.tau_follow.specs.Waits.{AreAllAbove, AreFound}
use Rattle.tau_follow_laws.specs.Following.{Followed}
use Rattle.tau_follow.proofs.Holding.{step_kept, step_through}
use Rattle.tau_follow.proofs.Fewer.{ready_fewer}
use Rattle.tau_follow.proofs.applier.Applier.step.Goals as goal

pub returns-in-Err-clause-applied : goal.returns-in-Err-clause-applied
returns-in-Err-clause-applied c = λ s d k. step_kept c.args.streams.now s c.args.self.now _ c.args.self.now.stages.items d refl (λ p. p) refl refl (λ z. inl c.lose.ensures)

pub returns-in-Ok-None-clause-through : goal.returns-in-Ok-None-clause-through
returns-in-Ok-None-clause-through c = λ s d k none.
    (let second = c.as_slice.result.now in
    let lent = c.as_slice.ensures.value in
    let re = c.as_slice-2.result.now in
    let found = subst (λ (l : List (List Stage)). AreFound c.args.streams.now l c.args.self.now.waits.looked.items c.args.self.now.waits.queues.items) (sym lent) k.found in
    let above = subst (λ (l : List ℕ). AreAllAbove l c.args.self.now.waits.queues.items) (sym c.as_slice-2.ensures.value) k.above in
    step_through c.args.streams.now s c.args.self.now _ c.args.self.now.stages.items second c.args.reached.now.items re d refl (λ p. k.reached_is) (λ p. p) lent c.as_slice-2.ensures.value refl refl
    (λ z. c.in-Ok-None.ensures.none found above (ap is_some c.in-Ok-None.field-0-is)))

pub returns-in-Ok-None-clause-still : goal.returns-in-Ok-None-clause-still
returns-in-Ok-None-clause-still c = λ s d k none.
    (let found = subst (λ (l : List (List Stage)). AreFound c.args.streams.now l c.args.self.now.waits.looked.items c.args.self.now.waits.queues.items) (sym c.as_slice.ensures.value) k.found in
    let above = subst (λ (l : List ℕ). AreAllAbove l c.args.self.now.waits.queues.items) (sym c.as_slice-2.ensures.value) k.above in
    let w = c.in-Ok-None.ensures.none found above (ap is_some c.in-Ok-None.field-0-is) in (
      k.reached_is,
      subst (λ (l : List ℕ). AreAllAbove l c.find.new.self.queues.items) c.as_slice-2.ensures.value w.1,
    ))

pub returns-in-Ok-None-clause-applied : goal.returns-in-Ok-None-clause-applied
returns-in-Ok-None-clause-applied c = λ s d k. (returns-in-Ok-None-clause-through c s d k refl).done

-- the record that was found is ready
module _ (streams : List (List Placed)) (s : Followed) (a b : Applier) (second : List (List Stage)) (reached re : List ℕ) (spot : Spot) (d : HasApplied streams s a) (k : IsKnown streams a reached) (lent : second ≡ a.stages.items) (same : re ≡ reached)
    (st : b.stages ≡ a.stages) (order : b.order ≡ a.order) (firsts : b.firsts ≡ a.firsts) (ready : is_ready_in re streams second spot.stream spot.index ≡ true)
    (found : AreFound streams second a.waits.looked.items a.waits.queues.items → AreFound streams second (b.waits.looked.items ++ spot ∷ []) b.waits.queues.items) (above : AreAllAbove re a.waits.queues.items → AreAllAbove re b.waits.queues.items) where
  stands : second ≡ b.stages.items
  stands = lent ∙ ap (λ (v : Vec (List Stage)). v.items) (sym st)

  ready_at : IsReadyAt streams s b reached spot
  ready_at = record {
    was = a;
    applied = d;
    stages = st;
    order = order;
    firsts = firsts;
    reached_is = k.reached_is ∙ ap (λ (v : Vec (List Stage)). reaches streams v.items) (sym st);
    ready = subst (λ (l : List (List Stage)). is_ready_in reached streams l spot.stream spot.index ≡ true) stands (subst (λ (l : List ℕ). is_ready_in l streams second spot.stream spot.index ≡ true) same ready);
    found = subst (λ (l : List (List Stage)). AreFound streams l (b.waits.looked.items ++ spot ∷ []) b.waits.queues.items) stands
        (found (subst (λ (l : List (List Stage)). AreFound streams l a.waits.looked.items a.waits.queues.items) (sym lent) k.found));
    above = subst (λ (l : List ℕ). AreAllAbove l b.waits.queues.items) same (above (subst (λ (l : List ℕ). AreAllAbove l a.waits.queues.items) (sym same) k.above));
  }

pub returns-in-Ok-clause-known : goal.returns-in-Ok-clause-known
returns-in-Ok-clause-known c = λ s d k.
    c.in-Ok.ensures.known s (ready_at c.args.streams.now s c.args.self.now _ c.as_slice.result.now c.args.reached.now.items c.as_slice-2.result.now c.in-Ok-Some.spot d k c.as_slice.ensures.value c.as_slice-2.ensures.value refl refl refl
    (rw c.in-Ok-Some.field-0-is at c.in-Ok-Some.ensures.ready) (λ h. (let f = c.in-Ok-Some.ensures.found h in rw c.in-Ok-Some.field-0-is at f)) c.in-Ok-Some.ensures.above)

pub returns-in-Ok-clause-applied : goal.returns-in-Ok-clause-applied
returns-in-Ok-clause-applied c = λ s d k.
    c.in-Ok.ensures.applied s (ready_at c.args.streams.now s c.args.self.now _ c.as_slice.result.now c.args.reached.now.items c.as_slice-2.result.now c.in-Ok-Some.spot d k c.as_slice.ensures.value c.as_slice-2.ensures.value refl refl refl
    (rw c.in-Ok-Some.field-0-is at c.in-Ok-Some.ensures.ready) (λ h. (let f = c.in-Ok-Some.ensures.found h in rw c.in-Ok-Some.field-0-is at f)) c.in-Ok-Some.ensures.above)

pub returns-in-Err-apply_on-clause-applied : goal.returns-in-Err-apply_on-clause-applied
returns-in-Err-apply_on-clause-applied c = λ s d k.
    c.in-Err-apply_on.ensures.applied s (ready_at c.args.streams.now s c.args.self.now _ c.as_slice.result.now c.args.reached.now.items c.as_slice-2.result.now c.in-Ok-Some.spot d k c.as_slice.ensures.value c.as_slice-2.ensures.value refl refl refl
    (rw c.in-Ok-Some.field-0-is at c.in-Ok-Some.ensures.ready) (λ h. (let f = c.in-Ok-Some.ensures.found h in rw c.in-Ok-Some.field-0-is at f)) c.in-Ok-Some.ensures.above)

pub returns-in-Ok-clause-fewer : goal.returns-in-Ok-clause-fewer
returns-in-Ok-clause-fewer c =
    ready_fewer c.as_slice-2.result.now c.args.streams.now c.as_slice.result.now c.args.self.now.stages.items c.apply_on.new.self.stages.items c.in-Ok-Some.spot.stream c.in-Ok-Some.spot.index c.as_slice.ensures.value (rw c.in-Ok-Some.field-0-is at c.in-Ok-Some.ensures.ready) c.in-Ok.ensures.stages
