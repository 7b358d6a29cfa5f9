-- The turn of a worker of a run, in its style.
use Rattle.std.proofs.Common.{ℕ, ◌<◌, ◌≤◌, ◌≡◌, inl, inr, Bool, true, false, List, [], length, length-set, refl, sym, ap, subst, ◌∙◌, arith}
use Rattle.std.specs.Prelude.{Some, Result, Ok, Err, OnOk, is_ok, slice_get, slice_set}
use Rattle.std.proofs.Math.Path.{fun_ext}
use Rattle.std.proofs.lemmas.Bool.{cases_eq}
use Rattle.std.proofs.lemmas.Option.{slice_get_past, slice_get_within}
use Rattle.tau_base.specs.declared.limits.TheConstants.{MAX_STEPS}
use Rattle.tau_base.specs.declared.value.Key.{Key}
use Rattle.tau_base.specs.declared.value.Value.{Value}
use Rattle.tau_base.specs.declared.value.NoMemory.{NoMemory}
use Rattle.tau_base.proofs.Logic.{some_is}
use Rattle.tau_text.specs.declared.load.Workload.{Workload}
use Rattle.tau_model.specs.History.{Act}
use Rattle.tau_machine.specs.Hands.{Txn}
use Rattle.tau_shard.specs.Shard.{at}
use Rattle.tau_machine.specs.Events as machine
use Rattle.tau_shard.proofs.At.{at_same, at_other, at_itself}
use Rattle.tau_core.specs.declared.state.Load.{Load}
use Rattle.tau_core.specs.State.{Plain}
use Rattle.tau_core.specs.Stands.{Stands, Stood}
use Rattle.tau_core.specs.View.{Hidden, setting_of, worker_at}
use Rattle.tau_core.proofs.Lists.{got_same, got_other}
use Rattle.tau_occ.specs.Peeker.{PlainPeeker}
use Rattle.tau_occ.specs.declared.style.Style.{Style}
use Rattle.tau_occ.specs.declared.style.Style.TheVariants.{Locking, Optimistic}
use Rattle.tau_run.specs.Turns.{Progress}
use Rattle.tau_run.specs.Schedule.{RunState, peeked}
use Rattle.tau_run.proofs.Steps.{if_known, if_yes, if_not}
use Rattle.tau_step.specs.declared.run.Run.{Run}
use Rattle.tau_step.specs.Optimists.{AllFit, AreFit, OptimistTurned, PeekerFits, Peeks, all_turns_left, peeks_of, seen_in, turned_in, turns_left}
use Rattle.tau_step.specs.Progressed.{progress}
use Rattle.tau_step.specs.Remains.{sum_below}
use Rattle.tau_step.specs.Rounding.{alone_by, none_peeked, worked_by}
use Rattle.tau_step.specs.RunEffects.{SameWorkers, Works}
use Rattle.tau_step.specs.TurnParts.{has_work, Worked}
use Rattle.tau_step.proofs.EffectsInTurn.{works_as}
use Rattle.tau_step.proofs.Fitting.{stands_tries}
use Rattle.tau_step.proofs.RoundSteps.{worked_still}
use Rattle.tau_step.proofs.StyleFits.{fit_few, peeker_same}
use Rattle.tau_step.proofs.Running.{works_of}
use Rattle.tau_step.proofs.StyleTurns.{turn_falls, turn_others, turn_peeks}
use Rattle.tau_step.proofs.Totals.{sum_less}

-- ---- what is left

pub turns_same : (p p' : Plain) (f f' : Peeks) → SameWorkers p p' → f' ≡ f → all_turns_left p' f' ≡ all_turns_left p f
turns_same p p' f f' s e =
    ap (λ (l : Load). sum_below (λ w. turns_left l.procs (worker_at p' w) (f' w)) l.workers) s.load
    ∙ (λ i. sum_below (λ w. turns_left p.load.procs (s.workers i w) (e i w)) p.load.workers)

module _ (style : Style) (w : ℕ) (f f' : Peeks) (old new : Run) (stood : Stood old.core) where
  -- it falls where the worker had anything to do
  pub work_less : (r : Result Bool NoMemory) → w < old.core.load.workers → length (f' w) ≤ MAX_STEPS → Works (worked_by style f f' w r) (is_ok r) old new → r ≡ Ok true → all_turns_left new.core f' < all_turns_left old.core f
  work_less (Ok true) lt few x e =
      let (K, h, g) = stood in
      let c = x.comes K h [] [] g in
      let l : Load = old.core.load in
      let P : Progress = progress old.core h [] K [] in
      let P' : Progress = progress new.core c.hidden c.events c.order [] in
      subst (λ (d : Load). sum_below (λ u. turns_left d.procs (worker_at new.core u) (f' u)) d.workers < all_turns_left old.core f) (sym x.load)
      (sum_less (λ u. turns_left l.procs (worker_at new.core u) (f' u)) (λ u. turns_left l.procs (worker_at old.core u) (f u)) w l.workers lt
      (turn_falls (setting_of l) l.workers l.streams style w f f' P P' c.moved.1 (stands_tries old.core K h g w) few (sym c.moved.0))
      (λ u ne i. turns_left l.procs (turn_others (setting_of l) l.workers l.streams style w f f' P P' c.moved.1 u ne i) (turn_peeks (setting_of l) l.workers l.streams style w f f' P P' c.moved.1 u ne i)))
  work_less (Ok false) lt few x e = absurd (let bad : Ok false ≡ Ok true = e in cc)
  work_less (Err y) lt few x e = absurd (let bad : Err y ≡ Ok true = e in cc)

  -- and is as much as before where it had nothing
  pub idle_same : Works (worked_by style f f' w (Ok false)) true old new → all_turns_left new.core f' ≡ all_turns_left old.core f
  idle_same x =
      let (K, h, g) = stood in
      let c = x.comes K h [] [] g in
      let same = worked_still style f f' w old.core.load (progress old.core h [] K []) (progress new.core c.hidden c.events c.order []) (sym c.moved.0) c.moved.1 in
      turns_same old.core new.core f f' (record { load = x.load; workers = ap (λ (z : RunState). z.progress.state.workers) same }) (ap (λ (z : RunState). z.peeks) same)

-- by the peekers that fit after it
pub turns_fewer : (style : Style) (load : Workload) (w : ℕ) (r : Result Bool NoMemory) (old new : Run) (qs qs' : List PlainPeeker) → Stood old.core → w < old.core.load.workers → OnOk r (AreFit style load new.core qs') →
    Works (worked_by style (peeks_of qs) (peeks_of qs') w r) (is_ok r) old new → r ≡ Ok true → all_turns_left new.core (peeks_of qs') < all_turns_left old.core (peeks_of qs)
turns_fewer style load w (Ok did) old new qs qs' stood lt fit x e = work_less style w (peeks_of qs) (peeks_of qs') old new stood (Ok did) lt (fit_few style load new.core qs' w fit) x e
turns_fewer style load w (Err y) old new qs qs' stood lt fit x e = absurd (let bad : Err y ≡ Ok true = e in cc)

-- ---- in the style Locking

-- an action is the turn in that style, where nothing is peeked
locking_turned : (w : ℕ) (l : Load) (P P' : Progress) → Worked (setting_of l) l.workers l.streams w P P' → turned_in Locking w none_peeked none_peeked l P P'
locking_turned w l P P' h = if_known (has_work (setting_of l) l.workers l.streams P.state w) _ _ (turned_in Locking w none_peeked none_peeked l P P') h
    (λ works x. if_yes (has_work (setting_of l) l.workers l.streams P.state w) _ _ works (record { event = x.0; own = x.1; goes = x.2; newest = x.3; busy = x.4; reads = tt; lowest = x.5; peeks = refl }))
    (λ rests same. if_not (has_work (setting_of l) l.workers l.streams P.state w) _ _ rests (ap (λ (X : Progress). peeked X none_peeked) same))

still_works : (w : ℕ) (r : Result Bool NoMemory) (old new : Run) → Works (alone_by w r) (is_ok r) old new → Works (worked_by Locking none_peeked none_peeked w r) (is_ok r) old new
still_works w (Ok did) old new x = works_as (alone_by w (Ok did)) (worked_by Locking none_peeked none_peeked w (Ok did)) true true old new (λ l P P' q. (q.0, locking_turned w l P P' q.1)) x
still_works w (Err e) old new x = works_as (alone_by w (Err e)) (worked_by Locking none_peeked none_peeked w (Err e)) false false old new (λ l P P' q. ap (λ (X : Progress). peeked X none_peeked) q) x

pub peeks_none : (qs : List PlainPeeker) → qs ≡ [] → peeks_of qs ≡ none_peeked
peeks_none qs none = fun_ext (λ w. ap seen_in (slice_get_past qs w (let long = ap (length {A = PlainPeeker}) none in omega (arith, long))))

module _ (style : Style) (is : style ≡ Locking) (load : Workload) (old new : Run) (qs : List PlainPeeker) (fit : AreFit style load old.core qs) where
  none : qs ≡ []
  none = subst (λ (s : Style). AreFit s load old.core qs) is fit

  pub locking_works : (w : ℕ) (r : Result Bool NoMemory) → Works (alone_by w r) (is_ok r) old new → Works (worked_by style (peeks_of qs) (peeks_of qs) w r) (is_ok r) old new
  locking_works w r x = subst (λ (s : Style). Works (worked_by s (peeks_of qs) (peeks_of qs) w r) (is_ok r) old new) (sym is)
      (subst (λ (f : Peeks). Works (worked_by Locking f f w r) (is_ok r) old new) (sym (peeks_none qs none)) (still_works w r old new x))

  pub locking_fit : {A : Type 0} (r : Result A NoMemory) → OnOk r (AreFit style load new.core qs)
  locking_fit (Ok a) = subst (λ (s : Style). AreFit s load new.core qs) (sym is) none
  locking_fit (Err e) = tt

-- ---- in the style Optimistic

-- one peeker is changed
peeks_set : (qs : List PlainPeeker) (w : ℕ) (q : PlainPeeker) → w < length qs → peeks_of (slice_set qs w q) ≡ at w q.seen (peeks_of qs)
peeks_set qs w q lt = fun_ext (λ u. elim (cases_eq u w) [
  | inl same ↦ subst (λ (k : ℕ). peeks_of (slice_set qs w q) k ≡ at w q.seen (peeks_of qs) k) (sym same) (ap seen_in (got_same qs w q lt) ∙ sym (at_same w q.seen (peeks_of qs)))
  | inr other ↦ ap seen_in (got_other qs w u q other) ∙ sym (at_other w q.seen (peeks_of qs) u other)
])

module _ (w : ℕ) (old new : Run) (qs qs' : List PlainPeeker) (q q' : PlainPeeker) (there : slice_get qs w ≡ Some q) (is' : qs' ≡ slice_set qs w q') (stood : Stood old.core) where
  low : w < length qs
  low = slice_get_within qs w q there

  peeks_now : peeks_of qs' ≡ at w q'.seen (peeks_of qs)
  peeks_now = ap peeks_of is' ∙ peeks_set qs w q' low

  seen_now : peeks_of qs w ≡ q.seen
  seen_now = ap seen_in there

  abbrev Turned : Result Bool NoMemory → Type 0
  Turned r = (K : List (Act Txn)) (h : Hidden) (es : List machine.Event) (told : List (ℕ × List ℕ)) (f : Peeks) → Stands old.core K h → f w ≡ q.seen → OptimistTurned w old.core new.core K h es told f q'.seen r

  pub optimist_works : new.clerk ≡ old.clerk → new.failed ≡ old.failed → new.workers ≡ old.workers → new.streams ≡ old.streams → new.flushes ≡ old.flushes → (r : Result Bool NoMemory) → Turned r → Works (worked_by Optimistic (peeks_of qs) (peeks_of qs') w r) (is_ok r) old new
  optimist_works clerk failed workers streams flushes (Ok did) turned = works_of old new clerk failed workers streams flushes stood (worked_by Optimistic (peeks_of qs) (peeks_of qs') w (Ok did)) true (λ K h es told g.
      (let (is, c) = turned K h es told (peeks_of qs) g seen_now in
      record {
        hidden = c.hidden;
        order = c.order;
        events = c.events;
        stands = c.stands;
        load = c.load;
        taken = c.taken;
        moved = (is, subst (λ (f : Peeks). turned_in Optimistic w (peeks_of qs) f old.core.load (progress old.core h es K told) (progress new.core c.hidden c.events c.order told)) (sym peeks_now) c.moved);
      }))
  optimist_works clerk failed workers streams flushes (Err e) turned = works_of old new clerk failed workers streams flushes stood (worked_by Optimistic (peeks_of qs) (peeks_of qs') w (Err e)) false (λ K h es told g.
      (let (c, same) = turned K h es told (peeks_of qs) g seen_now in
      let kept : peeks_of qs' ≡ peeks_of qs = peeks_now ∙ ap (λ (x : List (Key × Value)). at w x (peeks_of qs)) same ∙ at_itself w (peeks_of qs) in
      record {
        hidden = c.hidden;
        order = c.order;
        events = c.events;
        stands = c.stands;
        load = c.load;
        taken = c.taken;
        moved = λ i. peeked (c.moved i) (kept i);
      }))

  -- the others fit as before
  fit_after : (load : Workload) (did : Bool) → Turned (Ok did) → PeekerFits new.core w q' → AllFit load old.core qs → AllFit load new.core qs'
  fit_after load did turned fits all =
      let (K, h, g) = stood in
      let (is, c) = turned K h [] [] (peeks_of qs) g seen_now in
      let l : Load = old.core.load in
      let others = turn_others (setting_of l) l.workers l.streams Optimistic w (peeks_of qs) (at w q'.seen (peeks_of qs)) (progress old.core h [] K []) (progress new.core c.hidden c.events c.order []) c.moved in
      record {
        procs = all.procs ∙ sym (ap (λ (d : Load). d.procs) c.load);
        calls = all.calls ∙ sym (ap (λ (d : Load). d.calls) c.load);
        count = ap (length {A = PlainPeeker}) is' ∙ length-set qs w q' ∙ all.count ∙ sym (ap (λ (d : Load). d.workers) c.load);
        each = λ u p e. elim (cases_eq u w) [
          | inl same ↦ subst (λ (k : ℕ). PeekerFits new.core k p) (sym same)
              (subst (λ (x : PlainPeeker). PeekerFits new.core w x) (some_is q' p (sym (got_same qs w q' low) ∙ subst (λ (k : ℕ). slice_get (slice_set qs w q') k ≡ Some p) same (at_now u p e))) fits)
          | inr other ↦ peeker_same old.core new.core u p c.load (others u other) (all.each u p (sym (got_other qs w u q' other) ∙ at_now u p e))
        ];
      }
    where
      at_now : (u : ℕ) (p : PlainPeeker) → slice_get qs' u ≡ Some p → slice_get (slice_set qs w q') u ≡ Some p
      at_now u p e = ap (λ (xs : List PlainPeeker). slice_get xs u) (sym is') ∙ e

  pub optimist_fit : (load : Workload) (r : Result Bool NoMemory) → Turned r → OnOk r (PeekerFits new.core w q') → AllFit load old.core qs → OnOk r (AllFit load new.core qs')
  optimist_fit load (Ok did) turned fits all = fit_after load did turned fits all
  optimist_fit load (Err e) turned fits all = tt
