-- An applier goes on record by record.
use Rattle.std.proofs.Common.{ℕ, zero, suc, ◌≤◌, ◌<◌, Bool, true, false, ◌≡◌, ◌≢◌, inl, inr, List, [], ◌∷◌, ◌++◌, length, set, Some, refl, sym, ap, subst, ◌∙◌, arith, slice_index, get_or-set_other, get_or-set_same}
use Rattle.std.specs.Prelude.{slice_get}
use Rattle.tau_record.specs.declared.entry.Placed.{Placed}
use Rattle.tau_follow_laws.specs.Following.{Followed, rlv, NoneReady, applied}
use Rattle.tau_follow_laws.proofs.GoesOn.{fronts_stand}
use Rattle.tau_follow.specs.declared.applier.Applier.{Applier}
use Rattle.tau_follow.specs.declared.stage.Stage.{Stage}
use Rattle.tau_follow.specs.declared.stage.Stage.TheVariants as stages
use Rattle.tau_follow.specs.Applying.{is_ready_in, reaches, ArePassed, set_stage, stages_from, AreSpots}
use Rattle.tau_follow.specs.Waits.{AreFound, AreKept, AreAllAbove}
use Rattle.tau_follow.specs.declared.waits.Waits.{Waits}
use Rattle.std.specs.Global.{Vec}
use Rattle.tau_follow.proofs.Queued.{found_more, found_applied, none_found, none_in}
use Rattle.tau_follow.specs.Holding.{Holds, HasApplied, HasFollowed, IsKnown, IsReadyAt}
use Rattle.tau_follow.proofs.Staging.{AtSpot, reaches_are, ready_spot, none_spot, applied_stages, passed_still}
use Rattle.tau_follow.specs.declared.spot.Spot.{Spot}
use Rattle.tau_follow.proofs.Spots.{spots_push}
use Rattle.tau_follow.proofs.Reaching.{applies_push}

got_lt : (streams : List (List Placed)) (j : ℕ) (ps : List Placed) → slice_get streams j ≡ Some ps → j < length streams
got_lt [] j ps e = absurd cc
got_lt (qs ∷ streams) zero ps e = omega arith
got_lt (qs ∷ streams) (suc j) ps e = let h = got_lt streams j ps e in omega (arith, h)

module _ (streams : List (List Placed)) (t : Followed) (a : Applier) (h : Holds streams t a) where
  -- with other indexes that are passed
  other_firsts : (b : Applier) → b.stages.items ≡ a.stages.items → b.order.items ≡ a.order.items → ArePassed a.stages.items b.firsts.items → AreKept streams a.stages.items b.waits → Holds streams t b
  other_firsts b st order passed kept = record {
    streams_are = h.streams_are;
    format = h.format;
    fed = h.fed;
    fronts = h.fronts;
    staged = record {
      stages_are = st ∙ h.staged.stages_are;
      passed = subst (λ (l : List (List Stage)). ArePassed l b.firsts.items) (sym st) passed;
      kept = subst (λ (xs : List (List Placed)). AreKept xs b.stages.items b.waits) h.streams_are (subst (λ (l : List (List Stage)). AreKept streams l b.waits) (sym st) kept);
    };
    spots = subst (λ (l : List Spot). AreSpots t.streams l t.order) (sym order) h.spots;
  }

  -- what waits, by the streams that are lent
  pub kept_is : AreKept streams a.stages.items a.waits
  kept_is = subst (λ (xs : List (List Placed)). AreKept xs a.stages.items a.waits) (sym h.streams_are) h.staged.kept

  -- how far the streams are followed is told by where their records stand
  reached_is : (list : List ℕ) → list ≡ reaches streams a.stages.items → list ≡ rlv t
  reached_is list e = e ∙ ap (reaches streams) h.staged.stages_are ∙ ap (λ (xs : List (List Placed)). reaches xs (stages_from t.out t.order 0 t.streams)) h.streams_are ∙ reaches_are t.out t.order 0 t.streams

  -- the tests of the code, as tests of the definitions
  ready_is : (list : List ℕ) (st : List (List Stage)) (j i : ℕ) (b : Bool) → list ≡ rlv t → st ≡ a.stages.items → is_ready_in list streams st j i ≡ b → is_ready_in (rlv t) t.streams (stages_from t.out t.order 0 t.streams) j i ≡ b
  ready_is list st j i b e s is =
      ap (λ (v : List ℕ). is_ready_in v t.streams (stages_from t.out t.order 0 t.streams) j i) (sym e)
      ∙ ap (λ (xs : List (List Placed)). is_ready_in list xs (stages_from t.out t.order 0 t.streams) j i) (sym h.streams_are)
      ∙ ap (λ (l : List (List Stage)). is_ready_in list streams l j i) (sym h.staged.stages_are ∙ sym s) ∙ is

  none_ready : (list fi : List ℕ) (st : List (List Stage)) → list ≡ rlv t → st ≡ a.stages.items → ArePassed a.stages.items fi →
      ((j i : ℕ) (ps : List Placed) → j < length streams → slice_get streams j ≡ Some ps → slice_index fi j ≤ i → i < length ps → is_ready_in list streams st j i ≡ false) → NoneReady t
  none_ready list fi st e s passed none =
      none_spot t fi (subst (λ (l : List (List Stage)). ArePassed l fi) h.staged.stages_are passed)
      (λ j i ps at le lt. (let there : slice_get streams j ≡ Some ps = ap (λ (xs : List (List Placed)). slice_get xs j) h.streams_are ∙ at in ready_is list st j i false e s (none j i ps (got_lt streams j ps there) there le lt)))

  spot_is : (list : List ℕ) (st : List (List Stage)) (j i : ℕ) → list ≡ rlv t → st ≡ a.stages.items → is_ready_in list streams st j i ≡ true → AtSpot t j i
  spot_is list st j i e s is = ready_spot t j i (ready_is list st j i true e s is)

  -- the record at the spot is applied
  with_spot : (b : Applier) (j i : ℕ) (x : AtSpot t j i) → b.stages.items ≡ set_stage a.stages.items j i stages.Applied → ArePassed a.stages.items b.firsts.items →
      b.order.items ≡ a.order.items ++ record { stream = j; index = i } ∷ [] → AreKept streams b.stages.items b.waits → Holds streams (applied t x.kept) b
  with_spot b j i x st passed order kept = record {
    streams_are = h.streams_are;
    format = h.format;
    fed = h.fed;
    fronts = h.fronts;
    staged = record {
      stages_are = now;
      passed = subst (λ (l : List (List Stage)). ArePassed l b.firsts.items) (sym now) (passed_still t.out t.order t.streams b.firsts.items x.kept (subst (λ (l : List (List Stage)). ArePassed l b.firsts.items) h.staged.stages_are passed));
      kept = subst (λ (xs : List (List Placed)). AreKept xs b.stages.items b.waits) h.streams_are kept;
    };
    spots = subst (λ (l : List Spot). AreSpots t.streams l (t.order ++ x.kept ∷ [])) (sym order)
        (spots_push t.streams a.order.items t.order (record { stream = j; index = i }) x.kept h.spots (record { records = x.ps; placed = x.p; stream = x.stream; there = x.there; is = x.is }));
  }
    where
      now : b.stages.items ≡ stages_from t.out (t.order ++ x.kept ∷ []) 0 t.streams
      now = st ∙ ap (λ (l : List (List Stage)). set_stage l j i stages.Applied) h.staged.stages_are ∙ sym (applied_stages t j i x (fronts_stand h.format h.fed t.streams h.fronts))

-- ---- a step

-- nothing more is applied
pub step_kept : (streams : List (List Placed)) (s : Followed) (a b : Applier) (first : List (List Stage)) → HasApplied streams s a → first ≡ a.stages.items → (ArePassed first a.firsts.items → ArePassed first b.firsts.items) →
    b.stages.items ≡ a.stages.items → b.order.items ≡ a.order.items → (AreKept streams a.stages.items a.waits → AreKept streams a.stages.items b.waits) → HasApplied streams s b
step_kept streams s a b first d first_is rose st order keeps = record {
  news = d.news;
  now = d.now;
  applies = d.applies;
  holds = other_firsts streams d.now a d.holds b st order (subst (λ (l : List (List Stage)). ArePassed l b.firsts.items) first_is (rose (subst (λ (l : List (List Stage)). ArePassed l a.firsts.items) (sym first_is) d.holds.staged.passed)))
      (keeps (kept_is streams d.now a d.holds));
}

module _ (streams : List (List Placed)) (s : Followed) (a b : Applier) (first second : List (List Stage)) (list re : List ℕ) (d : HasApplied streams s a)
    (first_is : first ≡ a.stages.items) (told : ArePassed first a.firsts.items → list ≡ reaches streams first) (rose : ArePassed first a.firsts.items → ArePassed first b.firsts.items)
    (second_is : second ≡ a.stages.items) (re_is : re ≡ list) where
  passed : ArePassed first a.firsts.items
  passed = subst (λ (l : List (List Stage)). ArePassed l a.firsts.items) (sym first_is) d.holds.staged.passed

  risen : ArePassed a.stages.items b.firsts.items
  risen = subst (λ (l : List (List Stage)). ArePassed l b.firsts.items) first_is (rose passed)

  reached : re ≡ rlv d.now
  reached = re_is ∙ reached_is streams d.now a d.holds list (told passed ∙ ap (reaches streams) first_is)

  kept : AreKept streams second a.waits
  kept = subst (λ (l : List (List Stage)). AreKept streams l a.waits) (sym second_is) (kept_is streams d.now a d.holds)

  pub step_through : b.stages.items ≡ a.stages.items → b.order.items ≡ a.order.items → (AreKept streams second a.waits → AreFound streams second [] b.waits.queues.items × AreAllAbove re b.waits.queues.items) → HasFollowed streams s b
  step_through st order none =
      let k = none kept in
      let found = found_more streams second [] b.waits.looked.items b.waits.queues.items (λ x c. none_in x _ c) k.0 in
      record {
        done = record { news = d.news; now = d.now; applies = d.applies; holds = other_firsts streams d.now a d.holds b st order risen (subst (λ (l : List (List Stage)). AreKept streams l b.waits) second_is (inr found)) };
        through = none_ready streams d.now a d.holds re b.firsts.items second reached second_is risen (λ j i ps lt at le in_it. none_found streams second b.waits.queues.items re k.0 k.1 j i);
      }

  pub step_applied : (j i : ℕ) → is_ready_in re streams second j i ≡ true → b.stages.items ≡ set_stage a.stages.items j i stages.Applied →
      b.order.items ≡ a.order.items ++ record { stream = j; index = i } ∷ [] → (AreKept streams second a.waits → AreFound streams second (b.waits.looked.items ++ record { stream = j; index = i } ∷ []) b.waits.queues.items) → HasApplied streams s b
  step_applied j i is st order found =
      let x = spot_is streams d.now a d.holds re second j i reached second_is is in
      let then_kept : AreKept streams b.stages.items b.waits = subst (λ (l : List (List Stage)). AreKept streams l b.waits) (ap (λ (l : List (List Stage)). set_stage l j i stages.Applied) second_is ∙ sym st)
      (inr (found_applied streams second b.waits.looked.items b.waits.queues.items (record { stream = j; index = i }) (found kept))) in
      record {
        news = d.news ++ x.kept ∷ [];
        now = applied d.now x.kept;
        applies = applies_push s d.now d.news x.kept d.applies x.ready;
        holds = with_spot streams d.now a d.holds b j i x st risen order then_kept;
      }

-- ---- a record that is ready

-- what was known to wait is known to
pub kept_passed : (streams : List (List Placed)) (stages : List (List Stage)) (a b : Waits) → b.lost ≡ a.lost → (AreFound streams stages a.looked.items a.queues.items → AreFound streams stages b.looked.items b.queues.items) → AreKept streams stages a → AreKept streams stages b
kept_passed streams stages a b lost found k = elim k [ inl l ↦ inl (lost ∙ l) | inr f ↦ inr (found f) ]

-- each number of a list but one
pub others_stay : (reached now : List ℕ) (j at : ℕ) → now ≡ set reached j at → (l : ℕ) → l ≢ j → slice_index now l ≡ slice_index reached l
others_stay reached now j at e l other = ap (λ (v : List ℕ). slice_index v l) e ∙ get_or-set_other reached j l at 0 other

pub that_is : (reached now : List ℕ) (j at : ℕ) → now ≡ set reached j at → j < length reached → slice_index now j ≡ at
that_is reached now j at e lt = ap (λ (v : List ℕ). slice_index v j) e ∙ get_or-set_same reached j at 0 lt

module _ (streams : List (List Placed)) (s : Followed) (a b : Applier) (reached : List ℕ) (spot : Spot) (x : IsReadyAt streams s a reached spot) where
  -- it is not applied for lack of memory
  pub not_applied : b.stages.items ≡ a.stages.items → b.order.items ≡ a.order.items → b.firsts ≡ a.firsts → b.waits.lost ≡ true → HasApplied streams s b
  not_applied st order firsts lost =
      step_kept streams s x.was b x.was.stages.items x.applied refl (λ p. subst (λ (v : Vec ℕ). ArePassed x.was.stages.items v.items) (sym (firsts ∙ x.firsts)) p)
      (st ∙ ap (λ (v : Vec (List Stage)). v.items) x.stages) (order ∙ ap (λ (v : Vec Spot). v.items) x.order) (λ k. inl lost)

  module _ (st : b.stages.items ≡ set_stage a.stages.items spot.stream spot.index stages.Applied) (order : b.order.items ≡ a.order.items ++ spot ∷ []) (firsts : b.firsts ≡ a.firsts) (waits : b.waits ≡ a.waits) where
    pub found_then : AreFound streams b.stages.items b.waits.looked.items b.waits.queues.items
    found_then = subst (λ (w : Waits). AreFound streams b.stages.items w.looked.items w.queues.items) (sym waits)
        (subst (λ (l : List (List Stage)). AreFound streams l a.waits.looked.items a.waits.queues.items) (sym st) (found_applied streams a.stages.items a.waits.looked.items a.waits.queues.items spot x.found))

    pub above_then : AreAllAbove reached b.waits.queues.items
    above_then = subst (λ (w : Waits). AreAllAbove reached w.queues.items) (sym waits) x.above

    pub applied_then : HasApplied streams s b
    applied_then =
        let same = ap (λ (v : Vec (List Stage)). v.items) x.stages in
        step_applied streams s x.was b x.was.stages.items a.stages.items reached reached x.applied refl (λ p. x.reached_is ∙ ap (reaches streams) same) (λ p. subst (λ (v : Vec ℕ). ArePassed x.was.stages.items v.items) (sym (firsts ∙ x.firsts)) p)
        same refl spot.stream spot.index x.ready (st ∙ ap (λ (l : List (List Stage)). set_stage l spot.stream spot.index stages.Applied) same) (order ∙ ap (λ (v : Vec Spot). v.items ++ spot ∷ []) x.order)
        (λ k. subst (λ (w : Waits). AreFound streams a.stages.items (w.looked.items ++ spot ∷ []) w.queues.items) (sym waits) x.found)

-- ---- what it says of how far the streams were followed is another

module _ (streams : List (List Placed)) (s : Followed) (a b : Applier) (st : b.stages ≡ a.stages) (firsts : b.firsts ≡ a.firsts) (order : b.order ≡ a.order) (waits : b.waits ≡ a.waits) where
  as_holds : (t : Followed) → Holds streams t a → Holds streams t b
  as_holds t h = other_firsts streams t a h b (ap (λ (v : Vec (List Stage)). v.items) st) (ap (λ (v : Vec Spot). v.items) order)
      (subst (λ (v : Vec ℕ). ArePassed a.stages.items v.items) (sym firsts) h.staged.passed) (subst (λ (w : Waits). AreKept streams a.stages.items w) (sym waits) (kept_is streams t a h))

  pub as_applied : HasApplied streams s a → HasApplied streams s b
  as_applied d = record { news = d.news; now = d.now; applies = d.applies; holds = as_holds d.now d.holds }

  pub as_followed : HasFollowed streams s a → HasFollowed streams s b
  as_followed g = (let d = g.done in record { done = record { news = d.news; now = d.now; applies = d.applies; holds = as_holds d.now d.holds }; through = g.through })

-- what waits is known, if it is not lost
pub found_of : (streams : List (List Placed)) (s : Followed) (a : Applier) → HasApplied streams s a → a.waits.lost ≡ false → AreFound streams a.stages.items a.waits.looked.items a.waits.queues.items
found_of streams s a d still = elim (kept_is streams d.now a d.holds) [ inl lost ↦ absurd (let z = sym lost ∙ still in cc z) | inr found ↦ found ]

-- ---- once it is looked how far the streams are followed

module _ (streams : List (List Placed)) (s : Followed) (a b : Applier) (first second : List (List Stage)) (list re : List ℕ) (d : HasApplied streams s a)
    (first_is : first ≡ a.stages.items) (told : ArePassed first a.firsts.items → list ≡ reaches streams first) (rose : ArePassed first a.firsts.items → ArePassed first b.firsts.items)
    (second_is : second ≡ a.stages.items) (re_is : re ≡ list) (st : b.stages ≡ a.stages) (order : b.order ≡ a.order)
    (found : AreKept streams second a.waits → AreFound streams second b.waits.looked.items b.waits.queues.items) (above : AreAllAbove re b.waits.queues.items) where
  stood : b.stages.items ≡ a.stages.items
  stood = ap (λ (v : Vec (List Stage)). v.items) st

  found_now : AreFound streams a.stages.items b.waits.looked.items b.waits.queues.items
  found_now = subst (λ (l : List (List Stage)). AreFound streams l b.waits.looked.items b.waits.queues.items) second_is
      (found (subst (λ (l : List (List Stage)). AreKept streams l a.waits) (sym second_is) (kept_is streams d.now a d.holds)))

  pub applied_known : HasApplied streams s b
  applied_known = step_kept streams s a b first d first_is rose stood (ap (λ (v : Vec Spot). v.items) order) (λ k. inr found_now)

  pub is_known : IsKnown streams b list
  is_known = record {
    reached_is = told (subst (λ (l : List (List Stage)). ArePassed l a.firsts.items) (sym first_is) d.holds.staged.passed) ∙ ap (reaches streams) (first_is ∙ sym stood);
    found = subst (λ (l : List (List Stage)). AreFound streams l b.waits.looked.items b.waits.queues.items) (sym stood) found_now;
    above = subst (λ (l : List ℕ). AreAllAbove l b.waits.queues.items) re_is above;
  }
