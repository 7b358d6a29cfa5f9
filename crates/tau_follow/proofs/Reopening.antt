-- Records that were applied are opened again.
use Rattle.std.proofs.Common.{ℕ, zero, suc, ◌+◌, ◌-◌, ◌≤◌, ◌<◌, true, ◌≡◌, inl, inr, List, [], ◌∷◌, ◌++◌, length, take, set, Some, refl, sym, ap, subst, ◌∙◌, arith, append_assoc}
use Rattle.std.specs.Prelude.{slice_get, slice_index_or}
use Rattle.std.proofs.lemmas.List.{length-append, append-nil}
use Rattle.std.proofs.Math.Seq.{take-append_seam}
use Rattle.tau_record.specs.declared.entry.Placed.{Placed}
use Rattle.tau_scan.specs.Taken.{Kept, kept_as}
use Rattle.tau_follow_laws.specs.Following.{Followed, IsReady, Applies, applied}
use Rattle.tau_follow_laws.proofs.Among.{open_parts}
use Rattle.tau_follow_laws.proofs.GoesOn.{fronts_stand}
use Rattle.tau_follow_laws.proofs.Order.{applies_is}
use Rattle.tau_follow.specs.declared.applier.Applier.{Applier}
use Rattle.tau_follow.specs.declared.spot.Spot.{Spot}
use Rattle.tau_follow.specs.declared.stage.Stage.{Stage}
use Rattle.tau_follow.specs.declared.stage.Stage.TheVariants as stages
use Rattle.tau_follow.specs.Applying.{stage_as, stages_in, stages_from, set_stage, AreZero, IsWithin, IsSpot, AreSpots}
use Rattle.tau_follow.specs.Holding.{Holds, HasApplied}
use Rattle.tau_follow.specs.Reading.{BeginsWith}
use Rattle.tau_follow.proofs.Extending.{fresh_one, stages_long}
use Rattle.tau_follow.proofs.Fed.{none_passed}
use Rattle.tau_follow.proofs.Spots.{spots_long, content_of}
use Rattle.tau_follow.proofs.Staging.{AtSpot, entry_kept, stages_at, stage_at, applied_stages}

-- ---- the last of a list

pub last_split : {A : Type 0} (xs : List A) → 0 < length xs → (us : List A) × (x : A) × (xs ≡ us ++ x ∷ [])
last_split [] lt = absurd (omega (arith, lt))
last_split (x ∷ []) lt = ([], x, refl)
last_split (x ∷ y ∷ xs) lt = let w = last_split (y ∷ xs) (omega arith) in (x ∷ w.0, w.1, ap (λ l. x ∷ l) w.2)

front_only : {A : Type 0} (us : List A) (x : A) → take (length (us ++ x ∷ []) - 1) (us ++ x ∷ []) ≡ us
front_only us x =
    let long = length-append us (x ∷ []) in
    let n : length (us ++ x ∷ []) - 1 ≡ length us = omega (arith, long) in
    ap (λ (k : ℕ). take k (us ++ x ∷ [])) n ∙ take-append_seam us (x ∷ [])

pub begins_pop : {A : Type 0} (xs ys zs : List A) → BeginsWith xs ys → length xs < length ys → zs ≡ take (length ys - 1) ys → BeginsWith xs zs
begins_pop xs ys zs h lt e =
    let long = ap length h.1 ∙ length-append xs h.0 in
    let w = last_split h.0 (omega (arith, long, lt)) in
    let is : ys ≡ (xs ++ w.0) ++ w.1 ∷ [] = h.1 ∙ ap (λ l. xs ++ l) w.2 ∙ sym (append_assoc xs w.0 (w.1 ∷ [])) in
    (w.0, e ∙ ap (λ l. take (length l - 1) l) is ∙ front_only (xs ++ w.0) w.1)

none_there : {A : Type 0} (l : List A) → length l ≡ 0 → l ≡ []
none_there [] e = refl
none_there (x ∷ l) e = absurd (omega (arith, e))

pub begins_all : {A : Type 0} (xs ys : List A) → BeginsWith xs ys → length ys ≤ length xs → ys ≡ xs
begins_all xs ys h le = let long = ap length h.1 ∙ length-append xs h.0 in h.1 ∙ ap (λ l. xs ++ l) (none_there h.0 (omega (arith, long, le))) ∙ append-nil xs

-- ---- the last that was applied

applies_pop : (s t : Followed) (us : List Kept) (r : Kept) → Applies s (us ++ r ∷ []) t → (m : Followed) × Applies s us m × IsReady m r × (t ≡ applied m r)
applies_pop s t [] r h = (s, refl, h.0, h.1)
applies_pop s t (u ∷ us) r h = let w = applies_pop (applied s u) t us r h.1 in (w.0, (h.0, w.1), w.2, w.3)

spots_pop : (streams : List (List Placed)) (spots : List Spot) (order : List Kept) (r : Kept) → AreSpots streams spots (order ++ r ∷ []) → (xs : List Spot) × (x : Spot) × (spots ≡ xs ++ x ∷ []) × AreSpots streams xs order × IsSpot streams x r
spots_pop streams [] [] r h = absurd h
spots_pop streams [] (q ∷ order) r h = absurd h
spots_pop streams (y ∷ []) [] r h = ([], y, refl, tt, h.0)
spots_pop streams (y ∷ z ∷ spots) [] r h = absurd h.1
spots_pop streams (y ∷ spots) (q ∷ order) r h = let w = spots_pop streams spots order r h.1 in (y ∷ w.0, w.1, ap (λ (l : List Spot). y ∷ l) w.2, (h.0, w.3), w.4)

kept_place : (j : ℕ) (p : Placed) (r : Kept) → kept_as j p p.entry ≡ r ∷ [] → (r.place.stream ≡ j) × (r.place.start ≡ p.start)
kept_place j p r is = elim (entry_kept j p p.entry) [
  | inr none ↦ absurd (let z : ◌≡◌ {A = List Kept} [] (r ∷ []) = sym none ∙ is in cc z)
  | inl w ↦
      let lists : ◌≡◌ {A = List Kept} (w.0 ∷ []) (r ∷ []) = sym w.1 ∙ is in
      let same : w.0 ≡ r = cc in
      (subst (λ (z : Kept). z.place.stream ≡ j) same w.3, subst (λ (z : Kept). z.place.start ≡ p.start) same w.4)
]

abbrev at_spot : (m : Followed) (x : Spot) (r : Kept) → IsSpot m.streams x r → IsReady m r → AtSpot m x.stream x.index
at_spot m x r s ready = record {
  ps = s.records;
  p = s.placed;
  kept = r;
  stream = s.stream;
  there = s.there;
  is = s.is;
  content = content_of x.stream s.placed s.placed.entry r s.is;
  at_stream = (kept_place x.stream s.placed r s.is).0;
  at_start = (kept_place x.stream s.placed r s.is).1;
  ready = ready;
}

got_lt : (ps : List Placed) (i : ℕ) (p : Placed) → slice_get ps i ≡ Some p → i < length ps
got_lt [] i p e = absurd cc
got_lt (q ∷ ps) zero p e = omega arith
got_lt (q ∷ ps) (suc i) p e = let h = got_lt ps i p e in omega (arith, h)

spot_within : (out order : List Kept) (streams : List (List Placed)) (x : Spot) (r : Kept) → IsSpot streams x r → IsWithin (stages_from out order 0 streams) x
spot_within out order streams x r s =
    let k : 0 + x.stream ≡ x.stream = omega arith in
    let lt = got_lt s.records x.index s.placed s.there in
    let long = stages_long out order (0 + x.stream) s.records in
    (stages_in out order (0 + x.stream) s.records, stages_at out order 0 x.stream streams s.records s.stream, omega (arith, lt, long))

set_back : {A : Type 0} (xs : List A) (j : ℕ) (x y : A) → slice_get xs j ≡ Some x → set (set xs j y) j x ≡ xs
set_back [] j x y e = refl
set_back (z ∷ xs) zero x y e = let same : z ≡ x = cc in ap (λ w. w ∷ xs) (sym same)
set_back (z ∷ xs) (suc j) x y e = ap (λ l. z ∷ l) (set_back xs j x y e)

stage_back : (all : List (List Stage)) (j i : ℕ) (ss : List Stage) (v w : Stage) → slice_get all j ≡ Some ss → slice_get ss i ≡ Some v → set_stage (set_stage all j i w) j i v ≡ all
stage_back [] j i ss v w e g = refl
stage_back (z ∷ all) zero i ss v w e g = let same : z ≡ ss = cc in ap (λ (l : List Stage). l ∷ all) (set_back z i v w (ap (λ (l : List Stage). slice_get l i) same ∙ g))
stage_back (z ∷ all) (suc j) i ss v w e g = ap (λ (l : List (List Stage)). z ∷ l) (stage_back all j i ss v w e g)

-- a ready record stands open
open_there : (m : Followed) (x : Spot) (r : Kept) (s : IsSpot m.streams x r) → IsReady m r → slice_get (stages_in m.out m.order (0 + x.stream) s.records) x.index ≡ Some stages.Open
open_there m x r s ready =
    let k : x.stream ≡ 0 + x.stream = omega arith in
    let is : kept_as (0 + x.stream) s.placed s.placed.entry ≡ r ∷ [] = subst (λ (l : ℕ). kept_as l s.placed s.placed.entry ≡ r ∷ []) k s.is in
    stage_at m.out m.order (0 + x.stream) x.index s.records s.placed s.there
    ∙ ap (λ (l : List Kept). Some (stage_as m.out m.order l)) is ∙ ap (λ (z : Stage). Some z) (fresh_one m.out m.order r (open_parts m.out m.order r ready.open_still))

module _ (streams : List (List Placed)) (s : Followed) (a b : Applier) (zeros : AreZero a.firsts.items) (lost : b.waits.lost ≡ true) (firsts : b.firsts ≡ a.firsts) (front : b.order.items ≡ take (length a.order.items - 1) a.order.items)
    (opened : (spot : Spot) → a.order.items ≡ b.order.items ++ spot ∷ [] → IsWithin a.stages.items spot → b.stages.items ≡ set_stage a.stages.items spot.stream spot.index stages.Open) where
  back : (us : List Kept) (m : Followed) (r : Kept) → Applies s us m → IsReady m r → Holds streams (applied m r) a → HasApplied streams s b
  back us m r went ready h = record {
    news = us;
    now = m;
    applies = went;
    holds = record {
      streams_are = h.streams_are;
      format = h.format;
      fed = h.fed;
      fronts = h.fronts;
      staged = record { stages_are = stages_now; passed = none_passed b.stages.items b.firsts.items (λ j. ap (λ v. slice_at v.items j) firsts ∙ zeros j); kept = inl lost };
      spots = subst (λ (l : List Spot). AreSpots m.streams l m.order) (sym order_is) w.3;
    };
  }
    where
      slice_at : List ℕ → ℕ → ℕ
      slice_at l j = slice_index_or l j 0

      w : (xs : List Spot) × (x : Spot) × (a.order.items ≡ xs ++ x ∷ []) × AreSpots m.streams xs m.order × IsSpot m.streams x r
      w = spots_pop m.streams a.order.items m.order r h.spots

      order_is : b.order.items ≡ w.0
      order_is = front ∙ ap (λ (l : List Spot). take (length l - 1) l) w.2 ∙ front_only w.0 w.1

      before : List (List Stage)
      before = stages_from m.out m.order 0 m.streams

      stood : a.stages.items ≡ set_stage before w.1.stream w.1.index stages.Applied
      stood = h.staged.stages_are ∙ applied_stages m w.1.stream w.1.index (at_spot m w.1 r w.4 ready) (fronts_stand h.format h.fed m.streams h.fronts)

      within : IsWithin a.stages.items w.1
      within = subst (λ (l : List (List Stage)). IsWithin l w.1) (sym h.staged.stages_are) (spot_within m.out (m.order ++ r ∷ []) m.streams w.1 r w.4)

      k : 0 + w.1.stream ≡ w.1.stream
      k = omega arith

      stages_now : b.stages.items ≡ before
      stages_now =
          opened w.1 (w.2 ∙ ap (λ (l : List Spot). l ++ w.1 ∷ []) (sym order_is)) within
          ∙ ap (λ (l : List (List Stage)). set_stage l w.1.stream w.1.index stages.Open) stood
          ∙ stage_back before w.1.stream w.1.index (stages_in m.out m.order (0 + w.1.stream) w.4.records) stages.Open stages.Applied (stages_at m.out m.order 0 w.1.stream m.streams w.4.records w.4.stream) (open_there m w.1 r w.4 ready)

  -- one record that was applied is opened again
  pub reopened_last : HasApplied streams s a → length s.order < length a.order.items → HasApplied streams s b
  reopened_last d lt =
      let is = (applies_is s d.now d.news d.applies).2 in
      let long = ap length is ∙ length-append s.order d.news in
      let many = spots_long d.now.streams a.order.items d.now.order d.holds.spots in
      let x = last_split d.news (omega (arith, long, many, lt)) in
      let went = applies_pop s d.now x.0 x.1 (subst (λ (l : List Kept). Applies s l d.now) x.2 d.applies) in
      back x.0 went.0 x.1 went.1 went.2 (subst (λ (t : Followed). Holds streams t a) went.3 d.holds)

-- all are
pub reopened_all : (streams : List (List Placed)) (s : Followed) (a : Applier) → HasApplied streams s a → length a.order.items ≤ length s.order → a.stages.items ≡ stages_from s.out s.order 0 s.streams
reopened_all streams s a d le =
    let is = (applies_is s d.now d.news d.applies).2 in
    let long = ap length is ∙ length-append s.order d.news in
    let many = spots_long d.now.streams a.order.items d.now.order d.holds.spots in
    by d.news d.applies (omega (arith, long, many, le))
  where
    by : (news : List Kept) → Applies s news d.now → length news ≡ 0 → a.stages.items ≡ stages_from s.out s.order 0 s.streams
    by [] went none = d.holds.staged.stages_are ∙ ap (λ (t : Followed). stages_from t.out t.order 0 t.streams) went
    by (r ∷ news) went none = absurd (omega (arith, none))
