-- Cuts of the streams are closed, and each orderly order of what they hold does the same.
use Rattle.std.proofs.Common.{ℕ, ◌≤◌, ◌<◌, Bool, true, false, ◌≡◌, inl, inr, List, [], ◌∷◌, map, length, refl, sym, ap, subst, ◌∙◌, arith}
use Rattle.std.specs.List.{filter}
use Rattle.std.specs.Prelude.{slice_index}
use Rattle.std.proofs.lemmas.Bool.{cases_Bool, cases_eq}
use Rattle.std.proofs.Common.{get_or-set_other, get_or-set_same}
use Rattle.tau_base.specs.Database.{Db}
use Rattle.tau_proc.specs.Effect.{Effect}
use Rattle.tau_proc.specs.Effect.{Sound}
use Rattle.tau_model.specs.History.{Act, trace, exec, redo, Member, Before, Reordered, updates, KeepsOrder, Closed, Depends, at_once, through}
use Rattle.tau_base.specs.Vectors.{AtMost}
use Rattle.tau_model.specs.Logged.{Place, lv, StartBehind, Orderly, IsLogged, IsCutAt}
use Rattle.tau_model.proofs.Orders.{Consistent, trace_consistent, redo_trace, same_acts}
use Rattle.tau_model.proofs.Calls.{closed_part}

pub member_first : {A : Type 0} (u t : A) (xs : List A) → Before u t xs → Member u xs
member_first u t [] b = b
member_first u t (x ∷ xs) (inl p) = inl p.0
member_first u t (x ∷ xs) (inr b) = inr (member_first u t xs b)

pub member_second : {A : Type 0} (u t : A) (xs : List A) → Before u t xs → Member t xs
member_second u t [] b = b
member_second u t (x ∷ xs) (inl p) = inr p.1
member_second u t (x ∷ xs) (inr b) = inr (member_second u t xs b)

pub member_filtered : {A : Type 0} (p : A → Bool) (a : A) (xs : List A) → Member a (filter p xs) → Member a xs × (p a ≡ true)
member_filtered p a [] m = absurd m
member_filtered {A} p a (x ∷ xs) m = elim (cases_Bool (p x)) [
  | inl yes' ↦ elim (rw yes' at m) [
    | inl e ↦ (inl e, subst (λ (y : A). p y ≡ true) e yes')
    | inr n ↦ let w = member_filtered p a xs n in (inr w.0, w.1)
  ]
  | inr no' ↦ let w = member_filtered p a xs (rw no' at m) in (inr w.0, w.1)
]

pub before_filtered : {A : Type 0} (p : A → Bool) (u t : A) (xs : List A) → Before u t (filter p xs) → Before u t xs
before_filtered p u t [] b = b
before_filtered p u t (x ∷ xs) b = elim (cases_Bool (p x)) [
  | inl yes' ↦ elim (rw yes' at b) [
    | inl w ↦ inl (w.0, (member_filtered p t xs w.1).0)
    | inr c ↦ inr (before_filtered p u t xs c)
  ]
  | inr no' ↦ inr (before_filtered p u t xs (rw no' at b))
]

module _ {C : Type 0} (place : C → Place) where
  start_behind : (v : List ℕ) (u : Act C) (xs : List (Act C)) → Member u xs → StartBehind v (map (λ (x : Act C). place x.call) xs) →
      slice_index v (place u.call).stream ≤ (place u.call).start
  start_behind v u [] m h = absurd m
  start_behind v u (x ∷ xs) (inl e) h = subst (λ (y : Act C). slice_index v (place y.call).stream ≤ (place y.call).start) e h.0
  start_behind v u (x ∷ xs) (inr m) h = start_behind v u xs m h.1

  orderly_before : (t u : Act C) (xs : List (Act C)) → Before t u xs → Orderly (map (λ (x : Act C). place x.call) xs) →
      slice_index (place t.call).dep (place u.call).stream ≤ (place u.call).start
  orderly_before t u [] b h = absurd b
  orderly_before t u (x ∷ xs) (inl w) h =
      subst (λ (y : Act C). slice_index (place y.call).dep (place u.call).stream ≤ (place u.call).start) w.0 (start_behind (place x.call).dep u xs w.1 h.0.1)
  orderly_before t u (x ∷ xs) (inr b) h = orderly_before t u xs b h.1

  -- some of the records after
  behind_filtered : (p : Act C → Bool) (v : List ℕ) (xs : List (Act C)) →
      ((x : Act C) → Member x xs → p x ≡ true → slice_index v (place x.call).stream ≤ (place x.call).start) →
      StartBehind v (map (λ (x : Act C). place x.call) (filter p xs))
  behind_filtered p v [] h = tt
  behind_filtered p v (x ∷ xs) h = elim (cases_Bool (p x)) [
    | inl yes' ↦ rw yes' (h x (inl refl) yes', behind_filtered p v xs (λ y m. h y (inr m)))
    | inr no' ↦ rw no' (behind_filtered p v xs (λ y m. h y (inr m)))
  ]

  pub orderly_filtered : (p : Act C → Bool) (xs : List (Act C)) →
      ((r : Act C) → Member r xs → p r ≡ true → slice_index (place r.call).dep (place r.call).stream ≤ (place r.call).start) →
      ((t r : Act C) → Before t r xs → p r ≡ true → slice_index (place t.call).dep (place r.call).stream ≤ (place r.call).start) →
      Orderly (map (λ (x : Act C). place x.call) (filter p xs))
  orderly_filtered p [] own later = tt
  orderly_filtered p (x ∷ xs) own later =
      let rest = orderly_filtered p xs (λ r m. own r (inr m)) (λ t r b. later t r (inr b)) in
      elim (cases_Bool (p x)) [
        | inl yes' ↦ rw yes' ((own x (inl refl) yes', behind_filtered p (place x.call).dep xs (λ r m. later x r (inl (refl, m)))), rest)
        | inr no' ↦ rw no' rest
      ]

  -- the own component of a record's vector is its end
  own_end : (p : Place) → p.stream < length p.dep → slice_index (lv true p) p.stream ≡ p.past
  own_end p h = get_or-set_same p.dep p.stream p.past 0 h

  module _ (ends : List ℕ) (acts : List (Act C)) (logged : IsLogged place ends acts) where
    -- a vector covers the dep that it is made of
    raised : (x : Act C) → Member x acts → AtMost (place x.call).dep (lv (updates x.effect) (place x.call))
    raised x m = by_case (updates x.effect) refl
      where
        by_case : (b : Bool) → updates x.effect ≡ b → AtMost (place x.call).dep (lv b (place x.call))
        by_case false e j = omega arith
        by_case true e j = elim (cases_eq j (place x.call).stream) [
          | inl is ↦
              let behind : slice_index (place x.call).dep (place x.call).stream ≤ (place x.call).start = logged.places.own x m e in
              let ends : slice_index (lv true (place x.call)) (place x.call).stream ≡ (place x.call).past = own_end (place x.call) (logged.places.placed x m e).1 in
              let goes : (place x.call).start < (place x.call).past = (logged.places.placed x m e).2 in
              let at : slice_index (place x.call).dep (place x.call).stream ≤ slice_index (lv true (place x.call)) (place x.call).stream = rw ends (omega arith) in
              rw is at
          | inr other ↦ let same = get_or-set_other (place x.call).dep (place x.call).stream j (place x.call).past 0 other in omega (arith, same)
        ]

    -- what a call depends on has a vector that the call's dep covers
    pub depends_covers : (t u : Act C) → Depends acts t u → Member t acts × Member u acts × AtMost (lv (updates u.effect) (place u.call)) (place t.call).dep
    depends_covers t u (at_once b c) = (member_second u t acts b, member_first u t acts b, logged.ordered u t b c)
    depends_covers t u (through {v = v} d e) =
        let (mt, mv, h) = depends_covers t v d in let (mv', mu, k) = depends_covers v u e in
        let r = raised v mv in
        (mt, mu, λ j. let a = k j in let b = r j in let c = h j in omega arith)

    -- a cut of the streams is closed
    pub cut_closed : (cut : List ℕ) (chosen : C → Bool) → IsCutAt place cut acts chosen → Closed acts chosen
    cut_closed cut chosen is t u d in' up =
        let (mt, mu, h) = depends_covers t u d in
        let taken = (is t mt).0 in' in
        let r = raised u mu in
        let below : AtMost (lv (updates u.effect) (place u.call)) cut = λ j. let a = h j in let b = taken.2 j in omega arith in
        let own : slice_index (lv true (place u.call)) (place u.call).stream ≤ slice_index cut (place u.call).stream = rw up at (below (place u.call).stream) in
        let past : slice_index (lv true (place u.call)) (place u.call).stream ≡ (place u.call).past = own_end (place u.call) (logged.places.placed u mu up).1 in
        (is u mu).1 (up, rw past at own, λ j. let a = r j in let b = below j in omega arith)

module _ {C : Type 0} (meaning : C → Db → Effect) (sound : Sound meaning) (place : C → Place) (ends : List ℕ) (h : List C) (db : Db) (logged : IsLogged place ends (trace meaning h db)) where
  -- an orderly order has no conflicting pair the other way round
  pub orderly_keeps : (xs ys : List (Act C)) → ((u t : Act C) → Before u t xs → Before u t (trace meaning h db)) → ((x : Act C) → Member x xs → updates x.effect ≡ true) →
      Orderly (map (λ (x : Act C). place x.call) ys) → KeepsOrder xs ys
  orderly_keeps xs ys sub all ord u t b c v =
      let m : Member u (trace meaning h db) = member_first u t (trace meaning h db) (sub u t b) in
      let up : updates u.effect ≡ true = all u (member_first u t xs b) in
      let low : slice_index (place t.call).dep (place u.call).stream ≤ (place u.call).start = orderly_before place t u ys v ord in
      let high = logged.ordered u t (sub u t b) c (place u.call).stream in
      let ends = own_end place (place u.call) (logged.places.placed u m up).1 in
      let goes : (place u.call).start < (place u.call).past = (logged.places.placed u m up).2 in
      let above : (place u.call).past ≤ slice_index (place t.call).dep (place u.call).stream = rw (up, ends) at high in
      omega arith

  -- every orderly order of the records of a closed set does what executing the set alone does
  pub orderly_redo : (chosen : C → Bool) (ys : List (Act C)) → Closed (trace meaning h db) chosen →
      ((x : Act C) → Member x (trace meaning h db) → chosen x.call ≡ true → updates x.effect ≡ true) →
      Reordered (filter (λ (x : Act C). chosen x.call) (trace meaning h db)) ys → Orderly (map (λ (x : Act C). place x.call) ys) →
      Consistent meaning ys db × (redo ys db ≡ exec meaning (filter chosen h) db)
  orderly_redo chosen ys closed all r ord =
      let keep : Act C → Bool = λ x. chosen x.call in
      let acts : List (Act C) = trace meaning h db in
      let alone : trace meaning (filter chosen h) db ≡ filter keep acts = closed_part meaning sound h chosen db closed in
      let part : Consistent meaning (filter keep acts) db = subst (λ (zs : List (Act C)). Consistent meaning zs db) alone (trace_consistent meaning (filter chosen h) db) in
      let keeps : KeepsOrder (filter keep acts) ys = orderly_keeps (filter keep acts) ys (λ u t b. before_filtered keep u t acts b)
      (λ x m. let w = member_filtered keep x acts m in all x w.0 w.1) ord in
      let same = same_acts meaning sound (filter keep acts) ys db part r keeps in
      let whole : redo (filter keep acts) db ≡ exec meaning (filter chosen h) db = ap (λ (zs : List (Act C)). redo zs db) (sym alone) ∙ redo_trace meaning (filter chosen h) db in
      (same.0, same.1 ∙ whole)

-- what a covered call stands on is taken
module _ {C : Type 0} (place : C → Place) (ends : List ℕ) (acts : List (Act C)) (logged : IsLogged place ends acts)
    (cut : List ℕ) (chosen : C → Bool) (is : IsCutAt place cut acts chosen) where
  -- an updating call whose vector the cut covers is taken
  pub covered_taken : (x : Act C) → Member x acts → updates x.effect ≡ true → AtMost (lv (updates x.effect) (place x.call)) cut → chosen x.call ≡ true
  covered_taken x m up low =
      let own : slice_index (lv true (place x.call)) (place x.call).stream ≤ slice_index cut (place x.call).stream = rw up at (low (place x.call).stream) in
      let past : slice_index (lv true (place x.call)) (place x.call).stream ≡ (place x.call).past = own_end place (place x.call) (logged.places.placed x m up).1 in
      let r = raised place ends acts logged x m in
      (is x m).1 (up, rw past at own, λ j. let a = r j in let b = low j in omega arith)

  -- and so is each updating call on which a covered call depends, also a read-only one
  pub covered_depends : (x u : Act C) → AtMost (lv (updates x.effect) (place x.call)) cut → Depends acts x u → updates u.effect ≡ true → chosen u.call ≡ true
  covered_depends x u low d up =
      let (mx, mu, h) = depends_covers place ends acts logged x u d in
      let r = raised place ends acts logged x mx in
      covered_taken u mu up (λ j. let a = h j in let b = r j in let c = low j in omega arith)
