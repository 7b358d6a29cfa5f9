-- The reported history lists each call once, keeps each stream's order, and lists no call before one that its dep covers.
use Rattle.std.proofs.Common.{ℕ, zero, suc, ◌≤◌, ◌<◌, Bool, true, false, ◌||◌, ◌≡◌, ◌⊎◌, inl, inr, List, [], ◌∷◌, ◌++◌, length, refl, sym, ap, subst, ◌∙◌, arith, Option, length-append, get_or-set_other, get_or-set_same, length-set}
use Rattle.std.specs.Prelude.{Some, None, not, nat_le, ◌==◌, slice_index, slice_index_or, slice_set}
use Rattle.std.specs.List.{filter}
use Rattle.std.proofs.lemmas.List.Elements.{filter-append}
use Rattle.std.proofs.lemmas.Bool.{cases_Bool, both_ways, cases_eq, and_parts, and_from, leb-true, le-leb, eqb-true, eq-eqb, ne_eqb, and_right, and_left, or_cases}
use Rattle.tau_model.specs.History.{Member, Before, Reordered}
use Rattle.tau_base.specs.Vectors.{AtMost}
use Rattle.tau_model.specs.Logged.{Place, lv, IsPlaced}
use Rattle.tau_base.specs.Vectors.{covers}
use Rattle.tau_model.specs.Reported.{with_rest, take_first, with_front, take_record, Left, next_start, emitted, picked, listed, reported_within, in_stream, IsLeft}
use Rattle.tau_model.proofs.Orders.{member_put, before_put, member_back, member_reordered}
use Rattle.tau_model.proofs.Reorder.{pulled, reordered_put}
use Rattle.tau_base.proofs.Vectors.{covers_at_most, at_most_covers}

-- what is taken from a list
abbrev pub FirstTaken : {A : Type 0} → (A → Bool) → List A → Option (A × List A) → Type 0
FirstTaken {A} p xs None = (x : A) → Member x xs → p x ≡ false
FirstTaken {A} p xs (Some w) = (front : List A) × (back : List A) × (xs ≡ front ++ w.0 ∷ back) × (w.1 ≡ front ++ back) × (p w.0 ≡ true)

pub take_first_is : {A : Type 0} (p : A → Bool) (xs : List A) → FirstTaken p xs (take_first p xs)
take_first_is p [] = λ x m. absurd m
take_first_is {A} p (y ∷ ys) = elim (cases_Bool (p y)) [
  | inl is ↦ rw is ([], ys, refl, refl, is)
  | inr no' ↦ rw no' (behind (take_first p ys) no' (take_first_is p ys))
]
  where
    behind : (o : Option (A × List A)) → p y ≡ false → FirstTaken p ys o → FirstTaken p (y ∷ ys) (with_rest y o)
    behind None no' h = λ x m. elim m [ inl e ↦ subst (λ (z : A). p z ≡ false) e no' | inr n ↦ h x n ]
    behind (Some w) no' (front, back, e, r, t) = (y ∷ front, back, ap (λ l. y ∷ l) e, ap (λ l. y ∷ l) r, t)

abbrev pub RecordTaken : {A : Type 0} → (A → Bool) → List (List A) → Option (A × List (List A)) → Type 0
RecordTaken {A} p streams None = (j : ℕ) (r : A) (rs : List A) → slice_index_or streams j [] ≡ r ∷ rs → p r ≡ false
RecordTaken {A} p streams (Some w) =
    (j : ℕ) × (rs : List A) × (j < length streams) × (slice_index_or streams j [] ≡ w.0 ∷ rs) × (w.1 ≡ slice_set streams j rs) × (p w.0 ≡ true)

behind_stream : {A : Type 0} (p : A → Bool) (s : List A) (streams : List (List A)) (o : Option (A × List (List A))) →
    ((r : A) (rs : List A) → s ≡ r ∷ rs → p r ≡ false) → RecordTaken p streams o → RecordTaken p (s ∷ streams) (with_front s o)
behind_stream {A} p s streams None no' h = at
  where
    at : (j : ℕ) (r : A) (rs : List A) → slice_index_or (s ∷ streams) j [] ≡ r ∷ rs → p r ≡ false
    at zero r rs e = no' r rs e
    at (suc j) r rs e = h j r rs e
behind_stream p s streams (Some w) no' (j, rs, lt, e, r, t) = (suc j, rs, omega arith, e, ap (λ l. s ∷ l) r, t)

pub take_record_is : {A : Type 0} (p : A → Bool) (streams : List (List A)) → RecordTaken p streams (take_record p streams)
take_record_is p [] = λ j r rs e. cc
take_record_is p ([] ∷ streams) = behind_stream p [] streams (take_record p streams) (λ r rs e. cc) (take_record_is p streams)
take_record_is {A} p ((x ∷ xs) ∷ streams) = elim (cases_Bool (p x)) [
  | inl is ↦ rw is (0, xs, omega arith, refl, refl, is)
  | inr no' ↦ rw no' (behind_stream p (x ∷ xs) streams (take_record p streams)
      (λ r rs e. let same : x ≡ r = cc in subst (λ (z : A). p z ≡ false) same no') (take_record_is p streams))
]

-- where what passes is cut at an element, the whole list is
filter_cut : {A : Type 0} (q : A → Bool) (xs us : List A) (x : A) (vs : List A) → filter q xs ≡ us ++ x ∷ vs →
    (front : List A) × (back : List A) × (xs ≡ front ++ x ∷ back) × (filter q front ≡ us) × (filter q back ≡ vs) × (q x ≡ true)
filter_cut q [] [] x vs e = cc
filter_cut q [] (u ∷ us) x vs e = cc
filter_cut {A} q (y ∷ ys) us x vs e = elim (cases_Bool (q y)) [
  | inl is ↦ kept us is (rw is at e) (λ ws. filter_cut q ys ws x vs)
  | inr no' ↦ dropped no' (filter_cut q ys us x vs (rw no' at e))
]
  where
    kept : (ws : List A) → q y ≡ true → y ∷ filter q ys ≡ ws ++ x ∷ vs →
        ((ts : List A) → filter q ys ≡ ts ++ x ∷ vs → (front : List A) × (back : List A) × (ys ≡ front ++ x ∷ back) × (filter q front ≡ ts) × (filter q back ≡ vs) × (q x ≡ true)) →
        (front : List A) × (back : List A) × (y ∷ ys ≡ front ++ x ∷ back) × (filter q front ≡ ws) × (filter q back ≡ vs) × (q x ≡ true)
    kept [] is d rest = let same : y ≡ x = cc in let others : filter q ys ≡ vs = cc in
        ([], ys, cc, refl, others, subst (λ (z : A). q z ≡ true) same is)
    kept (w ∷ ws) is d rest = let same : y ≡ w = cc in let others : filter q ys ≡ ws ++ x ∷ vs = cc in
        let (front, back, p1, p2, p3, p4) = rest ws others in
        (y ∷ front, back, ap (λ l. y ∷ l) p1, rw is cc, p3, p4)

    dropped : q y ≡ false → (front : List A) × (back : List A) × (ys ≡ front ++ x ∷ back) × (filter q front ≡ us) × (filter q back ≡ vs) × (q x ≡ true) →
        (front : List A) × (back : List A) × (y ∷ ys ≡ front ++ x ∷ back) × (filter q front ≡ us) × (filter q back ≡ vs) × (q x ≡ true)
    dropped no' (front, back, p1, p2, p3, p4) = (y ∷ front, back, ap (λ l. y ∷ l) p1, rw no' p2, p3, p4)

-- an element that does not pass
filter_without : {A : Type 0} (q : A → Bool) (front : List A) (x : A) (back : List A) → q x ≡ false → filter q (front ++ x ∷ back) ≡ filter q (front ++ back)
filter_without q [] x back e = rw e refl
filter_without q (y ∷ front) x back e = elim (cases_Bool (q y)) [
  | inl is ↦ rw is (ap (λ l. y ∷ l) (filter_without q front x back e))
  | inr no' ↦ rw no' (filter_without q front x back e)
]

pub member_filter_in : {A : Type 0} (q : A → Bool) (xs : List A) (x : A) → Member x xs → q x ≡ true → Member x (filter q xs)
member_filter_in q [] x m e = m
member_filter_in {A} q (y ∷ ys) x m e = elim (cases_Bool (q y)) [
  | inl is ↦ rw is (elim m [ inl p ↦ inl p | inr n ↦ inr (member_filter_in q ys x n e) ])
  | inr no' ↦ rw no' (elim m [
    | inl p ↦ absurd (both_ways (q x) (subst (λ (z : A). q z ≡ false) p no') e)
    | inr n ↦ member_filter_in q ys x n e
  ])
]

-- the first that passes is an element, and before any other that passes
filter_head : {A : Type 0} (q : A → Bool) (xs : List A) (r : A) (rs : List A) → filter q xs ≡ r ∷ rs → (u : A) → Member u xs → q u ≡ true → (r ≡ u) ⊎ Before r u xs
filter_head q [] r rs e u m t = absurd m
filter_head {A} q (y ∷ ys) r rs e u m t = elim (cases_Bool (q y)) [
  | inl is ↦ let d = rw is at e in let same : y ≡ r = cc in elim m [
    | inl p ↦ inl (sym same ∙ p)
    | inr n ↦ inr (inl (same, n))
  ]
  | inr no' ↦ elim m [
    | inl p ↦ absurd (both_ways (q u) (subst (λ (z : A). q z ≡ false) p no') t)
    | inr n ↦ elim (filter_head q ys r rs (rw no' at e) u n t) [ inl p ↦ inl p | inr b ↦ inr (inr b) ]
  ]
]

first_passes : {A : Type 0} (q : A → Bool) (xs : List A) (r : A) (rs : List A) → filter q xs ≡ r ∷ rs → Member r xs × (q r ≡ true)
first_passes q xs r rs e = let (front, back, p1, p2, p3, p4) = filter_cut q xs [] r rs e in
    (subst (λ l. Member r l) (sym p1) (member_back r front (r ∷ back) (inl refl)), p4)

module _ {A : Type 0} (place : A → Place) (up : A → Bool) where
  -- t's dep covers u's vector, and one of the two writes
  abbrev pub Late : A → A → Type 0
  Late t u = AtMost (lv (up u) (place u)) (place t).dep × ((up u || up t) ≡ true)

  -- what the report is, of calls that can be listed
  pub record IsReport (acts : List A) (streams : List (List A)) (out : List A) : Type 0 where
    pub once : Reordered acts out
    pub in_order : (t u : A) → Before t u out → Late t u → ⊥
    pub by_stream : (j : ℕ) → filter (in_stream place up j) out ≡ slice_index_or streams j []

  stream_is : (j : ℕ) (x : A) → in_stream place up j x ≡ true → (up x ≡ true) × ((place x).stream ≡ j)
  stream_is j x e = let parts = and_parts (up x) ((place x).stream == j) e in (parts.0, eqb-true (place x).stream j parts.1)

  is_stream : (x : A) → up x ≡ true → in_stream place up (place x).stream x ≡ true
  is_stream x e = and_from (up x) ((place x).stream == (place x).stream) e (eq-eqb (place x).stream (place x).stream refl)

  not_stream : (j : ℕ) (x : A) → ((place x).stream ≡ j → ⊥) → in_stream place up j x ≡ false
  not_stream j x h = and_right (up x) ((place x).stream == j) (ne_eqb (place x).stream j h)

  -- without one of the calls the others can be listed
  shrunk : (ends : List ℕ) (front : List A) (x : A) (back : List A) → IsPlaced place up ends (front ++ x ∷ back) → IsPlaced place up ends (front ++ back)
  shrunk ends front x back h = record {
    own = λ r m. h.own r (member_put x r front back m);
    later = λ t r b. h.later t r (before_put x t r front back b);
    starts = λ r s b. h.starts r s (before_put x r s front back b);
    ended = λ t m. h.ended t (member_put x t front back m);
    placed = λ r m. h.placed r (member_put x r front back m);
  }

  pub emitted_at : (streams : List (List A)) (ends : List ℕ) → length streams ≡ length ends → (j : ℕ) →
      slice_index (emitted place streams ends) j ≡ next_start place (slice_index_or streams j []) (slice_index ends j)
  emitted_at [] [] e j = refl
  emitted_at [] (b ∷ ends) e j = absurd (omega arith)
  emitted_at (s ∷ streams) [] e j = absurd (omega arith)
  emitted_at (s ∷ streams) (b ∷ ends) e zero = refl
  emitted_at (s ∷ streams) (b ∷ ends) e (suc j) = emitted_at streams ends (omega arith) j

  module _ (ends : List ℕ) (acts : List A) (can : IsPlaced place up ends acts) (left : Left A) (is : IsLeft place up ends acts left) where
    -- a record that is left starts at or after what is emitted
    emitted_low : (u : A) → Member u acts → up u ≡ true → slice_index (emitted place left.streams ends) (place u).stream ≤ (place u).start
    emitted_low u m t = rw (emitted_at left.streams ends is.count (place u).stream)
        (at (slice_index_or left.streams (place u).stream []) refl)
      where
        at : (s : List A) → slice_index_or left.streams (place u).stream [] ≡ s → next_start place s (slice_index ends (place u).stream) ≤ (place u).start
        at [] e = absurd (subst (λ (l : List A). Member u l) (sym (is.streams (place u).stream) ∙ e) (member_filter_in (in_stream place up (place u).stream) acts u m (is_stream u t)))
        at (r ∷ rs) e =
            let f : filter (in_stream place up (place u).stream) acts ≡ r ∷ rs = sym (is.streams (place u).stream) ∙ e in
            let w = first_passes (in_stream place up (place u).stream) acts r rs f in
            let s = stream_is (place u).stream r w.1 in
            elim (filter_head (in_stream place up (place u).stream) acts r rs f u m (is_stream u t)) [
              | inl same ↦ let p : (place r).start ≡ (place u).start = ap (λ (z : A). (place z).start) same in omega arith
              | inr b ↦ let p = can.starts r u b s.0 t s.1 in omega arith
            ]

    -- the first of the calls that are left is covered
    first_covered : (t : A) (later : List A) → acts ≡ t ∷ later → covers (emitted place left.streams ends) (place t).dep ≡ true
    first_covered t later e = at_most_covers (emitted place left.streams ends) (place t).dep
        (λ j. rw (emitted_at left.streams ends is.count j) (at j (slice_index_or left.streams j []) refl))
      where
        mt : Member t acts
        mt = rw e (inl refl)

        at : (j : ℕ) (s : List A) → slice_index_or left.streams j [] ≡ s → slice_index (place t).dep j ≤ next_start place s (slice_index ends j)
        at j [] d = can.ended t mt j
        at j (r ∷ rs) d =
            let f : filter (in_stream place up j) acts ≡ r ∷ rs = sym (is.streams j) ∙ d in
            let w = first_passes (in_stream place up j) acts r rs f in
            let s = stream_is j r w.1 in
            let here : slice_index (place t).dep (place r).stream ≤ (place r).start = elim (subst (λ (l : List A). Member r l) e w.0) [
              | inl same ↦ subst (λ (z : A). slice_index (place z).dep (place r).stream ≤ (place r).start) (sym same)
                  (can.own r w.0 s.0)
              | inr n ↦ can.later t r (rw e (inl (refl, n))) s.0
            ] in
            subst (λ (k : ℕ). slice_index (place t).dep k ≤ (place r).start) s.1 here

  -- the report after its first call
  joined : (ends : List ℕ) (front : List A) (x : A) (back : List A) (streams rest : List (List A)) (out : List A) →
      ((u : A) → Member u (front ++ back) → Late x u → ⊥) →
      ((j : ℕ) → slice_index_or streams j [] ≡ filter (in_stream place up j) (x ∷ []) ++ slice_index_or rest j []) →
      IsReport (front ++ back) rest out → IsReport (front ++ x ∷ back) streams (x ∷ out)
  joined ends front x back streams rest out not_late first r = record {
    once = reordered_put x front back out r.once;
    in_order = λ t u b late. elim b [
      | inl w ↦ not_late u (member_reordered (front ++ back) out r.once u w.1) (subst (λ (z : A). Late z u) (sym w.0) late)
      | inr c ↦ r.in_order t u c late
    ];
    by_stream = λ j. filter-append (in_stream place up j) (x ∷ []) out ∙ ap (λ l. filter (in_stream place up j) (x ∷ []) ++ l) (r.by_stream j) ∙ sym (first j);
  }

  -- a covered call that is listed while u is left does not have u's vector below its dep
  not_late_record : (ends : List ℕ) (acts : List A) (can : IsPlaced place up ends acts) (left : Left A) (is : IsLeft place up ends acts left) →
      (x u : A) → Member u acts → up u ≡ true → covers (emitted place left.streams ends) (place x).dep ≡ true → Late x u → ⊥
  not_late_record ends acts can left is x u m t c late =
      let low = emitted_low ends acts can left is u m t in
      let p = can.placed u m t in
      let high : AtMost (lv true (place u)) (place x).dep = rw t at late.0 in
      let own : (place u).past ≤ slice_index (place x).dep (place u).stream = rw (get_or-set_same (place u).dep (place u).stream (place u).past 0 p.1) at (high (place u).stream) in
      let d = covers_at_most (emitted place left.streams ends) (place x).dep c (place u).stream in
      let goes = p.2 in
      omega arith

  none_left : (acts : List A) (ends : List ℕ) (left : Left A) → acts ≡ [] → IsLeft place up ends acts left → IsReport acts left.streams []
  none_left acts ends left e is = record {
    once = rw e refl;
    in_order = λ t u b late. b;
    by_stream = λ j. sym (is.streams j ∙ ap (filter (in_stream place up j)) e);
  }

  module _ (ends : List ℕ) (n : ℕ)
      (rest : (acts : List A) (left : Left A) → length acts ≤ n → IsPlaced place up ends acts → IsLeft place up ends acts left →
      IsReport acts left.streams (reported_within place n ends left)) where
    reader_step : (acts : List A) (left : Left A) → length acts ≤ suc n → IsPlaced place up ends acts → IsLeft place up ends acts left →
        (x : A) (others : List A) → FirstTaken (λ y. covers (emitted place left.streams ends) (place y).dep) left.readers (Some (x, others)) →
        IsReport acts left.streams (x ∷ reported_within place n ends (record { readers = others; streams = left.streams }))
    reader_step acts left size can is x others (f, b, e, r, t) =
        let mixed : Reordered (f ++ x ∷ b) (filter (λ y. not (up y)) acts) = subst (λ (l : List A). Reordered l (filter (λ y. not (up y)) acts)) e is.readers in
        let (us, vs, cut, p) = pulled x f b (filter (λ y. not (up y)) acts) mixed in
        let (front, back, whole, fu, fv, no_update) = filter_cut (λ y. not (up y)) acts us x vs cut in
        let reads : up x ≡ false = (elim (up x) as (λ w. not w ≡ true → w ≡ false) [ true ↦ λ h. absurd (both_ways false refl h) | false ↦ λ h. refl ]) no_update in
        let out_of : (j : ℕ) → in_stream place up j x ≡ false = λ j. and_left (up x) ((place x).stream == j) reads in
        let can' : IsPlaced place up ends (front ++ x ∷ back) = subst (λ (l : List A). IsPlaced place up ends l) whole can in
        let less : length (front ++ back) ≤ n = (let q : length acts ≡ length (front ++ x ∷ back) = ap (λ (l : List A). length l) whole in
        omega (arith, length-append front (x ∷ back), length-append front back)) in
        let left' : Left A = record { readers = others; streams = left.streams } in
        let is' : IsLeft place up ends (front ++ back) left' = record {
          readers = rw (r, filter-append (λ y. not (up y)) front back, fu, fv) p;
          streams = λ j. is.streams j ∙ ap (filter (in_stream place up j)) whole ∙ filter_without (in_stream place up j) front x back (out_of j);
          count = is.count;
        } in
        subst (λ (l : List A). IsReport l left.streams (x ∷ reported_within place n ends left')) (sym whole)
        (joined ends front x back left.streams left.streams (reported_within place n ends left')
        (λ u m late. elim (cases_Bool (up u)) [
          | inl up_u ↦ not_late_record ends acts can left is x u (subst (λ (l : List A). Member u l) (sym whole) (member_put x u front back m)) up_u t late
          | inr no' ↦ elim (or_cases (up u) (up x) late.1) [ inl a ↦ both_ways (up u) no' a | inr a ↦ both_ways (up x) reads a ]
        ])
        (λ j. rw (out_of j) refl)
        (rest (front ++ back) left' less (shrunk ends front x back can') is'))

    record_step : (acts : List A) (left : Left A) → length acts ≤ suc n → IsPlaced place up ends acts → IsLeft place up ends acts left →
        FirstTaken (λ y. covers (emitted place left.streams ends) (place y).dep) left.readers None →
        (x : A) (others : List (List A)) → RecordTaken (λ y. covers (emitted place left.streams ends) (place y).dep) left.streams (Some (x, others)) →
        IsReport acts left.streams (x ∷ reported_within place n ends (record { readers = left.readers; streams = others }))
    record_step acts left size can is no_reader x others (k, rs, lt, e, r, t) =
        let (front, back, whole, fu, fv, in_k) = filter_cut (in_stream place up k) acts [] x rs (sym (is.streams k) ∙ e) in
        let (writes, stream) = stream_is k x in_k in
        let can' : IsPlaced place up ends (front ++ x ∷ back) = subst (λ (l : List A). IsPlaced place up ends l) whole can in
        let less : length (front ++ back) ≤ n = (let q : length acts ≡ length (front ++ x ∷ back) = ap (λ (l : List A). length l) whole in
        omega (arith, length-append front (x ∷ back), length-append front back)) in
        let left' : Left A = record { readers = left.readers; streams = others } in
        let other : (j : ℕ) → (j ≡ k → ⊥) → in_stream place up j x ≡ false = λ j ne. not_stream j x (λ s. ne (sym s ∙ stream)) in
        let at : (j : ℕ) → slice_index_or others j [] ≡ filter (in_stream place up j) (front ++ back) = λ j. rw r (elim (cases_eq j k) [
          | inl same ↦ rw (same, get_or-set_same left.streams k rs [] lt, filter-append (in_stream place up k) front back, fu, fv)
          | inr ne ↦ get_or-set_other left.streams k j rs [] ne ∙ is.streams j ∙ ap (filter (in_stream place up j)) whole ∙ filter_without (in_stream place up j) front x back (other j ne)
        ]) in
        let is' : IsLeft place up ends (front ++ back) left' = record {
          readers = subst (λ (l : List A). Reordered left.readers l) (ap (filter (λ y. not (up y))) whole ∙ filter_without (λ y. not (up y)) front x back (rw writes refl)) is.readers;
          streams = at;
          count = rw (r, length-set left.streams k rs) is.count;
        } in
        subst (λ (l : List A). IsReport l left.streams (x ∷ reported_within place n ends left')) (sym whole)
        (joined ends front x back left.streams others (reported_within place n ends left')
        (λ u m late.
        let mu : Member u acts = subst (λ (l : List A). Member u l) (sym whole) (member_put x u front back m) in
        elim (cases_Bool (up u)) [
          | inl up_u ↦ not_late_record ends acts can left is x u mu up_u t late
          | inr reads ↦
              let reader : Member u left.readers = member_reordered left.readers (filter (λ y. not (up y)) acts) is.readers u
              (member_filter_in (λ y. not (up y)) acts u mu (rw reads refl)) in
              let low : AtMost (place u).dep (place x).dep = rw reads at late.0 in
              let high = covers_at_most (emitted place left.streams ends) (place x).dep t in
              both_ways (covers (emitted place left.streams ends) (place u).dep) (no_reader u reader)
              (at_most_covers (emitted place left.streams ends) (place u).dep (λ j. let a = low j in let b = high j in omega arith))
        ])
        (λ j. elim (cases_eq j k) [
          | inl same ↦ rw (same, in_k, r, get_or-set_same left.streams k rs [] lt) e
          | inr ne ↦ rw (other j ne, r, get_or-set_other left.streams k j rs [] ne) refl
        ])
        (rest (front ++ back) left' less (shrunk ends front x back can') is'))

    pick_step : (acts : List A) (left : Left A) → length acts ≤ suc n → IsPlaced place up ends acts → IsLeft place up ends acts left →
        (o : Option (A × List A)) → FirstTaken (λ y. covers (emitted place left.streams ends) (place y).dep) left.readers o →
        (q : Option (A × List (List A))) → RecordTaken (λ y. covers (emitted place left.streams ends) (place y).dep) left.streams q →
        IsReport acts left.streams (listed (picked left.readers left.streams o q) (λ l. reported_within place n ends l))
    pick_step acts left size can is (Some (x, others)) h q k = reader_step acts left size can is x others h
    pick_step acts left size can is None h (Some (x, others)) k = record_step acts left size can is h x others k
    pick_step acts left size can is None h None k = by_case acts refl
      where
        by_case : (l : List A) → acts ≡ l → IsReport acts left.streams []
        by_case [] e = none_left acts ends left e is
        by_case (t ∷ later) e =
            let c = first_covered ends acts can left is t later e in
            let m : Member t acts = rw e (inl refl) in
            absurd (elim (cases_Bool (up t)) [
              | inl writes ↦
                  let q : A → Bool = in_stream place up (place t).stream in
                  let first : filter q (t ∷ later) ≡ t ∷ filter q later = rw (is_stream t writes) refl in
                  both_ways (covers (emitted place left.streams ends) (place t).dep)
                  (k (place t).stream t (filter q later) (is.streams (place t).stream ∙ ap (filter q) e ∙ first)) c
              | inr reads ↦ both_ways (covers (emitted place left.streams ends) (place t).dep) (h t (member_reordered left.readers (filter (λ y. not (up y)) acts)
                  is.readers t (member_filter_in (λ y. not (up y)) acts t m (rw reads refl)))) c
            ])

  no_length : (xs : List A) → length xs ≤ 0 → xs ≡ []
  no_length [] h = refl
  no_length (x ∷ xs) h = absurd (omega arith)

  -- the report of calls that can be listed
  pub reported_is : (ends : List ℕ) (n : ℕ) (acts : List A) (left : Left A) → length acts ≤ n → IsPlaced place up ends acts → IsLeft place up ends acts left →
      IsReport acts left.streams (reported_within place n ends left)
  unfolding reported_within
  reported_is ends zero acts left size can is = none_left acts ends left (no_length acts size) is
  reported_is ends (suc n) acts left size can is =
      pick_step ends n (reported_is ends n) acts left size can is
      (take_first (λ y. covers (emitted place left.streams ends) (place y).dep) left.readers)
      (take_first_is (λ y. covers (emitted place left.streams ends) (place y).dep) left.readers)
      (take_record (λ y. covers (emitted place left.streams ends) (place y).dep) left.streams)
      (take_record_is (λ y. covers (emitted place left.streams ends) (place y).dep) left.streams)
