-- An order that was followed along the records is the reported history.
use Rattle.std.proofs.Common.{ℕ, zero, suc, ◌≤◌, ◌<◌, ◌≡◌, ◌==◌, Bool, true, false, inl, inr, List, [], ◌∷◌, length, map, refl, sym, ap, subst, ◌∙◌, arith, Option, get_or-set_same, get_or-set_other}
use Rattle.std.specs.Prelude.{Some, None, not, nat_le, slice_get, slice_index, slice_index_or, slice_set, if◌then◌else◌}
use Rattle.std.specs.List.{filter}
use Rattle.std.proofs.lemmas.Bool.{cases_Bool, both_ways, cases_eq, le-leb, eqb-true, eq-eqb, ne_eqb, and_from, and_left, and_right}
use Rattle.tau_base.specs.Vectors.{AtMost, covers}
use Rattle.tau_base.specs.Database.{Db, empty_db, written}
use Rattle.tau_base.proofs.Lists.{same_list}
use Rattle.tau_base.proofs.Logic.{or_left, or_true, some_is}
use Rattle.tau_base.proofs.Vectors.{above_covers, at_most_covers, at_most_trans, at_most_within, covers_at_most}
use Rattle.tau_model.specs.History.{Act, Numbered, Member, updates, means, trace}
use Rattle.tau_model.specs.Logged.{Place}
use Rattle.tau_model.specs.Listing.{first_passes}
use Rattle.tau_model.specs.Reported.{Left, take_first, take_record, picked, listed, next_start, emitted, put_in, ascending, each, in_stream, left_of, reported_within}
use Rattle.tau_model.proofs.Ascending.{ascending_reordered, each_at, length_each}
use Rattle.tau_model.proofs.Listings.{take_record_at, length_emitted}
use Rattle.tau_model.proofs.Logged.{member_filtered}
use Rattle.tau_model.proofs.Orders.{member_reordered}
use Rattle.tau_model.proofs.ReportOrder.{emitted_at}
use Rattle.tau_model.proofs.Weaving.{each_set, each_same}
use Rattle.tau_scan.specs.Taken.{Kept}
use Rattle.tau_inspect.specs.declared.walk.Walk.{Walk}
use Rattle.tau_inspect.specs.ByNumber.{IsUnique}
use Rattle.tau_inspect.specs.Audit.{FitsReply, Case, acts, records, has_record, has_ack, nowhere, place_in, vector_in, place_of, is_told}
use Rattle.tau_inspect.specs.Executed.{history, numbered}
use Rattle.tau_inspect.specs.Walks.{of_stream, head_of, start_or, head_passes, next_of, IsAt, Goes, IsFollowed, IsFor, Step, Walks}
use Rattle.tau_inspect.proofs.Due.{place_there}
use Rattle.tau_inspect.proofs.Steps.{other_next, step_at}
use Rattle.tau_inspect.proofs.Acts.{none_some, in_get}
use Rattle.tau_inspect.proofs.Recorded.{recorded}

-- ---- lists in general

-- the one that comes first in its order is the first to pass, if those that pass come after it
put_first : {A : Type 0} (key : A → ℕ) (p : A → Bool) (x : A) (ys : List A) → p x ≡ true → ((y : A) → Member y ys → p y ≡ true → key x < key y) → take_first p (put_in key x ys) ≡ Some (x, ys)
put_first key p x [] is above = rw is refl
put_first {A} key p x (y ∷ ys) is above = elim (cases_Bool (nat_le (key x) (key y))) [
  | inl le ↦ rw (le, is) refl
  | inr gt ↦ rw (gt, refused gt (p y) refl, put_first key p x ys is (λ z m. above z (inr m))) refl
]
  where
    refused : nat_le (key x) (key y) ≡ false → (b : Bool) → p y ≡ b → p y ≡ false
    refused gt true e = (let lt : key x < key y = above y (inl refl) e in absurd (both_ways (nat_le (key x) (key y)) gt (le-leb (key x) (key y) (omega (arith, lt)))))
    refused gt false e = e

take_none : {A : Type 0} (p : A → Bool) (ys : List A) → ((y : A) → Member y ys → p y ≡ false) → take_first p ys ≡ None
take_none p [] no' = refl
take_none p (y ∷ ys) no' = rw (no' y (inl refl), take_none p ys (λ z m. no' z (inr m))) refl

rising_set : (v : List ℕ) (s a : ℕ) → s < length v → slice_index v s ≤ a → AtMost v (slice_set v s a)
rising_set v s a lt le j = elim (cases_eq j s) [
  | inl same ↦ subst (λ (k : ℕ). slice_index v k ≤ slice_index (slice_set v s a) k) (sym same) (let e = get_or-set_same v s a 0 lt in omega (arith, e, le))
  | inr other ↦ let e = get_or-set_other v s j a 0 other in omega (arith, e)
]

each_below : {A : Type 0} (n : ℕ) (f g : ℕ → A) → ((k : ℕ) → k < n → f k ≡ g k) → each n f ≡ each n g
each_below zero f g h = refl
each_below (suc n) f g h = (let first = h 0 (omega arith) in let rest = each_below n (λ k. f (suc k)) (λ k. g (suc k)) (λ k lt. h (suc k) (omega (arith, lt))) in λ i. first i ∷ rest i)

filter_in : {A : Type 0} (p : A → Bool) (x : A) (xs : List A) → p x ≡ true → filter p (x ∷ xs) ≡ x ∷ filter p xs
filter_in p x xs e = rw e refl

filter_out : {A : Type 0} (p : A → Bool) (x : A) (xs : List A) → p x ≡ false → filter p (x ∷ xs) ≡ filter p xs
filter_out p x xs e = rw e refl

-- ---- a record at an index

pub head_found : (o : Option Kept) (stream : ℕ) (r : Kept) → of_stream stream o ≡ Some r → (o ≡ Some r) × (r.place.stream ≡ stream)
head_found None stream r e = absurd (none_some r e)
head_found (Some q) stream r e = elim (cases_Bool (q.place.stream == stream)) [
  | inl is ↦
      let found : ◌≡◌ {A = Option Kept} (Some q) (Some r) = rw is at e in
      let home : q.place.stream ≡ stream = eqb-true q.place.stream stream is in
      (found, ap (λ (z : Kept). z.place.stream) (sym (some_is q r found)) ∙ home)
  | inr no' ↦ let found : ◌≡◌ {A = Option Kept} None (Some r) = rw no' at e in absurd (none_some r found)
]

record_there : (rs : List Kept) (i : ℕ) (r : Kept) → slice_get rs i ≡ Some r → has_record r.number rs ≡ true
record_there rs i r e = recorded r.number rs ∙ in_get r.number (map (λ (q : Kept). q.number) rs) i (number_here rs i e)
  where
    number_here : (qs : List Kept) (j : ℕ) → slice_get qs j ≡ Some r → slice_get (map (λ (q : Kept). q.number) qs) j ≡ Some r.number
    number_here [] j got = absurd (none_some r got)
    number_here (q ∷ qs) zero got = ap (λ (z : Kept). Some z.number) (some_is q r got)
    number_here (q ∷ qs) (suc j) got = number_here qs j got

filter_there : (p : Kept → Bool) (rs : List Kept) (i : ℕ) (r : Kept) → slice_get rs i ≡ Some r → p r ≡ true → has_record r.number (filter p rs) ≡ true
filter_there p [] i r e t = absurd (none_some r e)
filter_there p (q ∷ qs) zero r e t =
    let same : q ≡ r = some_is q r e in
    let on : filter p (q ∷ qs) ≡ q ∷ filter p qs = filter_in p q qs (ap p same ∙ t) in
    ap (has_record r.number) on ∙ or_left (q.number == r.number) (has_record r.number (filter p qs)) (eq-eqb q.number r.number (ap (λ (z : Kept). z.number) same))
filter_there p (q ∷ qs) (suc i) r e t = elim (cases_Bool (p q)) [
  | inl is ↦ ap (has_record r.number) (filter_in p q qs is) ∙ or_true (q.number == r.number) (has_record r.number (filter p qs)) (filter_there p qs i r e t)
  | inr no' ↦ ap (has_record r.number) (filter_out p q qs no') ∙ filter_there p qs i r e t
]

module _ (c : Case) (once : IsUnique (map (λ (r : Kept). r.number) (records c))) (stop : Walk) where
  abbrev number : Act Numbered → ℕ
  number x = x.call.number

  abbrev reads : Act Numbered → Bool
  reads x = not (updates x.effect)

  abbrev start : Act Numbered → ℕ
  start x = (place_of c x).start

  abbrev inside : ℕ → Act Numbered → Bool
  inside j x = in_stream (place_of c) (λ (y : Act Numbered). updates y.effect) j x

  -- the calls in a stream
  abbrev along : ℕ → List (Act Numbered) → List (Act Numbered)
  along j xs = filter (inside j) xs

  in_here : (x : Act Numbered) (j : ℕ) → updates x.effect ≡ true → (place_of c x).stream ≡ j → inside j x ≡ true
  in_here x j u s = and_from (updates x.effect) ((place_of c x).stream == j) u (eq-eqb (place_of c x).stream j s)

  not_here : (x : Act Numbered) (j : ℕ) → ((place_of c x).stream ≡ j → ⊥) → inside j x ≡ false
  not_here x j other = and_right (updates x.effect) ((place_of c x).stream == j) (ne_eqb (place_of c x).stream j other)

  reader_out : (x : Act Numbered) (j : ℕ) → updates x.effect ≡ false → inside j x ≡ false
  reader_out x j u = and_left (updates x.effect) ((place_of c x).stream == j) u

  -- ---- a step

  module _ (x : Act Numbered) (w new : Walk) where
    went_place : updates x.effect ≡ true → (g : Goes (records c) c.log.elv (IsFor c x.call.number x.effect.writes) x.call.number w new) → (place_of c x ≡ g.lowest.one.place) × (g.lowest.one.place.stream ≡ new.stream)
    went_place u g =
        let found = head_found (slice_get (records c) (slice_index w.nexts.items new.stream)) new.stream g.lowest.one g.lowest.next in (
          ap (λ (b : Bool). if b then place_in x.call.number (records c) else nowhere (vector_in x.call.number c.report.acks)) u
              ∙ place_there (records c) (slice_index w.nexts.items new.stream) x.call.number g.lowest.one once found.0 g.named,
          found.1,
        )

    read_place : updates x.effect ≡ false → (place_of c x).dep ≡ vector_in x.call.number c.report.acks
    read_place u = ap (λ (b : Bool). (if b then place_in x.call.number (records c) else nowhere (vector_in x.call.number c.report.acks)).dep) u

    went_along : (u : updates x.effect ≡ true) (g : Goes (records c) c.log.elv (IsFor c x.call.number x.effect.writes) x.call.number w new) (xs : List (Act Numbered)) (j : ℕ) → (j ≡ new.stream → ⊥) → along j (x ∷ xs) ≡ along j xs
    went_along u g xs j other =
        let placed = went_place u g in
        filter_out (inside j) x xs (not_here x j (λ e. other (sym e ∙ ap (λ (p : Place). p.stream) placed.0 ∙ placed.1)))

    went_on : (u : updates x.effect ≡ true) (g : Goes (records c) c.log.elv (IsFor c x.call.number x.effect.writes) x.call.number w new) (xs : List (Act Numbered)) → along new.stream (x ∷ xs) ≡ x ∷ along new.stream xs
    went_on u g xs =
        let placed = went_place u g in
        filter_in (inside new.stream) x xs (in_here x new.stream u (ap (λ (p : Place). p.stream) placed.0 ∙ placed.1))

    read_along : updates x.effect ≡ false → (xs : List (Act Numbered)) (j : ℕ) → along j (x ∷ xs) ≡ along j xs
    read_along u xs j = filter_out (inside j) x xs (reader_out x j u)

    -- where the record that is passed starts
    went_start : (g : Goes (records c) c.log.elv (IsFor c x.call.number x.effect.writes) x.call.number w new) → IsAt (records c) c.log.elv w → slice_index w.reach new.stream ≡ g.lowest.one.place.start
    went_start g at = at.reach.starts new.stream (omega (arith, g.lowest.within, at.nexts)) ∙ ap (λ (o : Option Kept). start_or o (slice_index c.log.elv new.stream)) g.lowest.next

    went_rises : (g : Goes (records c) c.log.elv (IsFor c x.call.number x.effect.writes) x.call.number w new) → IsAt (records c) c.log.elv w → AtMost w.reach new.reach
    went_rises g at =
        let s = went_start g at in
        let next : ℕ = start_or (next_of (records c) new new.stream) (slice_index c.log.elv new.stream) in
        subst (AtMost w.reach) (sym g.reach) (rising_set w.reach new.stream next (omega (arith, g.lowest.within, at.nexts, at.reach.long)) (omega (arith, s, g.rises)))

    at_step : (b : Bool) → Step (records c) c.report.acks c.log.elv (IsFor c x.call.number x.effect.writes) b x.call.number w new → IsAt (records c) c.log.elv w → IsAt (records c) c.log.elv new
    at_step b step at = step_at (records c) c.report.acks c.log.elv (IsFor c x.call.number x.effect.writes) x.call.number w new b step at

  -- ---- the next records are the first calls in the streams

  abbrev IsHead : Option Kept → List (Act Numbered) → Type 0
  IsHead None ys = ys ≡ []
  IsHead (Some r) ys = (x : Act Numbered) × (rest : List (Act Numbered)) × (ys ≡ x ∷ rest) × (place_of c x ≡ r.place)

  heads : (xs : List (Act Numbered)) (w : Walk) → Walks c w xs stop → (j : ℕ) → j < length c.log.elv → IsHead (next_of (records c) w j) (along j xs)
  heads [] w h j lt = subst (λ (o : Option Kept). IsHead o []) (sym (h.1 j lt)) refl
  heads (x ∷ xs) w (new, step, said, h) j lt = by_up (updates x.effect) refl step (heads xs new h j lt)
    where
      by_up : (b : Bool) → updates x.effect ≡ b → Step (records c) c.report.acks c.log.elv (IsFor c x.call.number x.effect.writes) b x.call.number w new → IsHead (next_of (records c) new j) (along j xs) →
          IsHead (next_of (records c) w j) (along j (x ∷ xs))
      by_up true u g rest = elim (cases_eq j new.stream) [
        | inl same ↦ subst (λ (o : Option Kept). IsHead o (along j (x ∷ xs))) (sym (ap (next_of (records c) w) same ∙ g.lowest.next)) (
          x,
          along j xs,
          subst (λ (k : ℕ). along k (x ∷ xs) ≡ x ∷ along k xs) (sym same) (went_on x w new u g xs),
          (went_place x w new u g).0,
        )
        | inr other ↦ subst (λ (l : List (Act Numbered)). IsHead (next_of (records c) w j) l) (sym (went_along x w new u g xs j other))
            (subst (λ (o : Option Kept). IsHead o (along j xs)) (other_next (records c) c.log.elv (IsFor c x.call.number x.effect.writes) x.call.number w new g j other) rest)
      ]
      by_up false u r rest =
          subst (λ (l : List (Act Numbered)). IsHead (next_of (records c) w j) l) (sym (read_along x w new u xs j))
          (subst (λ (o : Option Kept). IsHead o (along j xs)) (λ i. head_of (records c) (slice_index (r.0.same.0 i).items j) j) rest)

  head_start : (o : Option Kept) (ys : List (Act Numbered)) (end : ℕ) → IsHead o ys → next_start (place_of c) ys end ≡ start_or o end
  head_start None ys end e = ap (λ (l : List (Act Numbered)). next_start (place_of c) l end) e
  head_start (Some r) ys end (x, rest, e, p) = ap (λ (l : List (Act Numbered)). next_start (place_of c) l end) e ∙ ap (λ (q : Place). q.start) p

  abbrev passes : List ℕ → Act Numbered → Bool
  passes v x = covers v (place_of c x).dep

  head_covered : (v : List ℕ) (o : Option Kept) (ys : List (Act Numbered)) → IsHead o ys → first_passes (passes v) ys ≡ head_passes v o
  head_covered v None ys e = ap (first_passes (passes v)) e
  head_covered v (Some r) ys (x, rest, e, p) = ap (first_passes (passes v)) e ∙ ap (λ (q : Place). covers v q.dep) p

  -- ---- what is emitted

  abbrev streams : List (Act Numbered) → List (List (Act Numbered))
  streams xs = each (length c.log.elv) (λ j. along j xs)

  emitted_is : (xs : List (Act Numbered)) (w : Walk) → Walks c w xs stop → IsAt (records c) c.log.elv w → emitted (place_of c) (streams xs) c.log.elv ≡ w.reach
  emitted_is xs w h at =
      let wide : length (streams xs) ≡ length c.log.elv = length_each (length c.log.elv) (λ j. along j xs) in
      let long : length (emitted (place_of c) (streams xs) c.log.elv) ≡ length c.log.elv = length_emitted (place_of c) (streams xs) c.log.elv wide in
      same_list (emitted (place_of c) (streams xs) c.log.elv) w.reach (long ∙ sym at.reach.long) (λ k lt.
      let low : k < length c.log.elv = omega (arith, lt, long) in
      emitted_at (place_of c) (λ (y : Act Numbered). updates y.effect) (streams xs) c.log.elv wide k
      ∙ ap (λ (l : List (Act Numbered)). next_start (place_of c) l (slice_index c.log.elv k)) (each_at (length c.log.elv) (λ j. along j xs) k low)
      ∙ head_start (next_of (records c) w k) (along k xs) (slice_index c.log.elv k) (heads xs w h k low)
      ∙ sym (at.reach.starts k low))

  -- ---- calls that only read

  -- what was below the place of the last record covers none of those that are left
  late : (xs : List (Act Numbered)) (w : Walk) → Walks c w xs stop → IsAt (records c) c.log.elv w → w.passed ≡ true → (v : List ℕ) → AtMost v w.reach → slice_index v w.stream ≤ w.start →
      (y : Act Numbered) → Member y xs → updates y.effect ≡ false → passes v y ≡ false
  late [] w h at passed v most low y m u = absurd m
  late (x ∷ xs) w (new, step, said, h) at passed v most low y m u =
      by_up (late xs new h (at_step x w new (updates x.effect) step at)) (updates x.effect) refl step
    where
      by_up : (new.passed ≡ true → (v : List ℕ) → AtMost v new.reach → slice_index v new.stream ≤ new.start → (y : Act Numbered) → Member y xs → updates y.effect ≡ false → passes v y ≡ false) →
          (b : Bool) → updates x.effect ≡ b → Step (records c) c.report.acks c.log.elv (IsFor c x.call.number x.effect.writes) b x.call.number w new → passes v y ≡ false
      by_up rest true t g = elim m [
        | inl e ↦ absurd (both_ways (updates y.effect) u (subst (λ (z : Act Numbered). updates z.effect ≡ true) e t))
        | inr n ↦
            let s = went_start x w new g at in let below = most new.stream in
            rest g.passed v (at_most_trans v w.reach new.reach most (went_rises x w new g at)) (omega (arith, g.start, s, below)) y n u
      ]
      by_up rest false t r = elim m [
        | inl e ↦
            let dep : (place_of c y).dep ≡ vector_in x.call.number c.report.acks = ap (λ (z : Act Numbered). (place_of c z).dep) (sym e) ∙ read_place x w new t in
            let over = r.0.late passed in
            ap (λ (l : List ℕ). covers v l) dep ∙ above_covers v (vector_in x.call.number c.report.acks) w.stream (omega (arith, over, low))
        | inr n ↦
            let same = r.0.same in
            rest (same.2 ∙ passed) v (subst (AtMost v) (sym same.1) most)
            (let stream = same.3 in let began = same.4 in let turned : slice_index v new.stream ≡ slice_index v w.stream = ap (slice_index v) stream in omega (arith, turned, began, low)) y n u
      ]

  -- those that are covered come by ascending numbers
  above : (xs : List (Act Numbered)) (w : Walk) → Walks c w xs stop → IsAt (records c) c.log.elv w → (y : Act Numbered) → Member y xs → updates y.effect ≡ false → passes w.reach y ≡ true → w.last < y.call.number
  above [] w h at y m u is = absurd m
  above (x ∷ xs) w (new, step, said, h) at y m u is =
      by_up (λ n. above xs new h (at_step x w new (updates x.effect) step at) y n u) (updates x.effect) refl step
    where
      by_up : (Member y xs → passes new.reach y ≡ true → new.last < y.call.number) → (b : Bool) → updates x.effect ≡ b → Step (records c) c.report.acks c.log.elv (IsFor c x.call.number x.effect.writes) b x.call.number w new → w.last < y.call.number
      by_up rest true t g = elim m [
        | inl e ↦ absurd (both_ways (updates y.effect) u (subst (λ (z : Act Numbered). updates z.effect ≡ true) e t))
        | inr n ↦
            let s = went_start x w new g at in
            absurd (both_ways (passes w.reach y) (late xs new h (at_step x w new true g at) g.passed w.reach (went_rises x w new g at) (omega (arith, g.start, s)) y n u) is)
      ]
      by_up rest false t r = elim m [
        | inl e ↦ subst (λ (z : Act Numbered). w.last < z.call.number) e r.0.above
        | inr n ↦
            let more = rest n (subst (λ (l : List ℕ). passes l y ≡ true) (sym r.0.same.1) is) in
            let first = r.0.above in let last = r.0.last in omega (arith, more, first, last)
      ]

  -- ---- the records of a stream come in its order

  least : (x : Act Numbered) (o : Option Kept) (ys : List (Act Numbered)) (end : ℕ) → IsHead o ys → start x ≤ start_or o end → put_in start x ys ≡ x ∷ ys
  least x None ys end e le = ap (put_in start x) e ∙ ap (λ (l : List (Act Numbered)). x ∷ l) (sym e)
  least x (Some r) ys end (y, rest, e, p) le =
      let low : start x ≤ start y = (let same = ap (λ (q : Place). q.start) p in omega (arith, same, le)) in
      let first : put_in start x (y ∷ rest) ≡ x ∷ y ∷ rest = rw (le-leb (start x) (start y) low) refl in
      ap (put_in start x) e ∙ first ∙ ap (λ (l : List (Act Numbered)). x ∷ l) (sym e)

  sorted : (xs : List (Act Numbered)) (w : Walk) → Walks c w xs stop → IsAt (records c) c.log.elv w → (j : ℕ) → j < length c.log.elv → ascending start (along j xs) ≡ along j xs
  sorted [] w h at j lt = refl
  sorted (x ∷ xs) w (new, step, said, h) at j lt = by_up (updates x.effect) refl step (sorted xs new h (at_step x w new (updates x.effect) step at) j lt) (heads xs new h j lt)
    where
      by_up : (b : Bool) → updates x.effect ≡ b → Step (records c) c.report.acks c.log.elv (IsFor c x.call.number x.effect.writes) b x.call.number w new → ascending start (along j xs) ≡ along j xs → IsHead (next_of (records c) new j) (along j xs) →
          ascending start (along j (x ∷ xs)) ≡ along j (x ∷ xs)
      by_up true u g rest head = elim (cases_eq j new.stream) [
        | inl same ↦
            let on : along j (x ∷ xs) ≡ x ∷ along j xs = subst (λ (k : ℕ). along k (x ∷ xs) ≡ x ∷ along k xs) (sym same) (went_on x w new u g xs) in
            let began = ap (λ (p : Place). p.start) (went_place x w new u g).0 in
            let rises : start x ≤ start_or (next_of (records c) new j) (slice_index c.log.elv j) =
            subst (λ (k : ℕ). start x ≤ start_or (next_of (records c) new k) (slice_index c.log.elv k)) (sym same) (omega (arith, began, g.rises)) in
            ap (ascending start) on ∙ ap (put_in start x) rest ∙ least x (next_of (records c) new j) (along j xs) (slice_index c.log.elv j) head rises ∙ sym on
        | inr other ↦ let off = went_along x w new u g xs j other in ap (ascending start) off ∙ rest ∙ sym off
      ]
      by_up false u r rest head = let off = read_along x w new u xs j in ap (ascending start) off ∙ rest ∙ sym off

  -- ---- what is left

  abbrev readers : List (Act Numbered) → List (Act Numbered)
  readers xs = ascending number (filter reads xs)

  abbrev plain : List (Act Numbered) → Left (Act Numbered)
  plain xs = record { readers = readers xs; streams = streams xs }

  left_is : (xs : List (Act Numbered)) (w : Walk) → Walks c w xs stop → IsAt (records c) c.log.elv w →
      left_of (place_of c) (λ (y : Act Numbered). updates y.effect) number (length c.log.elv) xs ≡ plain xs
  left_is xs w h at =
      let rest = each_below (length c.log.elv) (λ j. ascending start (along j xs)) (λ j. along j xs) (λ k lt. sorted xs w h at k lt) in
      λ i. record { readers = readers xs; streams = rest i }

  reader_of : (xs : List (Act Numbered)) (y : Act Numbered) → Member y (readers xs) → Member y xs × (updates y.effect ≡ false)
  reader_of xs y m =
      let n = member_reordered (filter reads xs) (readers xs) (ascending_reordered number (filter reads xs)) y m in
      let w = member_filtered reads y xs n in (w.0, unnot (updates y.effect) w.1)
    where
      unnot : (b : Bool) → not b ≡ true → b ≡ false
      unnot true e = sym e
      unnot false e = refl

  abbrev pick_of : List (Act Numbered) → List (List (Act Numbered)) → List ℕ → Option (Act Numbered × Left (Act Numbered))
  pick_of rs ss v = picked rs ss (take_first (passes v) rs) (take_record (passes v) ss)

  picks : (x : Act Numbered) (xs : List (Act Numbered)) (w new : Walk) → Step (records c) c.report.acks c.log.elv (IsFor c x.call.number x.effect.writes) (updates x.effect) x.call.number w new → FitsReply c [] x → Walks c new xs stop → IsAt (records c) c.log.elv w →
      pick_of (readers (x ∷ xs)) (streams (x ∷ xs)) w.reach ≡ Some (x, plain xs)
  picks x xs w new step said h at = by_up (updates x.effect) refl step
    where
      by_up : (b : Bool) → updates x.effect ≡ b → Step (records c) c.report.acks c.log.elv (IsFor c x.call.number x.effect.writes) b x.call.number w new → pick_of (readers (x ∷ xs)) (streams (x ∷ xs)) w.reach ≡ Some (x, plain xs)
      by_up false u r =
          let rs : readers (x ∷ xs) ≡ put_in number x (readers xs) = ap (ascending number) (filter_in reads x xs (ap not u)) in
          let ss : streams (x ∷ xs) ≡ streams xs = each_same (length c.log.elv) (λ j. along j (x ∷ xs)) (λ j. along j xs) (λ j. read_along x w new u xs j) in
          let here : passes w.reach x ≡ true = ap (λ (l : List ℕ). covers w.reach l) (read_place x w new u) ∙ r.0.covered in
          let first : take_first (passes w.reach) (put_in number x (readers xs)) ≡ Some (x, readers xs) =
          put_first number (passes w.reach) x (readers xs) here (λ y m is.
          let of = reader_of xs y m in
          let more = above xs new h (at_step x w new false r at) y of.0 of.1 (subst (λ (l : List ℕ). passes l y ≡ true) (sym r.0.same.1) is) in
          let last = r.0.last in omega (arith, more, last)) in
          (λ i. pick_of (rs i) (ss i) w.reach)
          ∙ ap (λ o. picked (put_in number x (readers xs)) (streams xs) o (take_record (passes w.reach) (streams xs))) first
      by_up true u g =
          let rs : readers (x ∷ xs) ≡ readers xs = ap (ascending number) (filter_out reads x xs (ap not u)) in
          let s = went_start x w new g at in
          let none : take_first (passes w.reach) (readers xs) ≡ None = take_none (passes w.reach) (readers xs) (λ y m.
          let of = reader_of xs y m in
          late xs new h (at_step x w new true g at) g.passed w.reach (went_rises x w new g at) (omega (arith, g.start, s)) y of.0 of.1) in
          let low : new.stream < length c.log.elv = omega (arith, g.lowest.within, at.nexts) in
          let wide : length (streams (x ∷ xs)) ≡ length c.log.elv = length_each (length c.log.elv) (λ j. along j (x ∷ xs)) in
          let on : slice_index_or (streams (x ∷ xs)) new.stream [] ≡ x ∷ along new.stream xs = each_at (length c.log.elv) (λ j. along j (x ∷ xs)) new.stream low ∙ went_on x w new u g xs in
          let here : passes w.reach x ≡ true = ap (λ (p : Place). covers w.reach p.dep) (went_place x w new u g).0 ∙ g.lowest.covered in
          let taken : take_record (passes w.reach) (streams (x ∷ xs)) ≡ Some (x, slice_set (streams (x ∷ xs)) new.stream (along new.stream xs)) =
          take_record_at (passes w.reach) (streams (x ∷ xs)) new.stream x (along new.stream xs)
          (λ k lt.
          let below : k < length c.log.elv = omega (arith, lt, low) in
          ap (first_passes (passes w.reach)) (each_at (length c.log.elv) (λ j. along j (x ∷ xs)) k below)
          ∙ head_covered w.reach (next_of (records c) w k) (along k (x ∷ xs)) (heads (x ∷ xs) w (new, subst (λ (b : Bool). Step (records c) c.report.acks c.log.elv (IsFor c x.call.number x.effect.writes) b x.call.number w new) (sym u) g, said, h) k below)
          ∙ g.lowest.lower k lt)
          (omega (arith, low, wide)) on here in
          let rest : slice_set (streams (x ∷ xs)) new.stream (along new.stream xs) ≡ streams xs =
          each_set (length c.log.elv) new.stream (λ j. along j (x ∷ xs)) (λ j. along j xs) (along new.stream xs) (λ k other. went_along x w new u g xs k other) (λ lt. refl) in
          (λ i. picked (rs i) (streams (x ∷ xs)) (take_first (passes w.reach) (rs i)) (taken i))
          ∙ ap (λ o. picked (readers xs) (streams (x ∷ xs)) o (Some (x, slice_set (streams (x ∷ xs)) new.stream (along new.stream xs)))) none
          ∙ ap (λ l. Some (x, record { readers = readers xs; streams = l })) rest

  -- the calls are listed in the order in which they were passed
  followed : (xs : List (Act Numbered)) (w : Walk) → Walks c w xs stop → IsAt (records c) c.log.elv w →
      reported_within (place_of c) (length xs) c.log.elv (left_of (place_of c) (λ (y : Act Numbered). updates y.effect) number (length c.log.elv) xs) ≡ xs
  unfolding reported_within
  followed [] w h at = refl
  followed (x ∷ xs) w (new, step, said, h) at =
      let on = at_step x w new (updates x.effect) step at in
      ap (λ l. reported_within (place_of c) (suc (length xs)) c.log.elv l) (left_is (x ∷ xs) w (new, step, said, h) at)
      ∙ ap (λ v. listed (pick_of (readers (x ∷ xs)) (streams (x ∷ xs)) v) (λ l. reported_within (place_of c) (length xs) c.log.elv l)) (emitted_is (x ∷ xs) w (new, step, said, h) at)
      ∙ ap (λ o. listed o (λ l. reported_within (place_of c) (length xs) c.log.elv l)) (picks x xs w new step said h at)
      ∙ ap (λ l. x ∷ reported_within (place_of c) (length xs) c.log.elv l) (sym (left_is xs new h on))
      ∙ ap (λ l. x ∷ l) (followed xs new h on)

  -- each has its record or its acknowledgement
  told : (xs : List (Act Numbered)) (w : Walk) → Walks c w xs stop → (y : Act Numbered) → Member y xs → is_told c y ≡ true
  told [] w h y m = absurd m
  told (x ∷ xs) w (new, step, said, h) y (inr m) = told xs new h y m
  told (x ∷ xs) w (new, step, said, h) y (inl e) = subst (λ (z : Act Numbered). is_told c z ≡ true) e (by_up (updates x.effect) refl step)
    where
      by_up : (b : Bool) → updates x.effect ≡ b → Step (records c) c.report.acks c.log.elv (IsFor c x.call.number x.effect.writes) b x.call.number w new → is_told c x ≡ true
      by_up true u g =
          let found = head_found (slice_get (records c) (slice_index w.nexts.items new.stream)) new.stream g.lowest.one g.lowest.next in
          ap (λ (b : Bool). if b then has_record x.call.number (records c) else has_ack x.call.number c.report.acks) u
          ∙ ap (λ (n : ℕ). has_record n (records c)) (sym g.named)
          ∙ record_there (records c) (slice_index w.nexts.items new.stream) g.lowest.one found.0
      by_up false u r = ap (λ (b : Bool). if b then has_record x.call.number (records c) else has_ack x.call.number c.report.acks) u ∙ r.1

  numbers_are : (order : List ℕ) (db : Db) → map (λ (x : Act Numbered). x.call.number) (trace (means c.load.declarations.procs) (history c.load.calls order) db) ≡ order
  numbers_are [] db = refl
  numbers_are (n ∷ ns) db = ap (λ (l : List ℕ). n ∷ l) (numbers_are ns (written (means c.load.declarations.procs (numbered c.load.calls n) db).writes db))

  -- ---- recovery takes the records

  -- nothing is emitted beyond the ends
  within_ends : (xs : List (Act Numbered)) (w : Walk) → Walks c w xs stop → IsAt (records c) c.log.elv w → AtMost w.reach c.log.elv
  within_ends [] w h at = at_most_within w.reach c.log.elv (λ k lt.
      let low : k < length c.log.elv = omega (arith, lt, at.reach.long) in
      let is : slice_index w.reach k ≡ slice_index c.log.elv k = at.reach.starts k low ∙ ap (λ (o : Option Kept). start_or o (slice_index c.log.elv k)) (h.1 k low) in
      omega (arith, is))
  within_ends (x ∷ xs) w (new, step, said, h) at = by_up (updates x.effect) step (within_ends xs new h (at_step x w new (updates x.effect) step at))
    where
      by_up : (b : Bool) → Step (records c) c.report.acks c.log.elv (IsFor c x.call.number x.effect.writes) b x.call.number w new → AtMost new.reach c.log.elv → AtMost w.reach c.log.elv
      by_up true g rest = at_most_trans w.reach new.reach c.log.elv (went_rises x w new g at) rest
      by_up false r rest = subst (λ (l : List ℕ). AtMost l c.log.elv) r.0.same.1 rest

  taken : (xs : List (Act Numbered)) (w : Walk) → Walks c w xs stop → IsAt (records c) c.log.elv w → (y : Act Numbered) → Member y xs → updates y.effect ≡ true →
      has_record y.call.number (filter (λ (r : Kept). covers c.log.elv r.place.dep) (records c)) ≡ true
  taken [] w h at y m u = absurd m
  taken (x ∷ xs) w (new, step, said, h) at y (inr m) u = taken xs new h (at_step x w new (updates x.effect) step at) y m u
  taken (x ∷ xs) w (new, step, said, h) at y (inl e) u = by_up (updates x.effect) (ap (λ (z : Act Numbered). updates z.effect) e ∙ u) step
    where
      by_up : (b : Bool) → b ≡ true → Step (records c) c.report.acks c.log.elv (IsFor c x.call.number x.effect.writes) b x.call.number w new → has_record y.call.number (filter (λ (r : Kept). covers c.log.elv r.place.dep) (records c)) ≡ true
      by_up false t r = absurd (both_ways false refl t)
      by_up true t g =
          let found = head_found (slice_get (records c) (slice_index w.nexts.items new.stream)) new.stream g.lowest.one g.lowest.next in
          let most = at_most_trans g.lowest.one.place.dep w.reach c.log.elv (covers_at_most w.reach g.lowest.one.place.dep g.lowest.covered) (within_ends (x ∷ xs) w (new, step, said, h) at) in
          ap (λ (n : ℕ). has_record n (filter (λ (r : Kept). covers c.log.elv r.place.dep) (records c))) (sym (g.named ∙ ap (λ (z : Act Numbered). z.call.number) e))
          ∙ filter_there (λ (r : Kept). covers c.log.elv r.place.dep) (records c) (slice_index w.nexts.items new.stream) g.lowest.one found.0 (at_most_covers c.log.elv g.lowest.one.place.dep most)

  pub followed_is : (w : Walk) → Walks c w (acts c) stop → IsAt (records c) c.log.elv w → IsFollowed c
  followed_is w h at = record {
    order = ap (map number) (followed (acts c) w h at) ∙ numbers_are c.report.order empty_db;
    whole = λ x m. told (acts c) w h x m;
    taken = λ x m u. taken (acts c) w h at x m u;
  }
