-- What is woven is the reported history.
use Rattle.std.proofs.Common.{ℕ, zero, suc, ◌+◌, ◌≤◌, ◌<◌, Bool, true, false, ◌≡◌, inl, inr, List, [], ◌∷◌, ◌++◌, length, map, refl, sym, ap, subst, ◌∙◌, arith, Option, get_or-set_other, get_or-set_same, length-append}
use Rattle.std.specs.Prelude.{Some, None, is_some, not, ◌&&◌, ◌==◌, slice_index, slice_index_or, slice_set}
use Rattle.std.specs.List.{All, filter}
use Rattle.std.specs.Option.{ForSome}
use Rattle.std.proofs.lemmas.Bool.{cases_Bool, cases_eq, eq-eqb, ne_eqb, both_ways, and_from, and_parts, cases_lt, eqb-true}
use Rattle.std.proofs.lemmas.List.{length-map}
use Rattle.tau_base.specs.Vectors.{AtMost, covers}
use Rattle.tau_base.proofs.Vectors.{at_most_trans, at_most_itself}
use Rattle.tau_model.specs.declared.committed.Committed.{Committed}
use Rattle.tau_model.specs.declared.committed.Spot.{Spot}
use Rattle.tau_model.specs.History.{Member}
use Rattle.tau_model.specs.Committed.{IsWithin, has_record, number_of, place_at, place_of, reported_numbers}
use Rattle.tau_model.specs.Reported.{take_first, take_record, Left, next_start, emitted, picked, listed, ascending, each, in_stream, left_of, reported_within}
use Rattle.tau_model.specs.Listing.{Entry, entry_number, entry_of, entry_place, entry_start, covered_by, IsQueue, AreQueues, IsListing, AreListed, AreRising, lengths, slot_of, bucket, woven}
use Rattle.tau_model.proofs.ReportOrder.{emitted_at, FirstTaken, take_first_is, RecordTaken, take_record_is}
use Rattle.tau_model.proofs.Listings.{emitted_set, length_emitted, lengths_set, queues_set}
use Rattle.tau_model.proofs.Naturality.{left_map, reported_map, ascending_map, map_each}
use Rattle.tau_model.proofs.Reorder.{reordered_length}
use Rattle.tau_model.proofs.Ascending.{ascending_reordered, each_at, each_past, length_each}
use Rattle.tau_model.proofs.Orders.{member_reordered}
use Rattle.tau_model.proofs.Logged.{member_filtered}
use Rattle.tau_model.proofs.Sorting.{Rising, ascending_rising, at_some_place, filter_same}
use Rattle.tau_model.proofs.Weaving.{each_same, woven_none}
use Rattle.tau_base.proofs.Lists.{map_map}

-- what does not pass
abbrev pub without : {A : Type 0} → (A → Bool) → List A → List A
without p xs = filter (λ x. not (p x)) xs

-- what is taken first, by what passes
abbrev pub TakenFirst : {A : Type 0} → (A → Bool) → List A → List A → Type 0
TakenFirst {A} p xs [] = (take_first p xs ≡ None) × (without p xs ≡ xs)
TakenFirst {A} p xs (x ∷ passing) = (others : List A) × (take_first p xs ≡ Some (x, others)) × (filter p others ≡ passing) × (without p others ≡ without p xs)

pub taken_first : {A : Type 0} (p : A → Bool) (xs : List A) → TakenFirst p xs (filter p xs)
taken_first p [] = (refl, refl)
taken_first {A} p (x ∷ xs) = elim (cases_Bool (p x)) [
  | inl is ↦ rw is (xs, rw is refl, refl, rw is refl)
  | inr no' ↦ rw no' (behind no' (filter p xs) (taken_first p xs))
]
  where
    behind : p x ≡ false → (ys : List A) → TakenFirst p xs ys → TakenFirst p (x ∷ xs) ys
    behind no' [] (none, all) = (rw (no', none) refl, rw no' (ap (λ l. x ∷ l) all))
    behind no' (y ∷ ys) (others, taken, passing, rest) = (x ∷ others, rw (no', taken) refl, rw no' passing, rw no' (ap (λ l. x ∷ l) rest))

module _ (ends : List ℕ) where
  taken_record : (v : List ℕ) (streams : List (List Entry)) (e : Entry) (rest : List (List Entry)) → take_record (covered_by v) streams ≡ Some (e, rest) →
      RecordTaken (covered_by v) streams (Some (e, rest))
  taken_record v streams e rest is = subst (λ o. RecordTaken (covered_by v) streams o) is (take_record_is (covered_by v) streams)

  -- what is listed makes what is emitted rise, and leaves fewer records
  record Goes (streams rest : List (List Entry)) : Type 0 where
    queues : AreQueues ends rest
    rises : AtMost (emitted entry_place streams ends) (emitted entry_place rest ends)
    fewer : lengths rest < lengths streams

  goes : (v : List ℕ) (streams : List (List Entry)) (e : Entry) (rest : List (List Entry)) → AreQueues ends streams → take_record (covered_by v) streams ≡ Some (e, rest) → Goes streams rest
  goes v streams e rest are is =
      let (j, rs, lt, front, set, passes) = taken_record v streams e rest is in
      let queue : IsQueue (slice_index ends j) (e ∷ rs) = subst (λ (l : List Entry). IsQueue (slice_index ends j) l) front (are.each j) in
      let count = lengths_set streams j rs lt in
      let here : length (slice_index_or streams j []) ≡ suc (length rs) = ap (λ (l : List Entry). length l) front in
      let was : slice_index (emitted entry_place streams ends) j ≡ e.start =
      emitted_at entry_place (λ x. true) streams ends are.count j ∙ ap (λ (l : List Entry). next_start entry_place l (slice_index ends j)) front in
      let now : emitted entry_place (slice_set streams j rs) ends ≡ slice_set (emitted entry_place streams ends) j (next_start entry_place rs (slice_index ends j)) =
      emitted_set entry_place streams ends j rs are.count lt in
      let wide : j < length (emitted entry_place streams ends) = omega (arith, length_emitted entry_place streams ends are.count, are.count) in
      rw set (record {
        queues = queues_set ends streams j e rs are lt front;
        rises = λ k. rw now (elim (cases_eq k j) [
          | inl same ↦ rw (same, get_or-set_same (emitted entry_place streams ends) j (next_start entry_place rs (slice_index ends j)) 0 wide, was) queue.0
          | inr other ↦ rw (get_or-set_other (emitted entry_place streams ends) j k (next_start entry_place rs (slice_index ends j)) 0 other) (omega arith)
        ]);
        fewer = omega arith;
      })

  listing_head : (streams : List (List Entry)) (reached : List (List ℕ)) (numbers : List ℕ) → IsListing ends streams reached numbers → slice_index_or reached 0 [] ≡ emitted entry_place streams ends
  listing_head streams [] numbers h = absurd h
  listing_head streams (v ∷ reached) [] h = h.0
  listing_head streams (v ∷ reached) (n ∷ numbers) h = h.0

  pub listing_length : (streams : List (List Entry)) (reached : List (List ℕ)) (numbers : List ℕ) → IsListing ends streams reached numbers → length reached ≡ length numbers + 1
  listing_length streams [] numbers h = absurd h
  listing_length streams (v ∷ reached) [] h = rw h.1 refl
  listing_length streams (v ∷ reached) (n ∷ numbers) (is, (e, rest, taken, number, h)) = let k = listing_length rest reached numbers h in omega arith

  pub listing_rising : (streams : List (List Entry)) (reached : List (List ℕ)) (numbers : List ℕ) → AreQueues ends streams → IsListing ends streams reached numbers → AreRising reached
  listing_rising streams [] numbers are h = absurd h
  listing_rising streams (v ∷ reached) [] are h = alone
    where
      alone : AreRising (v ∷ reached)
      alone zero zero le lt = at_most_itself v
      alone (suc i) zero le lt = absurd (omega arith)
      alone i (suc j) le lt = absurd (let k : length reached ≡ 0 = rw h.1 refl in omega arith)
  listing_rising streams (v ∷ reached) (n ∷ numbers) are (is, (e, rest, taken, number, h)) =
      let g = goes v streams e rest are taken in
      let up : AtMost v (slice_index_or reached 0 []) = rw (is, listing_head rest reached numbers h) g.rises in
      before up (listing_rising rest reached numbers g.queues h)
    where
      before : AtMost v (slice_index_or reached 0 []) → AreRising reached → AreRising (v ∷ reached)
      before up rising zero zero le lt = at_most_itself v
      before up rising (suc i) zero le lt = absurd (omega arith)
      before up rising zero (suc j) le lt = at_most_trans v (slice_index_or reached 0 []) (slice_index_or reached j []) up (rising 0 j (omega arith) (omega arith))
      before up rising (suc i) (suc j) le lt = rising i j (omega arith) (omega arith)

-- the readers that each vector covers first, and the records
abbrev pub interwoven : List (List ℕ) → List Entry → List ℕ → List ℕ
interwoven [] readers numbers = []
interwoven (v ∷ reached) readers [] = map entry_number (filter (covered_by v) readers)
interwoven (v ∷ reached) readers (n ∷ numbers) = map entry_number (filter (covered_by v) readers) ++ n ∷ interwoven reached (without (covered_by v) readers) numbers

module _ (ends : List ℕ) where
  no_records : (v : List ℕ) (streams : List (List Entry)) (e : Entry) (rest : List (List Entry)) → lengths streams ≤ 0 → take_record (covered_by v) streams ≡ Some (e, rest) → ⊥
  no_records v streams e rest few is =
      let (j, rs, lt, front, set, passes) = taken_record ends v streams e rest is in
      let count = lengths_set streams j rs lt in
      let here : length (slice_index_or streams j []) ≡ suc (length rs) = ap (λ (l : List Entry). length l) front in
      omega arith

  fewer : (v : List ℕ) (streams : List (List Entry)) (e : Entry) (rest : List (List Entry)) → take_record (covered_by v) streams ≡ Some (e, rest) → lengths rest < lengths streams
  fewer v streams e rest is =
      let (j, rs, lt, front, set, passes) = taken_record ends v streams e rest is in
      let count = lengths_set streams j rs lt in
      let here : length (slice_index_or streams j []) ≡ suc (length rs) = ap (λ (l : List Entry). length l) front in
      rw set (omega arith)

  no_length : {A : Type 0} (xs : List A) → length xs ≤ 0 → xs ≡ []
  no_length [] h = refl
  no_length (x ∷ xs) h = absurd (omega arith)

  -- nothing is left to list
  nothing : (streams : List (List Entry)) (reached : List (List ℕ)) (numbers : List ℕ) → lengths streams ≤ 0 → IsListing ends streams reached numbers → interwoven reached [] numbers ≡ []
  nothing streams [] numbers few h = absurd h
  nothing streams (v ∷ reached) [] few h = refl
  nothing streams (v ∷ reached) (n ∷ numbers) few (is, (e, rest, taken, number, h)) = absurd (no_records v streams e rest few taken)

  listing_at : (streams : List (List Entry)) (w : List ℕ) (reached : List (List ℕ)) (numbers : List ℕ) → IsListing ends streams (w ∷ reached) numbers → w ≡ emitted entry_place streams ends
  listing_at streams w reached [] h = h.0
  listing_at streams w reached (n ∷ numbers) h = h.0

  take_first_length : (p : Entry → Bool) (xs : List Entry) (x : Entry) (others : List Entry) → take_first p xs ≡ Some (x, others) → length xs ≡ suc (length others)
  take_first_length p xs x others is =
      let (front, back, whole, rest, passes) = subst (λ o. FirstTaken p xs o) is (take_first_is p xs) in
      omega (arith, ap (λ (l : List Entry). length l) whole, ap (λ (l : List Entry). length l) rest, length-append front (x ∷ back), length-append front back)

  interwoven_first : (v : List ℕ) (reached : List (List ℕ)) (readers others : List Entry) (x : Entry) (numbers : List ℕ) → filter (covered_by v) readers ≡ x ∷ filter (covered_by v) others →
      without (covered_by v) others ≡ without (covered_by v) readers → interwoven (v ∷ reached) readers numbers ≡ x.number ∷ interwoven (v ∷ reached) others numbers
  interwoven_first v reached readers others x [] e left = rw e refl
  interwoven_first v reached readers others x (n ∷ numbers) e left = rw (e, left) refl

  -- one step of the reported history, where the rest is woven
  step : (n : ℕ) → ((readers : List Entry) (streams : List (List Entry)) (reached : List (List ℕ)) (numbers : List ℕ) → length readers + lengths streams ≤ n → IsListing ends streams reached numbers →
      map entry_number (reported_within entry_place n ends (record { readers = readers; streams = streams })) ≡ interwoven reached readers numbers) →
      (readers : List Entry) (streams : List (List Entry)) (reached : List (List ℕ)) (numbers : List ℕ) → length readers + lengths streams ≤ suc n → IsListing ends streams reached numbers →
      (v : List ℕ) → v ≡ emitted entry_place streams ends → (passing : List Entry) → filter (covered_by v) readers ≡ passing → TakenFirst (covered_by v) readers passing →
      map entry_number (listed (picked readers streams (take_first (covered_by v) readers) (take_record (covered_by v) streams)) (λ left. reported_within entry_place n ends left)) ≡ interwoven reached readers numbers
  step n rest readers streams [] numbers few h v is passing e first = absurd h
  step n rest readers streams (w ∷ reached) [] few h v is [] e (none, all) =
      let same : w ≡ v = h.0 ∙ sym is in
      let end : take_record (covered_by v) streams ≡ None = subst (λ u. take_record (covered_by u) streams ≡ None) same h.2 in
      rw (none, end, same, e) refl
  step n rest readers streams (w ∷ reached) (k ∷ numbers) few h v is [] e (none, all) =
      let same : w ≡ v = h.0 ∙ sym is in
      let next : take_record (covered_by v) streams ≡ Some (h.1.0, h.1.1) = subst (λ u. take_record (covered_by u) streams ≡ Some (h.1.0, h.1.1)) same h.1.2 in
      let less = fewer v streams h.1.0 h.1.1 next in
      let others = rest readers h.1.1 reached numbers (omega arith) h.1.4 in
      let first : h.1.0.number ≡ k = sym h.1.3 in
      rw (none, next, same, e, all) (ap (λ l. h.1.0.number ∷ l) others ∙ ap (λ m. m ∷ interwoven reached readers numbers) first)
  step n rest readers streams (w ∷ reached) numbers few h v is (x ∷ passing) e (others, taken, those, left) =
      let same : w ≡ v = listing_at streams w reached numbers h ∙ sym is in
      let size = take_first_length (covered_by v) readers x others taken in
      let later = rest others streams (w ∷ reached) numbers (omega arith) h in
      rw taken (ap (λ l. x.number ∷ l) later ∙ rw same (sym (interwoven_first v reached readers others x numbers (e ∙ ap (λ l. x ∷ l) (sym those)) left)))

  pub report_interwoven : (n : ℕ) (readers : List Entry) (streams : List (List Entry)) (reached : List (List ℕ)) (numbers : List ℕ) → length readers + lengths streams ≤ n →
      IsListing ends streams reached numbers →
      map entry_number (reported_within entry_place n ends (record { readers = readers; streams = streams })) ≡ interwoven reached readers numbers
  unfolding reported_within
  report_interwoven zero readers streams reached numbers few h =
      rw (no_length readers (omega arith)) (sym (nothing streams reached numbers (omega arith) h))
  report_interwoven (suc n) readers streams reached numbers few h =
      step n (report_interwoven n) readers streams reached numbers few h (emitted entry_place streams ends) refl
      (filter (covered_by (emitted entry_place streams ends)) readers) refl (taken_first (covered_by (emitted entry_place streams ends)) readers)

eqb_suc : (m k : ℕ) → (suc m == suc k) ≡ (m == k)
eqb_suc m k = elim (cases_eq m k) [
  | inl is ↦ eq-eqb (suc m) (suc k) (ap suc is) ∙ sym (eq-eqb m k is)
  | inr ne ↦ ne_eqb (suc m) (suc k) (λ e. ne (omega arith)) ∙ sym (ne_eqb m k ne)
]

-- the slot of a call that the first vector covers
slot_first : (v : List ℕ) (reached : List (List ℕ)) (e : Entry) → (slot_of (v ∷ reached) e.dep == 0) ≡ covered_by v e
slot_first v reached e = elim (cases_Bool (covers v e.dep)) [
  | inl is ↦ rw is refl
  | inr no' ↦ rw no' (ne_eqb (suc (slot_of reached e.dep)) 0 (λ q. omega arith))
]

slot_later : (v : List ℕ) (reached : List (List ℕ)) (k : ℕ) (readers : List Entry) →
    filter (λ e. slot_of (v ∷ reached) e.dep == suc k) readers ≡ filter (λ e. slot_of reached e.dep == k) (without (covered_by v) readers)
slot_later v reached k [] = refl
slot_later v reached k (e ∷ readers) = elim (cases_Bool (covers v e.dep)) [
  | inl is ↦
      let out : (slot_of (v ∷ reached) e.dep == suc k) ≡ false = rw is (ne_eqb 0 (suc k) (λ q. omega arith)) in
      rw (out, is) (slot_later v reached k readers)
  | inr no' ↦
      let same : (slot_of (v ∷ reached) e.dep == suc k) ≡ (slot_of reached e.dep == k) = rw no' (eqb_suc (slot_of reached e.dep) k) in
      rw (same, no') (elim (cases_Bool (slot_of reached e.dep == k)) [
        | inl at ↦ rw at (ap (λ l. e ∷ l) (slot_later v reached k readers))
        | inr apart ↦ rw apart (slot_later v reached k readers)
      ])
]

pub interwoven_woven : (reached : List (List ℕ)) (readers : List Entry) (numbers : List ℕ) → length reached ≡ length numbers + 1 →
    interwoven reached readers numbers ≡ woven (each (length reached) (bucket reached readers)) numbers
interwoven_woven [] readers numbers e = refl
interwoven_woven (v ∷ reached) readers [] e =
    let none : reached ≡ [] = no_vectors reached (omega arith) in
    rw none (ap (map entry_number) (sym (filter_same (λ (x : Entry). slot_of (v ∷ []) x.dep == 0) (covered_by v) readers (slot_first v []))))
  where
    no_vectors : (xs : List (List ℕ)) → length xs ≤ 0 → xs ≡ []
    no_vectors [] h = refl
    no_vectors (x ∷ xs) h = absurd (omega arith)
interwoven_woven (v ∷ reached) readers (n ∷ numbers) e =
    let first : map entry_number (filter (covered_by v) readers) ≡ bucket (v ∷ reached) readers 0 =
    ap (map entry_number) (sym (filter_same (λ (x : Entry). slot_of (v ∷ reached) x.dep == 0) (covered_by v) readers (slot_first v reached))) in
    let rest = interwoven_woven reached (without (covered_by v) readers) numbers (omega arith) in
    let later : each (length reached) (bucket reached (without (covered_by v) readers)) ≡ each (length reached) (λ k. bucket (v ∷ reached) readers (suc k)) =
    each_same (length reached) (bucket reached (without (covered_by v) readers)) (λ k. bucket (v ∷ reached) readers (suc k)) (λ k. ap (map entry_number) (sym (slot_later v reached k readers))) in
    rw (first, rest, later) refl

apart_filters : {A : Type 0} (p q r : A → Bool) → ((x : A) → p x ≡ true → r x ≡ true) → ((x : A) → q x ≡ true → r x ≡ true) → ((x : A) → p x ≡ true → q x ≡ true → ⊥) →
    (xs : List A) → length (filter p xs) + length (filter q xs) ≤ length (filter r xs)
apart_filters p q r pr qr apart [] = omega arith
apart_filters p q r pr qr apart (x ∷ xs) =
    let rest = apart_filters p q r pr qr apart xs in
    elim (cases_Bool (p x)) [
      | inl is ↦ elim (cases_Bool (q x)) [
        | inl also ↦ absurd (apart x is also)
        | inr no' ↦ rw (is, no', pr x is) (omega arith)
      ]
      | inr not_p ↦ elim (cases_Bool (q x)) [
        | inl also ↦ rw (not_p, also, qr x also) (omega arith)
        | inr no' ↦ elim (cases_Bool (r x)) [
          | inl in_r ↦ rw (not_p, no', in_r) (omega arith)
          | inr out ↦ rw (not_p, no', out) rest
        ]
      ]
    ]

-- no element is in two of the lists, so together they are no more than those that may be in one
each_count : {A : Type 0} (n : ℕ) (q : ℕ → A → Bool) (r : A → Bool) → ((j : ℕ) (x : A) → q j x ≡ true → r x ≡ true) → ((i j : ℕ) (x : A) → q i x ≡ true → q j x ≡ true → i ≡ j) →
    (xs : List A) → lengths (each n (λ j. filter (q j) xs)) ≤ length (filter r xs)
each_count zero q r within once xs = omega arith
each_count {A} (suc n) q r within once xs =
    let rest = each_count n (λ j. q (suc j)) (λ x. r x && not (q 0 x))
    (λ j x is. and_from (r x) (not (q 0 x)) (within (suc j) x is) (not_first j x is)) (λ i j x a b. let e = once (suc i) (suc j) x a b in omega arith) xs in
    let both = apart_filters (q 0) (λ x. r x && not (q 0 x)) r (within 0) (λ x is. (and_parts (r x) (not (q 0 x)) is).0)
    (λ x is also. both_ways (not (q 0 x)) (rw is refl) (and_parts (r x) (not (q 0 x)) also).1) xs in
    omega arith
  where
    not_first : (j : ℕ) (x : A) → q (suc j) x ≡ true → not (q 0 x) ≡ true
    not_first j x is = elim (cases_Bool (q 0 x)) [
      | inl first ↦ absurd (let e = once (suc j) 0 x is first in omega arith)
      | inr no' ↦ rw no' refl
    ]

lengths_same : {A B : Type 0} (n : ℕ) (f : ℕ → List A) (g : ℕ → List B) → ((j : ℕ) → length (f j) ≡ length (g j)) → lengths (each n f) ≡ lengths (each n g)
lengths_same zero f g h = refl
lengths_same (suc n) f g h = let first = h 0 in let rest = lengths_same n (λ j. f (suc j)) (λ j. g (suc j)) (λ j. h (suc j)) in omega arith

abbrev reads : Committed → Bool
reads c = not (has_record c)

-- the calls that have a record in a stream are others for each stream
one_stream : (i j : ℕ) (c : Committed) → in_stream place_of has_record i c ≡ true → in_stream place_of has_record j c ≡ true → i ≡ j
one_stream i j c a b =
    let here : (place_of c).stream ≡ i = eqb-true (place_of c).stream i (and_parts (has_record c) ((place_of c).stream == i) a).1 in
    let there : (place_of c).stream ≡ j = eqb-true (place_of c).stream j (and_parts (has_record c) ((place_of c).stream == j) b).1 in
    sym here ∙ there

all_passes : {A : Type 0} (p : A → Bool) (xs : List A) → length (filter p xs) ≤ length xs
all_passes p [] = omega arith
all_passes p (x ∷ xs) = let rest = all_passes p xs in elim (cases_Bool (p x)) [ inl is ↦ rw is (omega arith) | inr no' ↦ rw no' (omega arith) ]

-- the readers and the records are no more than the calls
enough : (n : ℕ) (list : List Committed) →
    length (ascending number_of (filter reads list)) + lengths (each n (λ j. ascending (λ c. (place_of c).start) (filter (in_stream place_of has_record j) list))) ≤ length list
enough n list =
    let readers : length (filter reads list) ≡ length (ascending number_of (filter reads list)) =
    reordered_length (filter reads list) (ascending number_of (filter reads list)) (ascending_reordered number_of (filter reads list)) in
    let same = lengths_same n (λ j. ascending (λ c. (place_of c).start) (filter (in_stream place_of has_record j) list)) (λ j. filter (in_stream place_of has_record j) list)
    (λ j. sym (reordered_length (filter (in_stream place_of has_record j) list) (ascending (λ c. (place_of c).start) (filter (in_stream place_of has_record j) list))
    (ascending_reordered (λ c. (place_of c).start) (filter (in_stream place_of has_record j) list)))) in
    let count = each_count n (λ j. in_stream place_of has_record j) has_record (λ j c is. (and_parts (has_record c) ((place_of c).stream == j) is).0) one_stream list in
    let both = apart_filters reads has_record (λ c. true) (λ c is. refl) (λ c is. refl) (λ c is also. both_ways (has_record c) (not_true (has_record c) is) also) list in
    let all = all_passes {A = Committed} (λ c. true) list in
    omega arith
  where
    not_true : (b : Bool) → not b ≡ true → b ≡ false
    not_true true e = absurd (both_ways false refl e)
    not_true false e = refl

-- what is left to list, as the listing keeps it
abbrev pub entries_left : (n : ℕ) (list : List Committed) → Left Entry
entries_left n list = record {
  readers = ascending entry_number (map entry_of (filter (λ c. not (has_record c)) list));
  streams = each n (λ j. ascending entry_start (map entry_of (filter (in_stream place_of has_record j) list)));
}

entries_are : (n : ℕ) (list : List Committed) → entries_left n list ≡ left_map entry_of (left_of place_of has_record number_of n list)
entries_are n list =
    let first = ascending_map entry_of entry_number number_of (λ c. refl) (filter (λ c. not (has_record c)) list) in
    let second = each_same n (λ j. ascending entry_start (map entry_of (filter (in_stream place_of has_record j) list)))
    (λ j. map entry_of (ascending (λ c. (place_of c).start) (filter (in_stream place_of has_record j) list)))
    (λ j. ascending_map entry_of entry_start (λ c. (place_of c).start) (λ c. refl) (filter (in_stream place_of has_record j) list)) ∙
    sym (map_each (map entry_of) n (λ j. ascending (λ c. (place_of c).start) (filter (in_stream place_of has_record j) list))) in
    λ i. record { readers = first i; streams = second i }

lengths_map : {A B : Type 0} (f : A → B) (streams : List (List A)) → lengths (map (map f) streams) ≡ lengths streams
lengths_map f [] = refl
lengths_map f (s ∷ streams) = let rest = lengths_map f streams in omega (arith, rest, length-map s f)

-- the listing of the entries of the calls gives their reported history
pub woven_reported : (ends : List ℕ) (list : List Committed) (reached : List (List ℕ)) (numbers : List ℕ) → IsListing ends (entries_left (length ends) list).streams reached numbers →
    woven (each (length reached) (bucket reached (entries_left (length ends) list).readers)) numbers ≡ reported_numbers ends list
woven_reported ends list reached numbers h =
    let left : Left Committed = left_of place_of has_record number_of (length ends) list in
    let size : length (entries_left (length ends) list).readers + lengths (entries_left (length ends) list).streams ≤ length list =
    subst (λ (l : Left Entry). length l.readers + lengths l.streams ≤ length list) (sym (entries_are (length ends) list))
    (omega (arith, enough (length ends) list, length-map left.readers entry_of, lengths_map entry_of left.streams)) in
    let weave = sym (interwoven_woven reached (entries_left (length ends) list).readers numbers (listing_length ends (entries_left (length ends) list).streams reached numbers h)) in
    let report = sym (report_interwoven ends (length list) (entries_left (length ends) list).readers (entries_left (length ends) list).streams reached numbers size h) in
    let image = ap (λ (l : Left Entry). map entry_number (reported_within entry_place (length list) ends l)) (entries_are (length ends) list) ∙
    ap (map entry_number) (reported_map entry_of place_of entry_place (λ c. refl) (λ c. refl) (length list) ends left) in
    weave ∙ report ∙ image ∙ map_map entry_number entry_of (reported_within place_of (length list) ends left)

pub nothing_there : {A : Type 0} (xs : List A) (n : ℕ) (b : Bool) → n ≡ length xs → b ≡ (n == 0) → b ≡ true → xs ≡ []
nothing_there [] n b long e f = refl
nothing_there (x ∷ xs) n b long e f = absurd (let none : n ≡ 0 = eqb-true n 0 (sym e ∙ f) in omega arith)

-- and where no call only reads, the records that are listed are all
pub numbers_reported : (ends : List ℕ) (list : List Committed) (numbers : List ℕ) → (entries_left (length ends) list).readers ≡ [] →
    AreListed ends (entries_left (length ends) list).streams numbers → numbers ≡ reported_numbers ends list
numbers_reported ends list numbers none (reached, h) =
    let long = listing_length ends (entries_left (length ends) list).streams reached numbers h in
    sym (ap (λ (readers : List Entry). woven (each (length reached) (bucket reached readers)) numbers) none ∙ woven_none numbers (length reached) long) ∙ woven_reported ends list reached numbers h

queue_from : (end : ℕ) (es : List Entry) → Rising entry_start es → ((e : Entry) → Member e es → e.start ≤ end) → IsQueue end es
queue_from end [] up low = tt
queue_from end (e ∷ []) up low = (low e (inl refl), tt)
queue_from end (e ∷ f ∷ es) up low = (up.0 f (inl refl), queue_from end (f ∷ es) up.1 (λ x m. low x (inr m)))

pub member_mapped : {A B : Type 0} (f : A → B) (b : B) (xs : List A) → Member b (map f xs) → (a : A) × Member a xs × (f a ≡ b)
member_mapped f b [] m = absurd m
member_mapped f b (x ∷ xs) (inl e) = (x, inl refl, e)
member_mapped f b (x ∷ xs) (inr m) = let (a, n, e) = member_mapped f b xs m in (a, inr n, e)

start_within : (end : List ℕ) (j : ℕ) (c : Committed) → IsWithin end c → in_stream place_of has_record j c ≡ true → (place_of c).start ≤ slice_index end j
start_within ends j c within is = by_spot c.spot refl within is
  where
    by_spot : (o : Option Spot) → c.spot ≡ o → ForSome o (λ s. (s.stream < length ends) × (s.start ≤ slice_index ends s.stream)) →
        (is_some o && (place_at c.dep o).stream == j) ≡ true → (place_at c.dep o).start ≤ slice_index ends j
    by_spot None e within is = absurd (both_ways false refl is)
    by_spot (Some s) e within is =
        let here : s.stream ≡ j = eqb-true s.stream j is in
        subst (λ k. s.start ≤ slice_index ends k) here (within s refl).1

-- the records of each stream are a queue
pub entries_queues : (ends : List ℕ) (list : List Committed) → All (IsWithin ends) list → AreQueues ends (entries_left (length ends) list).streams
entries_queues ends list within = record {
  count = length_each (length ends) records;
  each = λ j. elim (cases_lt j (length ends)) [
    | inl lt ↦ subst (λ (l : List Entry). IsQueue (slice_index ends j) l) (sym (each_at (length ends) records j lt)) (queue_from (slice_index ends j) (records j)
        (ascending_rising entry_start (map entry_of (filter (in_stream place_of has_record j) list))) (low j))
    | inr le ↦ subst (λ (l : List Entry). IsQueue (slice_index ends j) l) (sym (each_past (length ends) records j le)) tt
  ];
}
  where
    records : ℕ → List Entry
    records j = ascending entry_start (map entry_of (filter (in_stream place_of has_record j) list))

    low : (j : ℕ) (e : Entry) → Member e (records j) → e.start ≤ slice_index ends j
    low j e m =
        let there = member_reordered (map entry_of (filter (in_stream place_of has_record j) list)) (records j) (ascending_reordered entry_start (map entry_of (filter (in_stream place_of has_record j) list))) e m in
        let (c, n, is) = member_mapped entry_of e (filter (in_stream place_of has_record j) list) there in
        let (at, passes) = member_filtered (in_stream place_of has_record j) c list n in
        let (k, lt, same) = at_some_place number_of c list at in
        let fits : IsWithin ends c = subst (λ (d : Committed). IsWithin ends d) (same c) (within k c lt) in
        subst (λ (x : Entry). x.start ≤ slice_index ends j) is (start_within ends j c fits passes)
