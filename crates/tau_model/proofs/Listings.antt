-- Listing records one after another.
use Rattle.std.proofs.Common.{ℕ, zero, suc, ◌+◌, ◌≤◌, ◌<◌, Bool, true, false, ◌≡◌, inl, inr, List, [], ◌∷◌, ◌++◌, length, map, refl, sym, ap, subst, ◌∙◌, arith, length-set, get_or-set_same, get_or-set_other, append_assoc}
use Rattle.std.proofs.lemmas.List.{append-nil}
use Rattle.std.specs.Prelude.{Some, None, slice_index, slice_index_or, slice_set}
use Rattle.std.proofs.lemmas.Bool.{cases_Bool, both_ways, cases_lt, cases_eq}
use Rattle.std.proofs.lemmas.List.{get_or_past}
use Rattle.tau_base.specs.Vectors.{covers}
use Rattle.tau_base.proofs.Vectors.{same_positions, at_most_trans, covers_at_most, at_most_covers}
use Rattle.tau_model.proofs.ReportOrder.{emitted_at}
use Rattle.tau_model.specs.Logged.{Place}
use Rattle.tau_model.specs.Reported.{take_record, next_start, emitted}
use Rattle.tau_model.specs.Listing.{Entry, entry_place, covered_by, first_passes, IsQueue, AreQueues, IsNext, IsListed, IsListing, AreListed, AreRising, lengths, slot_of}

pub take_record_none : {A : Type 0} (p : A → Bool) (streams : List (List A)) → ((k : ℕ) → k < length streams → first_passes p (slice_index_or streams k []) ≡ false) →
    take_record p streams ≡ None
take_record_none p [] no' = refl
take_record_none p ([] ∷ streams) no' = rw (take_record_none p streams (λ k lt. no' (suc k) (omega arith))) refl
take_record_none p ((x ∷ xs) ∷ streams) no' =
    let here : p x ≡ false = no' 0 (omega arith) in
    rw (here, take_record_none p streams (λ k lt. no' (suc k) (omega arith))) refl

pub take_record_at : {A : Type 0} (p : A → Bool) (streams : List (List A)) (j : ℕ) (x : A) (xs : List A) →
    ((k : ℕ) → k < j → first_passes p (slice_index_or streams k []) ≡ false) → j < length streams → slice_index_or streams j [] ≡ x ∷ xs → p x ≡ true →
    take_record p streams ≡ Some (x, slice_set streams j xs)
take_record_at p [] j x xs no' lt e t = absurd (omega arith)
take_record_at p (s ∷ streams) zero x xs no' lt e t = rw (e, t) refl
take_record_at p ([] ∷ streams) (suc j) x xs no' lt e t = rw (take_record_at p streams j x xs (λ k low. no' (suc k) (omega arith)) (omega arith) e t) refl
take_record_at p ((y ∷ ys) ∷ streams) (suc j) x xs no' lt e t =
    let here : p y ≡ false = no' 0 (omega arith) in
    rw (here, take_record_at p streams j x xs (λ k low. no' (suc k) (omega arith)) (omega arith) e t) refl

module _ {A : Type 0} (place : A → Place) where
  pub length_emitted : (streams : List (List A)) (ends : List ℕ) → length streams ≡ length ends → length (emitted place streams ends) ≡ length ends
  length_emitted [] [] e = refl
  length_emitted [] (b ∷ ends) e = absurd (omega arith)
  length_emitted (s ∷ streams) [] e = absurd (omega arith)
  length_emitted (s ∷ streams) (b ∷ ends) e = let h = length_emitted streams ends (omega arith) in omega arith

  pub emitted_set : (streams : List (List A)) (ends : List ℕ) (j : ℕ) (xs : List A) → length streams ≡ length ends → j < length streams →
      emitted place (slice_set streams j xs) ends ≡ slice_set (emitted place streams ends) j (next_start place xs (slice_index ends j))
  emitted_set [] ends j xs e lt = absurd (omega arith)
  emitted_set (s ∷ streams) [] j xs e lt = absurd (omega arith)
  emitted_set (s ∷ streams) (b ∷ ends) zero xs e lt = refl
  emitted_set (s ∷ streams) (b ∷ ends) (suc j) xs e lt = ap (λ l. next_start place s b ∷ l) (emitted_set streams ends j xs (omega arith) (omega arith))

pub next_start_low : (end : ℕ) (es : List Entry) → IsQueue end es → next_start entry_place es end ≤ end
next_start_low end [] h = omega arith
next_start_low end (e ∷ es) h = let low = next_start_low end es h.1 in let first = h.0 in omega arith

-- the list of the element at j
pub map_at : {A B : Type 0} (f : A → B) (xs : List A) (j : ℕ) (x : A) (d : B) → j < length xs → x ≡ slice_index_or xs j x → slice_index_or (map f xs) j d ≡ f x
map_at f [] j x d lt e = absurd (omega arith)
map_at f (y ∷ xs) zero x d lt e = ap f (sym e)
map_at f (y ∷ xs) (suc j) x d lt e = map_at f xs j x d (omega arith) e

-- the start of the next record of a stream, as it is emitted
pub emitted_next : (ends : List ℕ) (streams : List (List Entry)) (j : ℕ) (q : List Entry) (end start : ℕ) → AreQueues ends streams → slice_index_or streams j [] ≡ q →
    end ≡ slice_index ends j → start ≡ next_start entry_place q end → (start ≤ slice_index ends j) × (start ≡ slice_index (emitted entry_place streams ends) j)
emitted_next ends streams j q end start are here is next =
    let queue : IsQueue (slice_index ends j) q = subst (λ (l : List Entry). IsQueue (slice_index ends j) l) here (are.each j) in
    let low : next_start entry_place q (slice_index ends j) ≤ slice_index ends j = next_start_low (slice_index ends j) q queue in
    let same : start ≡ next_start entry_place q (slice_index ends j) = next ∙ ap (λ (k : ℕ). next_start entry_place q k) is in (
      omega arith,
      same ∙ ap (λ (l : List Entry). next_start entry_place l (slice_index ends j)) (sym here) ∙ sym (emitted_at entry_place (λ e. true) streams ends are.count j),
    )

pub next_is_that : (v : List ℕ) (streams : List (List Entry)) (j : ℕ) (q : List Entry) → ((k : ℕ) → k < j → first_passes (covered_by v) (slice_index_or streams k []) ≡ false) → j < length streams →
    slice_index_or streams j [] ≡ q → first_passes (covered_by v) q ≡ true → IsNext v streams j
next_is_that v streams j [] before lt here t = absurd (both_ways false refl t)
next_is_that v streams j (e ∷ rest) before lt here t = record {
  entry = e;
  rest = rest;
  within = lt;
  front = here;
  taken = take_record_at (covered_by v) streams j e rest before lt here t;
}

-- an element that was read, with another default
pub at_default : {A : Type 0} (xs : List A) (i : ℕ) (x d : A) → i < length xs → x ≡ slice_index_or xs i x → slice_index_or xs i d ≡ x
at_default [] i x d lt e = absurd (omega arith)
at_default (y ∷ xs) zero x d lt e = sym e
at_default (y ∷ xs) (suc i) x d lt e = at_default xs i x d (omega arith) e

pub rising_covers : (reached : List (List ℕ)) (dep : List ℕ) (i j : ℕ) → AreRising reached → i ≤ j → j < length reached →
    covers (slice_index_or reached i []) dep ≡ true → covers (slice_index_or reached j []) dep ≡ true
rising_covers reached dep i j rising le lt c =
    at_most_covers (slice_index_or reached j []) dep
    (at_most_trans dep (slice_index_or reached i []) (slice_index_or reached j []) (covers_at_most (slice_index_or reached i []) dep c) (rising i j le lt))

pub rising_uncovered : (reached : List (List ℕ)) (dep : List ℕ) (i j : ℕ) → AreRising reached → i ≤ j → j < length reached →
    covers (slice_index_or reached j []) dep ≡ false → covers (slice_index_or reached i []) dep ≡ false
rising_uncovered reached dep i j rising le lt no' = elim (cases_Bool (covers (slice_index_or reached i []) dep)) [
  | inl c ↦ absurd (both_ways (covers (slice_index_or reached j []) dep) no' (rising_covers reached dep i j rising le lt c))
  | inr e ↦ e
]

pub first_slot : (reached : List (List ℕ)) (dep : List ℕ) (i : ℕ) → i ≤ length reached → ((k : ℕ) → k < i → covers (slice_index_or reached k []) dep ≡ false) →
    ((k : ℕ) → i ≤ k → k < length reached → covers (slice_index_or reached k []) dep ≡ true) → i ≡ slot_of reached dep
first_slot [] dep i le before behind = omega arith
first_slot (v ∷ reached) dep zero le before behind = rw (behind 0 (omega arith) (omega arith)) refl
first_slot (v ∷ reached) dep (suc i) le before behind =
    rw (before 0 (omega arith)) (ap suc (first_slot reached dep i (omega arith) (λ k lt. before (suc k) (omega arith)) (λ k low lt. behind (suc k) (omega arith) (omega arith))))

pub queues_set : (ends : List ℕ) (streams : List (List Entry)) (j : ℕ) (e : Entry) (rest : List Entry) → AreQueues ends streams → j < length streams → slice_index_or streams j [] ≡ e ∷ rest →
    AreQueues ends (slice_set streams j rest)
queues_set ends streams j e rest are lt front = record {
  count = length-set streams j rest ∙ are.count;
  each = λ k. elim (cases_eq k j) [
    | inl same ↦ rw (same, get_or-set_same streams j rest [] lt) (subst (λ (l : List Entry). IsQueue (slice_index ends j) l) front (are.each j)).1
    | inr other ↦ rw (get_or-set_other streams j k rest [] other) (are.each k)
  ];
}

-- one stream in place of another
pub lengths_set : {A : Type 0} (streams : List (List A)) (j : ℕ) (xs : List A) → j < length streams →
    lengths (slice_set streams j xs) + length (slice_index_or streams j []) ≡ lengths streams + length xs
lengths_set [] j xs lt = absurd (omega arith)
lengths_set (s ∷ streams) zero xs lt = omega arith
lengths_set (s ∷ streams) (suc j) xs lt = let h = lengths_set streams j xs (omega arith) in omega arith

-- what the next record of a stream leaves
pub next_listed : (ends : List ℕ) (streams : List (List Entry)) (v : List ℕ) (j : ℕ) (next : IsNext v streams j) (e : Entry) (rest : List Entry) (start : ℕ) (w : List ℕ) →
    AreQueues ends streams → v ≡ emitted entry_place streams ends → slice_index_or streams j [] ≡ e ∷ rest → start ≡ next_start entry_place rest (slice_index ends j) → w ≡ slice_set v j start →
    (start ≤ slice_index ends j) × IsListed ends streams (slice_set streams j rest) v w e.number
next_listed ends streams v j next e rest start w are is front from set =
    let same : next.entry ∷ next.rest ≡ e ∷ rest = sym next.front ∙ front in
    let first : next.entry ≡ e = cc in let others : next.rest ≡ rest = cc in
    let queue : IsQueue (slice_index ends j) (e ∷ rest) = subst (λ (l : List Entry). IsQueue (slice_index ends j) l) front (are.each j) in
    let low = next_start_low (slice_index ends j) rest queue.1 in
    let count = lengths_set streams j rest next.within in
    let here : length (slice_index_or streams j []) ≡ suc (length rest) = ap (λ (l : List Entry). length l) front in (
      omega arith,
      record {
        entry = e;
        taken = next.taken ∙ rw (first, others) refl;
        is = refl;
        queues = queues_set ends streams j e rest are next.within front;
        emitted_is = set ∙ rw (is, from) (sym (emitted_set entry_place streams ends j rest are.count next.within));
        fewer = omega arith;
      },
    )

-- one more vector and record at the end of what was listed
pub listing_more : (ends : List ℕ) (streams : List (List Entry)) (a grown : List (List ℕ)) (v : List ℕ) (reached : List (List ℕ)) (b more : List ℕ) (n : ℕ) (numbers : List ℕ) →
    grown ≡ a ++ v ∷ [] → more ≡ b ++ n ∷ [] → IsListing ends streams (a ++ v ∷ reached) (b ++ n ∷ numbers) → IsListing ends streams (grown ++ reached) (more ++ numbers)
listing_more ends streams a grown v reached b more n numbers e f h = rw (e, f, append_assoc a (v ∷ []) reached, append_assoc b (n ∷ []) numbers) h

pub listing_whole : (ends : List ℕ) (streams : List (List Entry)) (reached : List (List ℕ)) (numbers : List ℕ) → IsListing ends streams (reached ++ []) (numbers ++ []) →
    IsListing ends streams reached numbers
listing_whole ends streams reached numbers h = rw (append-nil reached, append-nil numbers) at h

-- the record that is listed first
pub listed_first : (ends : List ℕ) (streams left : List (List Entry)) (v w : List ℕ) (n : ℕ) (numbers : List ℕ) → v ≡ emitted entry_place streams ends → IsListed ends streams left v w n →
    AreListed ends left numbers → AreListed ends streams (n ∷ numbers)
listed_first ends streams left v w n numbers is next (reached, h) = (v ∷ reached, (is, (next.entry, left, next.taken, next.is, h)))

-- one more record at the end of what was listed
pub listed_more : (ends : List ℕ) (streams : List (List Entry)) (b more : List ℕ) (n : ℕ) (numbers : List ℕ) → more ≡ b ++ n ∷ [] → AreListed ends streams (b ++ n ∷ numbers) →
    AreListed ends streams (more ++ numbers)
listed_more ends streams b more n numbers f h = rw (f, append_assoc b (n ∷ []) numbers) h

pub listed_whole : (ends : List ℕ) (streams : List (List Entry)) (numbers : List ℕ) → AreListed ends streams (numbers ++ []) → AreListed ends streams numbers
listed_whole ends streams numbers h = rw (append-nil numbers) at h
