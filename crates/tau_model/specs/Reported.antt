-- The reported history: committed calls, listed as their vectors allow.
use Rattle.std.specs.Prelude.{ℕ, zero, suc, nat_le, Bool, not, if◌then◌else◌, ◌&&◌, ◌==◌, ◌≡◌, List, [], ◌∷◌, length, Option, Some, None, slice_index_or}
use Rattle.std.specs.List.{filter}
use Rattle.tau_base.specs.Vectors.{covers}
use Rattle.tau_model.specs.History.{Reordered}
use Rattle.tau_model.specs.Logged.{Place}

-- the first element that passes, and the others
abbrev pub with_rest : {A : Type 0} → A → Option (A × List A) → Option (A × List A)
with_rest y None = None
with_rest y (Some (x, rest)) = Some (x, y ∷ rest)

abbrev pub take_first : {A : Type 0} → (A → Bool) → List A → Option (A × List A)
take_first p [] = None
take_first p (x ∷ xs) = if p x then Some (x, xs) else with_rest x (take_first p xs)

abbrev pub with_front : {A : Type 0} → List A → Option (A × List (List A)) → Option (A × List (List A))
with_front s None = None
with_front s (Some (x, rest)) = Some (x, s ∷ rest)

-- the next record of the lowest stream whose next record passes, and what is left of all streams
abbrev pub take_record : {A : Type 0} → (A → Bool) → List (List A) → Option (A × List (List A))
take_record p [] = None
take_record p ([] ∷ streams) = with_front [] (take_record p streams)
take_record p ((r ∷ rs) ∷ streams) = if p r then Some (r, rs ∷ streams) else with_front (r ∷ rs) (take_record p streams)

-- what is not yet listed: read-only calls by ascending number, and each stream's records in their order
pub record Left (A : Type 0) : Type 0 where
  pub readers : List A
  pub streams : List (List A)

abbrev pub record_picked : {A : Type 0} → List A → Option (A × List (List A)) → Option (A × Left A)
record_picked readers None = None
record_picked readers (Some (x, streams)) = Some (x, record { readers = readers; streams = streams })

abbrev pub picked : {A : Type 0} → List A → List (List A) → Option (A × List A) → Option (A × List (List A)) → Option (A × Left A)
picked readers streams (Some (x, rest)) r = Some (x, record { readers = rest; streams = streams })
picked readers streams None r = record_picked readers r

abbrev pub listed : {A : Type 0} → Option (A × Left A) → (Left A → List A) → List A
listed None rest = []
listed (Some (x, left)) rest = x ∷ rest left

-- in ascending order of a number that each element has
abbrev pub put_in : {A : Type 0} → (A → ℕ) → A → List A → List A
put_in key x [] = x ∷ []
put_in key x (y ∷ ys) = if nat_le (key x) (key y) then x ∷ y ∷ ys else y ∷ put_in key x ys

abbrev pub ascending : {A : Type 0} → (A → ℕ) → List A → List A
ascending key [] = []
ascending key (x ∷ xs) = put_in key x (ascending key xs)

-- what a function gives at each stream, of n streams
abbrev pub each : {A : Type 0} → ℕ → (ℕ → A) → List A
each zero f = []
each (suc n) f = f 0 ∷ each n (λ j. f (suc j))

module _ {A : Type 0} (place : A → Place) where
  abbrev pub next_start : List A → ℕ → ℕ
  next_start [] end = end
  next_start (r ∷ rs) end = (place r).start

  -- for each stream the start of the next record that is not yet listed, or the stream's end
  abbrev pub emitted : List (List A) → List ℕ → List ℕ
  emitted [] ends = []
  emitted (s ∷ streams) [] = []
  emitted (s ∷ streams) (e ∷ ends) = next_start s e ∷ emitted streams ends

  -- the read-only call with the lowest number that is covered, else the next record of the lowest stream whose next record is covered
  abbrev pub pick : List ℕ → Left A → Option (A × Left A)
  pick ends left = let passes : A → Bool = λ x. covers (emitted left.streams ends) (place x).dep in
      picked left.readers left.streams (take_first passes left.readers) (take_record passes left.streams)

  -- at most so many calls of the report
  unfoldable pub reported_within : ℕ → List ℕ → Left A → List A
  reported_within zero ends left = []
  reported_within (suc n) ends left = listed (pick ends left) (λ rest. reported_within n ends rest)

  module _ (up : A → Bool) where
    abbrev pub in_stream : ℕ → A → Bool
    in_stream j x = up x && (place x).stream == j

    -- what is left is the read-only ones of these calls, and for each stream its records in their order
    pub record IsLeft (ends : List ℕ) (acts : List A) (left : Left A) : Type 0 where
      pub readers : Reordered left.readers (filter (λ x. not (up x)) acts)
      pub streams : (j : ℕ) → slice_index_or left.streams j [] ≡ filter (in_stream j) acts
      pub count : length left.streams ≡ length ends

    -- what is left of these calls, in whatever order they are given, where nothing is listed yet
    abbrev pub left_of : (A → ℕ) → ℕ → List A → Left A
    left_of number width calls = record {
      readers = ascending number (filter (λ x. not (up x)) calls);
      streams = each width (λ j. ascending (λ x. (place x).start) (filter (in_stream j) calls));
    }

    -- the reported history of these calls, in whatever order they are given: read-only calls come by number, records by their place in the stream
    abbrev pub reported_of : (A → ℕ) → List ℕ → List A → List A
    reported_of number ends calls = reported_within (length calls) ends (left_of number (length ends) calls)
