-- The reported history of the images of calls is the image of their reported history.
use Rattle.std.proofs.Common.{ℕ, zero, suc, Bool, ◌≡◌, inl, inr, List, [], ◌∷◌, map, refl, ap, ◌∙◌, Option}
use Rattle.std.specs.Prelude.{Some, None, nat_le}
use Rattle.std.proofs.lemmas.Bool.{cases_Bool}
use Rattle.tau_base.specs.Vectors.{covers}
use Rattle.tau_model.specs.Logged.{Place}
use Rattle.tau_model.specs.Reported.{with_rest, take_first, with_front, take_record, Left, next_start, emitted, picked, listed, put_in, ascending, each, reported_within}

module _ {A B : Type 0} (f : A → B) where
  abbrev pub rest_map : Option (A × List A) → Option (B × List B)
  rest_map None = None
  rest_map (Some w) = Some (f w.0, map f w.1)

  abbrev pub front_map : Option (A × List (List A)) → Option (B × List (List B))
  front_map None = None
  front_map (Some w) = Some (f w.0, map (map f) w.1)

  abbrev pub left_map : Left A → Left B
  left_map left = record { readers = map f left.readers; streams = map (map f) left.streams }

  with_rest_map : (y : A) (o : Option (A × List A)) → with_rest (f y) (rest_map o) ≡ rest_map (with_rest y o)
  with_rest_map y None = refl
  with_rest_map y (Some w) = refl

  with_front_map : (s : List A) (o : Option (A × List (List A))) → with_front (map f s) (front_map o) ≡ front_map (with_front s o)
  with_front_map s None = refl
  with_front_map s (Some w) = refl

  module _ (p : B → Bool) (q : A → Bool) (same : (x : A) → p (f x) ≡ q x) where
    take_first_map : (xs : List A) → take_first p (map f xs) ≡ rest_map (take_first q xs)
    take_first_map [] = refl
    take_first_map (x ∷ xs) = elim (cases_Bool (q x)) [
      | inl is ↦ rw (same x, is) refl
      | inr no' ↦ rw (same x, no', take_first_map xs) (with_rest_map x (take_first q xs))
    ]

    take_record_map : (streams : List (List A)) → take_record p (map (map f) streams) ≡ front_map (take_record q streams)
    take_record_map [] = refl
    take_record_map ([] ∷ streams) = rw (take_record_map streams) (with_front_map [] (take_record q streams))
    take_record_map ((x ∷ xs) ∷ streams) = elim (cases_Bool (q x)) [
      | inl is ↦ rw (same x, is) refl
      | inr no' ↦ rw (same x, no', take_record_map streams) (with_front_map (x ∷ xs) (take_record q streams))
    ]

  module _ (place : A → Place) (image : B → Place) (starts : (x : A) → (image (f x)).start ≡ (place x).start) (deps : (x : A) → (image (f x)).dep ≡ (place x).dep) where
    next_start_map : (xs : List A) (end : ℕ) → next_start image (map f xs) end ≡ next_start place xs end
    next_start_map [] end = refl
    next_start_map (x ∷ xs) end = starts x

    pub emitted_map : (streams : List (List A)) (ends : List ℕ) → emitted image (map (map f) streams) ends ≡ emitted place streams ends
    emitted_map [] ends = refl
    emitted_map (s ∷ streams) [] = refl
    emitted_map (s ∷ streams) (e ∷ ends) =
        let first = next_start_map s e in let rest = emitted_map streams ends in λ i. first i ∷ rest i

    listed_map : (readers : List A) (streams : List (List A)) (o : Option (A × List A)) (r : Option (A × List (List A))) (image_rest : Left B → List B) (rest : Left A → List A) →
        ((left : Left A) → image_rest (left_map left) ≡ map f (rest left)) →
        listed (picked (map f readers) (map (map f) streams) (rest_map o) (front_map r)) image_rest ≡ map f (listed (picked readers streams o r) rest)
    listed_map readers streams (Some w) r image_rest rest same = ap (λ l. f w.0 ∷ l) (same (record { readers = w.1; streams = streams }))
    listed_map readers streams None (Some w) image_rest rest same = ap (λ l. f w.0 ∷ l) (same (record { readers = readers; streams = w.1 }))
    listed_map readers streams None None image_rest rest same = refl

    pub reported_map : (n : ℕ) (ends : List ℕ) (left : Left A) → reported_within image n ends (left_map left) ≡ map f (reported_within place n ends left)
    unfolding reported_within
    reported_map zero ends left = refl
    reported_map (suc n) ends left =
        rw (
          emitted_map left.streams ends,
          take_first_map (λ x. covers (emitted place left.streams ends) (image x).dep) (λ x. covers (emitted place left.streams ends) (place x).dep) passes left.readers,
          take_record_map (λ x. covers (emitted place left.streams ends) (image x).dep) (λ x. covers (emitted place left.streams ends) (place x).dep) passes left.streams,
        ) (listed_map left.readers left.streams (take_first (λ x. covers (emitted place left.streams ends) (place x).dep) left.readers)
        (take_record (λ x. covers (emitted place left.streams ends) (place x).dep) left.streams) (λ l. reported_within image n ends l) (λ l. reported_within place n ends l)
        (λ l. reported_map n ends l))
      where
        passes : (x : A) → covers (emitted place left.streams ends) (image (f x)).dep ≡ covers (emitted place left.streams ends) (place x).dep
        passes x = ap (covers (emitted place left.streams ends)) (deps x)

  module _ (image_key : B → ℕ) (key : A → ℕ) (same : (x : A) → image_key (f x) ≡ key x) where
    put_in_map : (x : A) (ys : List A) → put_in image_key (f x) (map f ys) ≡ map f (put_in key x ys)
    put_in_map x [] = refl
    put_in_map x (y ∷ ys) = elim (cases_Bool (nat_le (key x) (key y))) [
      | inl le ↦ rw (same x, same y, le) refl
      | inr gt ↦ rw (same x, same y, gt) (ap (λ l. f y ∷ l) (put_in_map x ys))
    ]

    pub ascending_map : (xs : List A) → ascending image_key (map f xs) ≡ map f (ascending key xs)
    ascending_map [] = refl
    ascending_map (x ∷ xs) = ap (put_in image_key (f x)) (ascending_map xs) ∙ put_in_map x (ascending key xs)

pub map_each : {A B : Type 0} (f : A → B) (n : ℕ) (g : ℕ → A) → map f (each n g) ≡ each n (λ j. f (g j))
map_each f zero g = refl
map_each f (suc n) g = ap (λ l. f (g 0) ∷ l) (map_each f n (λ j. g (suc j)))
