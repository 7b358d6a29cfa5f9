-- The reported history of a list that is made from another one is made from its reported history.
use Rattle.std.proofs.Common.{ℕ, Bool, ◌≡◌, inl, inr, List, [], ◌∷◌, map, length, refl, sym, ap, ◌∙◌}
use Rattle.std.specs.Prelude.{not}
use Rattle.std.specs.List.{filter}
use Rattle.std.proofs.Math.Path.{fun_ext}
use Rattle.std.proofs.lemmas.Bool.{cases_Bool}
use Rattle.std.proofs.lemmas.List.{length-map}
use Rattle.tau_model.specs.Logged.{Place}
use Rattle.tau_model.specs.Reported.{Left, ascending, each, in_stream, left_of, reported_within, reported_of}
use Rattle.tau_model.proofs.Naturality.{left_map, ascending_map, map_each}
use Rattle.tau_model.proofs.Naturality as natural

module _ {A B : Type 0} (f : A → B) where
  filter_map : (p : B → Bool) (xs : List A) → filter p (map f xs) ≡ map f (filter (λ x. p (f x)) xs)
  filter_map p [] = refl
  filter_map p (x ∷ xs) = elim (cases_Bool (p (f x))) [
    | inl is ↦ rw is (ap (λ (l : List B). f x ∷ l) (filter_map p xs))
    | inr no' ↦ rw no' (filter_map p xs)
  ]

  -- sorted by a key
  sorted_map : (key : B → ℕ) (p : B → Bool) (xs : List A) → ascending key (filter p (map f xs)) ≡ map f (ascending (λ x. key (f x)) (filter (λ x. p (f x)) xs))
  sorted_map key p xs = ap (ascending key) (filter_map p xs) ∙ ascending_map f key (λ x. key (f x)) (λ x. refl) (filter (λ x. p (f x)) xs)

  module _ (place : B → Place) (up : B → Bool) (number : B → ℕ) where
    left_of_map : (width : ℕ) (xs : List A) → left_of place up number width (map f xs) ≡ left_map f (left_of (λ x. place (f x)) (λ x. up (f x)) (λ x. number (f x)) width xs)
    left_of_map width xs =
        let of_stream : ℕ → List A = λ j. ascending (λ x. (place (f x)).start) (filter (in_stream (λ x. place (f x)) (λ x. up (f x)) j) xs) in
        let readers = sorted_map number (λ y. not (up y)) xs in
        let streams : each width (λ j. ascending (λ y. (place y).start) (filter (in_stream place up j) (map f xs))) ≡ map (map f) (each width of_stream) =
        ap (each width) (fun_ext (λ j. sorted_map (λ y. (place y).start) (in_stream place up j) xs)) ∙ sym (map_each (map f) width of_stream) in
        λ i. record { readers = readers i; streams = streams i }

    pub reported_map : (ends : List ℕ) (xs : List A) →
        map f (reported_of (λ x. place (f x)) (λ x. up (f x)) (λ x. number (f x)) ends xs) ≡ reported_of place up number ends (map f xs)
    reported_map ends xs =
        let left : Left A = left_of (λ x. place (f x)) (λ x. up (f x)) (λ x. number (f x)) (length ends) xs in
        sym (natural.reported_map f (λ x. place (f x)) place (λ x. refl) (λ x. refl) (length xs) ends left)
        ∙ ap (λ (l : Left B). reported_within place (length xs) ends l) (sym (left_of_map (length ends) xs))
        ∙ ap (λ (n : ℕ). reported_within place n ends (left_of place up number (length ends) (map f xs))) (sym (length-map xs f))
