-- Orderly orders that split in two, and orderly orders one after another.
use Rattle.std.proofs.Common.{ℕ, ◌≤◌, ◌<◌, Bool, true, false, not, ◌≡◌, inl, inr, List, [], ◌∷◌, ◌++◌, map, slice_index, refl, sym, ap, subst, ◌∙◌, arith}
use Rattle.std.specs.List.{filter}
use Rattle.std.proofs.lemmas.Bool.{cases_Bool}
use Rattle.tau_model.specs.History.{Member, Reordered}
use Rattle.tau_model.specs.Logged.{Place, StartBehind, Orderly}
use Rattle.tau_model.proofs.Orders.{member_reordered}
use Rattle.tau_model.proofs.Reorder.{reordered_filter}
use Rattle.tau_epoch_laws.proofs.Parts.{filter_all, filter_none, filter_first, filter_second}

module _ {A : Type 0} (place : A → Place) where
  behind_at : (v : List ℕ) (xs : List A) (x : A) → StartBehind v (map place xs) → Member x xs → slice_index v (place x).stream ≤ (place x).start
  behind_at v [] x h m = absurd m
  behind_at v (y ∷ xs) x h (inl e) = subst (λ (z : A). slice_index v (place z).stream ≤ (place z).start) e h.0
  behind_at v (y ∷ xs) x h (inr m) = behind_at v xs x h.1 m

  behind_all : (v : List ℕ) (xs : List A) → ((x : A) → Member x xs → slice_index v (place x).stream ≤ (place x).start) → StartBehind v (map place xs)
  behind_all v [] low = tt
  behind_all v (x ∷ xs) low = (low x (inl refl), behind_all v xs (λ y m. low y (inr m)))

  behind_filter : (v : List ℕ) (p : A → Bool) (xs : List A) → StartBehind v (map place xs) → StartBehind v (map place (filter p xs))
  behind_filter v p [] h = h
  behind_filter v p (x ∷ xs) h = elim (cases_Bool (p x)) [ inl t ↦ rw t (h.0, behind_filter v p xs h.1) | inr f ↦ rw f (behind_filter v p xs h.1) ]

  behind_append : (v : List ℕ) (xs ys : List A) → StartBehind v (map place xs) → StartBehind v (map place ys) → StartBehind v (map place (xs ++ ys))
  behind_append v [] ys h g = g
  behind_append v (x ∷ xs) ys h g = (h.0, behind_append v xs ys h.1 g)

  -- some of the records of an orderly order stand in an orderly order
  pub orderly_filter : (p : A → Bool) (xs : List A) → Orderly (map place xs) → Orderly (map place (filter p xs))
  orderly_filter p [] h = h
  orderly_filter p (x ∷ xs) h = elim (cases_Bool (p x)) [
    | inl t ↦ rw t ((h.0.0, behind_filter (place x).dep p xs h.0.1), orderly_filter p xs h.1)
    | inr f ↦ rw f (orderly_filter p xs h.1)
  ]

  -- two orderly orders one after the other, of which the first waits for nothing of the second
  pub orderly_append : (xs ys : List A) → Orderly (map place xs) → Orderly (map place ys) → ((x y : A) → Member x xs → Member y ys → slice_index (place x).dep (place y).stream ≤ (place y).start) →
      Orderly (map place (xs ++ ys))
  orderly_append [] ys h g low = g
  orderly_append (x ∷ xs) ys h g low =
      ((h.0.0, behind_append (place x).dep xs ys h.0.1 (behind_all (place x).dep ys (λ y m. low x y (inl refl) m))), orderly_append xs ys h.1 g (λ z y m. low z y (inr m)))

  module _ (old : A → Bool) where
    abbrev new : A → Bool
    new x = not (old x)

    -- an old record starts before what a new one waits for
    abbrev Waits : List A → Type 0
    Waits xs = (x y : A) → Member x xs → Member y xs → old x ≡ true → old y ≡ false → (place x).start < slice_index (place y).dep (place x).stream

    -- in an orderly order the old ones come first
    splits : (xs : List A) → Orderly (map place xs) → Waits xs → xs ≡ filter old xs ++ filter new xs
    splits [] h waits = refl
    splits (x ∷ xs) h waits =
        let rest = splits xs h.1 (λ y z my mz. waits y z (inr my) (inr mz)) in
        elim (cases_Bool (old x)) [
          | inl t ↦ rw t (ap (λ (l : List A). x ∷ l) rest)
          | inr f ↦
              let none : (y : A) → Member y xs → old y ≡ false = λ y m. elim (cases_Bool (old y)) [
                | inl is ↦ absurd (let lt = waits y x (inr m) (inl refl) is f in let le = behind_at (place x).dep xs y h.0.1 m in omega (arith, lt, le))
                | inr off ↦ off
              ] in
              let all : filter new xs ≡ xs = filter_all new xs (λ y m. ap not (none y m)) in
              rw f (ap (λ (l : List A). x ∷ l) (sym all) ∙ ap (λ (l : List A). l ++ x ∷ filter new xs) (sym (filter_none old xs none)))
        ]

    -- an orderly order of old and new records: one of the old, and after it one of the new
    pub record Parts (olds news order : List A) : Type 0 where
      pub whole : order ≡ filter old order ++ filter new order
      pub first : Reordered olds (filter old order)
      pub second : Reordered news (filter new order)
      pub first_orderly : Orderly (map place (filter old order))
      pub second_orderly : Orderly (map place (filter new order))

    pub parts : (olds news order : List A) → Reordered (olds ++ news) order → Orderly (map place order) → ((x : A) → Member x olds → old x ≡ true) → ((x : A) → Member x news → old x ≡ false) →
        ((x y : A) → Member x (olds ++ news) → Member y (olds ++ news) → old x ≡ true → old y ≡ false → (place x).start < slice_index (place y).dep (place x).stream) → Parts olds news order
    parts olds news order r h are are_not waits =
        let there : (x : A) → Member x order → Member x (olds ++ news) = λ x m. member_reordered (olds ++ news) order r x m in
        record {
          whole = splits order h (λ x y mx my. waits x y (there x mx) (there y my));
          first = subst (λ (l : List A). Reordered l (filter old order)) (filter_first old olds news are are_not) (reordered_filter old (olds ++ news) order r);
          second = subst (λ (l : List A). Reordered l (filter new order)) (filter_second new olds news (λ x m. ap not (are x m)) (λ x m. ap not (are_not x m))) (reordered_filter new (olds ++ news) order r);
          first_orderly = orderly_filter old order h;
          second_orderly = orderly_filter new order h;
        }
