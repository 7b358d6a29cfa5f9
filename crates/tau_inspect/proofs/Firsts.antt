-- Looking for the first element that does not fit.
use Rattle.std.proofs.Common.{ℕ, zero, suc, ◌+◌, ◌<◌, ◌≤◌, ◌≡◌, ◌⊎◌, inl, inr, List, [], ◌∷◌, ◌++◌, length, take, drop, get_or, refl, sym, ap, subst, ◌∙◌, arith}
use Rattle.std.specs.Prelude.{Some}
use Rattle.std.proofs.lemmas.List.{take_more, take_all}
use Rattle.std.proofs.Common.{drop-cons}
use Rattle.std.proofs.lemmas.List.{take-append-drop}
use Rattle.tau_model.specs.History.{Member}
use Rattle.tau_inspect.specs.Firsts.{AllFit, Finds}

-- an element of a list with one more at its end is that one, or one before it
pub split_end : {A : Type 0} (front f b : List A) (x y : A) → front ++ x ∷ [] ≡ f ++ y ∷ b → ((front ≡ f) × (x ≡ y)) ⊎ ((r : List A) × (front ≡ f ++ y ∷ r))
split_end [] [] b x y is = inl (refl, head_is is)
  where
    head_is : {A : Type 0} {p q : A} {ps qs : List A} → p ∷ ps ≡ q ∷ qs → p ≡ q
    head_is e = cc
split_end {A} [] (z ∷ f) b x y is = absurd (no_rest f (tail_is is))
  where
    tail_is : {p q : A} {ps qs : List A} → p ∷ ps ≡ q ∷ qs → ps ≡ qs
    tail_is e = cc

    no_rest : (g : List A) → [] ≡ g ++ y ∷ b → ⊥
    no_rest [] e = (let bad : ◌≡◌ {A = List A} [] (y ∷ b) = e in cc)
    no_rest (w ∷ g) e = (let bad : ◌≡◌ {A = List A} [] (w ∷ (g ++ y ∷ b)) = e in cc)
split_end {A} (w ∷ front) [] b x y is = inr (front, λ i. head_is is i ∷ front)
  where
    head_is : {p q : A} {ps qs : List A} → p ∷ ps ≡ q ∷ qs → p ≡ q
    head_is e = cc
split_end {A} (w ∷ front) (z ∷ f) b x y is = more (split_end front f b x y (tail_is is))
  where
    head_is : {p q : A} {ps qs : List A} → p ∷ ps ≡ q ∷ qs → p ≡ q
    head_is e = cc

    tail_is : {p q : A} {ps qs : List A} → p ∷ ps ≡ q ∷ qs → ps ≡ qs
    tail_is e = cc

    more : ((front ≡ f) × (x ≡ y)) ⊎ ((r : List A) × (front ≡ f ++ y ∷ r)) → ((w ∷ front ≡ z ∷ f) × (x ≡ y)) ⊎ ((r : List A) × (w ∷ front ≡ (z ∷ f) ++ y ∷ r))
    more (inl (e, d)) = inl ((λ i. head_is is i ∷ e i), d)
    more (inr (r, e)) = inr (r, λ i. head_is is i ∷ e i)

module _ {A : Type 0} (Fits : List A → A → Type 0) where
  pub fit_none : AllFit Fits []
  fit_none [] back x is = (let bad : ◌≡◌ {A = List A} [] (x ∷ back) = is in absurd cc)
  fit_none (y ∷ front) back x is = (let bad : ◌≡◌ {A = List A} [] (y ∷ (front ++ x ∷ back)) = is in absurd cc)

  fit_push : (front : List A) (x : A) → AllFit Fits front → Fits front x → AllFit Fits (front ++ x ∷ [])
  fit_push front x all fits f b y is = elim (split_end front f b x y is) [
    | inl (e, d) ↦ subst (λ (g : List A). Fits g y) e (subst (λ (z : A). Fits front z) d fits)
    | inr (r, e) ↦ all f r y e
  ]

  -- one more fits
  pub fit_more : (xs : List A) (i : ℕ) (x : A) → i < length xs → x ≡ get_or xs i x → AllFit Fits (take i xs) → Fits (take i xs) x → AllFit Fits (take (i + 1) xs)
  fit_more xs i x lt is all fits =
      subst (λ (l : List A). AllFit Fits l) (sym (take_more xs i x lt)) (fit_push (take i xs) (get_or xs i x) all (subst (λ (z : A). Fits (take i xs) z) is fits))

  -- all fit
  pub fit_all : (xs : List A) (i : ℕ) → length xs ≤ i → AllFit Fits (take i xs) → AllFit Fits xs
  fit_all xs i le all = subst (λ (l : List A). AllFit Fits l) (take_all i xs le) all

  -- this one does not
  pub unfit_here : (number : A → ℕ) (xs : List A) (i : ℕ) (x : A) (k : ℕ) → i < length xs → x ≡ get_or xs i x → AllFit Fits (take i xs) → (Fits (take i xs) x → ⊥) → number x ≡ k → Finds number Fits xs (Some k)
  unfit_here number xs i x k lt is all bad named =
      let there : xs ≡ take i xs ++ x ∷ drop (suc i) xs = sym (take-append-drop i xs) ∙ ap (λ (l : List A). take i xs ++ l) (drop-cons xs i x lt ∙ ap (λ (z : A). z ∷ drop (suc i) xs) (sym is)) in
      (x, record { front = take i xs; back = drop (suc i) xs; there = there; before = all; unfit = bad }, named)

-- a member stands somewhere
pub member_split : {A : Type 0} (x : A) (xs : List A) → Member x xs → (front : List A) × (back : List A) × (xs ≡ front ++ x ∷ back)
member_split x [] m = absurd m
member_split x (y ∷ ys) (inl e) = ([], ys, λ i. e i ∷ ys)
member_split x (y ∷ ys) (inr m) = let w = member_split x ys m in (y ∷ w.0, w.1, ap (λ l. y ∷ l) w.2)

pub fits_member : {A : Type 0} (Fits : List A → A → Type 0) (xs : List A) (x : A) → AllFit Fits xs → Member x xs → (front : List A) × Fits front x
fits_member Fits xs x all m = let w = member_split x xs m in (w.0, all w.0 w.1 x w.2)

-- an element is what is read with itself for one that is not there
pub own_default : {A : Type 0} (xs : List A) (i : ℕ) (d : A) → i < length xs → get_or xs i d ≡ get_or xs i (get_or xs i d)
own_default [] i d lt = absurd (omega (arith, lt))
own_default (x ∷ xs) zero d lt = refl
own_default (x ∷ xs) (suc i) d lt = own_default xs i d (omega (arith, lt))
