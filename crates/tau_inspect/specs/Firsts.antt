-- The first element of a list that does not fit; whether it fits may depend on what stands before it.
use Rattle.std.specs.Prelude.{ℕ, ◌≡◌, List, ◌∷◌, ◌++◌, Option, Some, None}

-- each element fits, with those before it
abbrev pub AllFit : {A : Type 0} → (List A → A → Type 0) → List A → Type 0
AllFit {A} Fits xs = (front back : List A) (x : A) → xs ≡ front ++ x ∷ back → Fits front x

-- x is the first one that does not
pub record IsFirstUnfit {A : Type 0} (Fits : List A → A → Type 0) (xs : List A) (x : A) : Type 0 where
  pub front : List A
  pub back : List A
  pub there : xs ≡ front ++ x ∷ back
  pub before : AllFit Fits front
  pub unfit : Fits front x → ⊥

-- what a search for it gives: its number, or none if each fits
abbrev pub Finds : {A : Type 0} → (A → ℕ) → (List A → A → Type 0) → List A → Option ℕ → Type 0
Finds number Fits xs None = AllFit Fits xs
Finds {A} number Fits xs (Some k) = (x : A) × IsFirstUnfit Fits xs x × (number x ≡ k)
