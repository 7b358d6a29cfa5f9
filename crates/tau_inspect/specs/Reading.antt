-- Reading what is spelled.
use Rattle.std.specs.Prelude.{ℕ, ◌<◌, ◌^◌, ◌≡◌, Bool, true, false, List, Option, Some, None}

-- what was read of these bytes: something that fits, whose spelling they are; none if nothing is
abbrev pub Reads : {A : Type 0} → (A → List ℕ) → (A → Type 0) → List ℕ → Option A → Type 0
Reads spell Fits bytes (Some a) = Fits a × (spell a ≡ bytes)
Reads {A} spell Fits bytes None = (a : A) → Fits a → spell a ≡ bytes → ⊥

-- what was read into a place, if something was
abbrev pub if_found : {A : Type 0} → Bool → A → Option A
if_found true a = Some a
if_found false a = None

-- a number from 0 up that a word of 64 bits with a sign has
abbrev pub IsSmall : ℕ → Type 0
IsSmall n = n < 2 ^ 63
