-- What several calls in a row made of a disk's plan.
use Rattle.std.specs.Prelude.{◌≡◌, ◌⊎◌, ℕ, ◌+◌, ◌<◌, ◌≤◌, Bool, true, false, Result, OnOk, OnErr}

-- so many calls were made, none of which was to fail
abbrev pub MadeAll : ℕ → ℕ → ℕ → (ℕ → Bool) → Bool → Bool → Type 0
MadeAll count number number' fails short short' = (number' ≡ number + count) × (short' ≡ short) × ((k : ℕ) → number < k → k ≤ number + count → fails k ≡ false)

-- at most so many calls were made, and the last one was the first that was to fail, or a growth was refused
abbrev pub MadeSome : ℕ → ℕ → ℕ → (ℕ → Bool) → Bool → Type 0
MadeSome count number number' fails short' = ((number < number') × (number' ≤ number + count) × (fails number' ≡ true) × ((k : ℕ) → number < k → k < number' → fails k ≡ false)) ⊎ (short' ≡ true)

-- what calls in a row have made, by how they ended
pub record HasMade {T E : Type 0} (count number number' : ℕ) (fails fails' : ℕ → Bool) (short short' : Bool) (result : Result T E) : Type 0 where
  pub same : (k : ℕ) → fails' k ≡ fails k
  pub ok : OnOk result (MadeAll count number number' fails short short')
  pub failed : OnErr result (MadeSome count number number' fails short')
