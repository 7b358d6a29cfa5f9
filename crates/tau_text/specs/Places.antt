-- Where a byte stands.
use Rattle.std.specs.Prelude.{ℕ, ◌≡◌, ◌==◌, ◌<◌, List, false, slice_index}

-- none of the first so many bytes is this one
abbrev pub HasNone : ℕ → ℕ → List ℕ → Type 0
HasNone wanted n bytes = (k : ℕ) → k < n → (slice_index bytes k == wanted) ≡ false
