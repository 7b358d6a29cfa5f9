-- Tables by the numbers of calls, up to a count.
use Rattle.std.specs.Prelude.{ℕ, suc, ◌+◌, ◌≤◌, ◌≡◌, ◌==◌, Bool, false, List, length, count_by, Some, slice_get, slice_index, slice_index_or}
use Rattle.std.specs.List.{list_any}

-- whether a number is in the list
abbrev pub is_in : ℕ → List ℕ → Bool
is_in k numbers = list_any (λ n. n == k) numbers

-- each number stands there once
abbrev pub IsUnique : List ℕ → Type 0
IsUnique numbers = (i j k : ℕ) → slice_get numbers i ≡ Some k → slice_get numbers j ≡ Some k → i ≡ j

-- which of the numbers are in the list
pub record HasFlags (count : ℕ) (numbers : List ℕ) (flags : List Bool) : Type 0 where
  pub long : length flags ≡ count + 1
  pub tells : (k : ℕ) → k ≤ count → slice_index_or flags k false ≡ is_in k numbers

-- how often they are
pub record HasCounts (count : ℕ) (numbers : List ℕ) (counts : List ℕ) : Type 0 where
  pub long : length counts ≡ count + 1
  pub tells : (k : ℕ) → k ≤ count → slice_index counts k ≡ count_by (λ n. n == k) numbers

-- where they are: one more than an index, or 0 of those that are not
pub record HasPlaces (count : ℕ) (numbers : List ℕ) (places : List ℕ) : Type 0 where
  pub long : length places ≡ count + 1
  pub there : (k i : ℕ) → k ≤ count → slice_index places k ≡ suc i → slice_get numbers i ≡ Some k
  pub none : (k : ℕ) → k ≤ count → slice_index places k ≡ 0 → is_in k numbers ≡ false
