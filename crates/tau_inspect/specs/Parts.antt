-- Texts that are cut at a byte, and the parts of a vector's text.
use Rattle.std.specs.Prelude.{ℕ, ◌<◌, ◌+◌, ◌≡◌, ◌==◌, not, Bool, true, List, [], ◌∷◌, ◌++◌, length, take, drop}
use Rattle.std.specs.List.{list_all}
use Rattle.std.specs.Fmt.{decimal}

-- none of the bytes is this one
abbrev pub lacks : ℕ → List ℕ → Bool
lacks byte bytes = list_all (λ b. not (b == byte)) bytes

-- where the byte stands first
pub record IsCut (byte : ℕ) (text : List ℕ) (i : ℕ) : Type 0 where
  pub within : i < length text
  pub split : text ≡ take i text ++ byte ∷ drop (i + 1) text
  pub first : lacks byte (take i text) ≡ true

-- components, a comma after each
abbrev pub commas : List ℕ → List ℕ
commas [] = []
commas (p ∷ ps) = decimal p ++ 44 ∷ commas ps
