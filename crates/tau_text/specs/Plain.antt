-- Words of plain bytes.
use Rattle.std.specs.Prelude.{ℕ, ◌≡◌, ◌<◌, ◌==◌, Bool, true, not, ◌&&◌, nat_lt, List, [], ◌∷◌, length}
use Rattle.std.specs.List.{list_all}

-- a byte that neither ends a word or a line nor begins a text
abbrev pub is_plain : ℕ → Bool
is_plain b = not (b == 32) && not (b == 34) && not (b == 10) && nat_lt b 128

pub record IsPlain (w : List ℕ) : Type 0 where
  pub bytes : list_all is_plain w ≡ true
  pub some : 0 < length w

abbrev pub ArePlain : List (List ℕ) → Type 0
ArePlain [] = Unit {0}
ArePlain (w ∷ ws) = IsPlain w × ArePlain ws
