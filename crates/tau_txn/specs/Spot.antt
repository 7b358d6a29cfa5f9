-- Where a key stands among ascending keys.
use Rattle.std.specs.Prelude.{ℕ, ◌+◌, List, [], ◌∷◌, Result, Ok, Err}
use Rattle.std.specs.FinMap.Entries.{by_order}
use Rattle.tau_base.specs.declared.value.Key.{Key}
use Rattle.tau_base.specs.declared.value.Mode.{Mode}
use Rattle.tau_base.specs.Database.{key_cmp}

abbrev pub later : ℕ → Result ℕ ℕ → Result ℕ ℕ
later n (Ok i) = Ok (n + i)
later n (Err i) = Err (n + i)

-- its place, or the place where it would go
abbrev pub spot : Key → List (Key × Mode) → Result ℕ ℕ
spot key [] = Err 0
spot key (e ∷ es) = by_order (key_cmp key e.0) (Err 0) (Ok 0) (later 1 (spot key es))
