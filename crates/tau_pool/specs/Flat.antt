-- Taken records that are kept flat.
use Rattle.std.specs.Prelude.{ℕ, ◌+◌, ◌≤◌, List, length, map, take, drop}
use Rattle.std.specs.List.{All}
use Rattle.tau_pool.specs.Item.{Item}
use Rattle.tau_pool.specs.declared.items.Row.{Row}
use Rattle.tau_pool.specs.declared.items.Items.TheInside.{Inside}

-- the vector that lies there
abbrev pub vector_of : List ℕ → Row → List ℕ
vector_of positions r = take r.width (drop r.at positions)

-- the record, with its vector
abbrev pub item_at : List ℕ → Row → Item
item_at positions r = record { stream = r.stream; index = r.index; start = r.start; dep = vector_of positions r; stage = r.stage }

-- a vector lies there
pub record IsRow (positions : List ℕ) (r : Row) : Type 0 where
  pub within : r.at + r.width ≤ length positions

abbrev pub plain : Inside → List Item
plain l = map (item_at l.positions.items) l.rows.items

abbrev pub IsFlat : Inside → Type 0
IsFlat l = All (IsRow l.positions.items) l.rows.items
