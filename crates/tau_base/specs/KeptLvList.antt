-- Vectors that are kept flat.
use Rattle.std.specs.Prelude.{ℕ, ◌+◌, ◌*◌, ◌^◌, ◌≤◌, ◌<◌, List, length, map, take, drop, slice_index, vec_len, vec_capacity}
use Rattle.std.specs.List.{All}
use Rattle.tau_base.specs.declared.limits.TheConstants.{MAX_STREAMS}
use Rattle.tau_base.specs.declared.lv_list.Mark.{Mark}
use Rattle.tau_base.specs.declared.lv_list.LvList.TheInside.{Inside}
use Rattle.tau_base.specs.LvList.{PlainLvList}

-- the vector that lies there
abbrev pub vector_at : List ℕ → Mark → List ℕ
vector_at positions m = take m.width (drop m.at positions)

abbrev pub plain : Inside → PlainLvList
plain l = record { items = map (vector_at l.positions.items) l.marks.items; room = l.room }

-- a vector of 1 to MAX_STREAMS positions lies there
pub record IsMark (positions : List ℕ) (m : Mark) : Type 0 where
  pub low : 1 ≤ m.width
  pub high : m.width ≤ MAX_STREAMS
  pub within : m.at + m.width ≤ length positions

pub record IsKept (l : Inside) : Type 0 where
  pub marks : All (IsMark l.positions.items) l.marks.items
  pub small : (k : ℕ) → slice_index l.positions.items k < 2 ^ 62
  pub lean : length l.positions.items ≤ MAX_STREAMS * length l.marks.items
  pub room : vec_len l.marks + l.room ≤ vec_capacity l.marks
  pub positions_room : vec_len l.positions + MAX_STREAMS * l.room ≤ vec_capacity l.positions
  pub few : length l.positions.items + MAX_STREAMS * l.room < 2 ^ 32

-- the mark of a vector that lies so much further on
abbrev pub mark_behind : ℕ → Mark → Mark
mark_behind from m = record { at = from + m.at; width = m.width }

-- it can lie so much further on
abbrev pub IsMarkBehind : ℕ → Mark → Type 0
IsMarkBehind from m = from + m.at < 2 ^ 32
