-- The laws of a disk, as its trait has them.
use Rattle.std.specs.Prelude.{ℕ, ◌≤◌, List}
use Rattle.tau_disk.specs.declared.disk.Disk.{Ghosts}

-- what is read now is an image that a stop now may leave
abbrev pub SeenNow : {D : Type 0} → Ghosts D → Type 0
SeenNow {D} G = (d : D) → G.tells → G.may_leave d (G.seen d)

-- an image that a stop now may leave is one since each earlier moment
abbrev pub CountsNow : {D : Type 0} → Ghosts D → Type 0
CountsNow {D} G = (d : D) (t : ℕ) (x : List ℕ) → t ≤ G.moment d → G.may_leave d x → G.may_leave_since d t x

-- an image since now is one that a stop now may leave
abbrev pub OnlyNow : {D : Type 0} → Ghosts D → Type 0
OnlyNow {D} G = (d : D) (x : List ℕ) → G.may_leave_since d (G.moment d) x → G.may_leave d x
