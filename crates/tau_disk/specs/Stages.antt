-- What calls make of several disks, which they go over one after another, the lowest first.
use Rattle.std.specs.Prelude.{ℕ, ◌+◌, ◌<◌, ◌≤◌, ◌≡◌, List, length, drop, slice_get, slice_index, Some}
use Rattle.tau_disk.specs.declared.disk.Disk.{Ghosts}
use Rattle.tau_disk.specs.Disk.{Rose, Passes}
use Rattle.tau_disk.specs.Plan.{MadeAll, MadeSome}
use Rattle.tau_disk.specs.Used.{EachIn, OfDisk}

module _ {D : Type 0} where
  -- the disks below j are through the stage, and the others are as they were
  pub record Staged (R : ℕ → D → D → Type 0) (j : ℕ) (old new : List D) : Type 0 where
    pub each : EachIn (λ i. i < j) R old new
    pub rest : drop j new ≡ drop j old
    pub many : length new ≡ length old

  -- the disk of stream j failed in the stage, those below it are through, and those above it are as they were
  pub record StageFails (R S : ℕ → D → D → Type 0) (j : ℕ) (old new : List D) : Type 0 where
    pub below : EachIn (λ i. i < j) R old new
    pub here : OfDisk (S j) old new j
    pub rest : drop (j + 1) new ≡ drop (j + 1) old
    pub many : length new ≡ length old

-- these are the lengths of the first disks, of each that tells
abbrev pub AreLengths : {D : Type 0} → Type 0 → (D → List ℕ) → List D → List ℕ → Type 0
AreLengths {D} tells seen disks lengths = (j : ℕ) (d : D) → j < length lengths → slice_get disks j ≡ Some d → tells → slice_index lengths j ≡ length (seen d)

module _ {D : Type 0} (G : Ghosts D) where
  -- so many calls of the disk were made, and none of them was to fail
  pub record Went (count : ℕ) (d e : D) : Type 0 where
    pub counts : G.faults d ≤ G.faults e
    pub same : G.tells → (k : ℕ) → G.fails e k ≡ G.fails d k
    pub made : G.tells → MadeAll count (G.number d) (G.number e) (G.fails d) (G.short d) (G.short e)

  -- at most so many calls of the disk were made, and the last one failed, which was the first that was to fail
  pub record Broke (count : ℕ) (d e : D) : Type 0 where
    pub counts : G.faults d ≤ G.faults e
    pub rose : Rose (G.faults d) (G.faults e)
    pub same : G.tells → (k : ℕ) → G.fails e k ≡ G.fails d k
    pub made : G.tells → MadeSome count (G.number d) (G.number e) (G.fails d) (G.short e)

  -- The disk was at most read and synced: a stop leaves nothing that it did not leave, and unless it failed a read gives
  -- what it gave.
  pub record OnlySynced (d e : D) : Type 0 where
    pub no_more : (x : List ℕ) → G.may_leave e x → G.may_leave d x
    pub moments : Passes G.moment G.may_leave_since d e (G.may_leave d)
    pub counts : G.faults d ≤ G.faults e
    pub same : G.tells → (Rose (G.faults d) (G.faults e) → ⊥) → G.seen e ≡ G.seen d
