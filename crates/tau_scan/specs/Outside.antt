-- What a reading does to a disk.
use Rattle.std.specs.Prelude.{ℕ, zero, suc, ◌+◌, ◌<◌, ◌≤◌, ◌≡◌, Bool, List, length, slice_index}
use Rattle.tau_disk.specs.declared.disk.Disk.{Ghosts}
use Rattle.tau_disk.specs.Disk.{Only, Rose}
use Rattle.tau_disk.specs.Stages.{Went, Broke, OnlySynced, Staged, StageFails}
use Rattle.tau_disk.specs.Used.{EachIn, OnlyRead}

-- the calls of a disk that read it whole: its length, and its bytes
abbrev pub calls_to_read : ℕ
calls_to_read = 2

-- the disk was at most read, by no more calls than that, its count of faults is no lower, and the same calls are to fail
pub record IsRead {D : Type 0} (tells : Type 0) (seen : D → List ℕ) (may_leave : D → List ℕ → Type 0) (moment : D → ℕ) (since : D → ℕ → List ℕ → Type 0) (faults number : D → ℕ) (fails : D → ℕ → Bool) (d e : D) : Type 0 where
  pub read : OnlyRead tells seen may_leave moment since d e
  pub counts : faults d ≤ faults e
  pub plan : tells → (k : ℕ) → fails e k ≡ fails d k
  pub few : tells → number e ≤ number d + calls_to_read

-- the calls of a disk of this length that sync it and read it whole: none without a byte
abbrev pub calls_to_settle : ℕ → ℕ
calls_to_settle zero = 0
calls_to_settle (suc n) = 1 + calls_to_read

module _ {D : Type 0} (G : Ghosts D) where
  -- The disk, which had this length, was at most synced and read, by no more calls than these, and the same calls are to
  -- fail. Without a byte it is as it was.
  pub record IsSynced (long : ℕ) (d e : D) : Type 0 where
    pub only : OnlySynced G d e
    pub plan : G.tells → (k : ℕ) → G.fails e k ≡ G.fails d k
    pub few : G.tells → G.number e ≤ G.number d + calls_to_settle long
    pub alone : long ≡ 0 → e ≡ d

  -- the disk, which had this length, was synced and then read whole if it has a byte; a read gives what it gave, and then
  -- a stop leaves nothing else
  pub record IsSettled (long : ℕ) (d e : D) : Type 0 where
    pub same : G.tells → G.seen e ≡ G.seen d
    pub settled : G.tells → (long ≡ 0 → ⊥) → Only (G.seen e) (G.may_leave e)
    pub went : Went G (calls_to_settle long) d e

  -- The first call of the disk was a sync: once it had a call, and if none failed, a stop leaves nothing but what a read gives.
  abbrev pub SyncedFirst : D → D → Type 0
  SyncedFirst d e = G.tells → G.number d < G.number e → (Rose (G.faults d) (G.faults e) → ⊥) → Only (G.seen e) (G.may_leave e)

  -- each of the first disks, which had these lengths
  abbrev pub AreSynced : List ℕ → List D → List D → Type 0
  AreSynced lengths old new = EachIn (λ j. j < length lengths) (λ j. IsSynced (slice_index lengths j)) old new

  abbrev pub AreSettled : List ℕ → List D → List D → Type 0
  AreSettled lengths old new = Staged (λ j. IsSettled (slice_index lengths j)) (length lengths) old new

  -- the disk of stream j failed meanwhile by its first call that was to fail; those below it are settled, and those above
  -- it are as they were
  abbrev pub StopsSettling : List ℕ → ℕ → List D → List D → Type 0
  StopsSettling lengths j old new = (j < length lengths) × StageFails (λ i. IsSettled (slice_index lengths i)) (λ i. Broke G (calls_to_settle (slice_index lengths i))) j old new
