-- What is done to the disks of a run before anything is written.
use Rattle.std.specs.Prelude.{ℕ, ◌+◌, ◌<◌, ◌≡◌, ◌⊎◌, List, [], length, slice_index}
use Rattle.tau_disk.specs.declared.disk.Disk.{Ghosts}
use Rattle.tau_disk.specs.Disk.{Only, Rose}
use Rattle.tau_disk.specs.Stages.{Went, OnlySynced, Staged, StageFails, AreLengths}
use Rattle.tau_disk.specs.Used.{EachIn}
use Rattle.tau_scan.specs.Outside.{calls_to_settle, StopsSettling}
use Rattle.tau_open.specs.Opening.{Asked, FailsAsked}

-- the calls of a disk of this length before its first write: its length is asked, and with a byte it is synced and read
abbrev pub calls_before_writes : ℕ → ℕ
calls_before_writes long = 1 + calls_to_settle long

module _ {D : Type 0} (G : Ghosts D) where
  -- The disk was at most asked, and then synced and read. Its second call was a sync: once it was made, and if no call failed, a
  -- stop leaves nothing but what a read gives.
  pub record AtMostRead (d e : D) : Type 0 where
    pub only : OnlySynced G d e
    pub settled : G.tells → G.number d + 1 < G.number e → (Rose (G.faults d) (G.faults e) → ⊥) → Only (G.seen e) (G.may_leave e)

  -- the disk, which has this length, was asked, and with a byte synced and then read
  pub record WasRead (long : ℕ) (d e : D) : Type 0 where
    pub only : OnlySynced G d e
    pub same : G.tells → G.seen e ≡ G.seen d
    pub settled : G.tells → (G.seen d ≡ [] → ⊥) → Only (G.seen e) (G.may_leave e)
    pub went : Went G (calls_before_writes long) d e

  -- each of the first n disks, which have these lengths
  abbrev pub WereRead : List ℕ → ℕ → List D → List D → Type 0
  WereRead sizes n old new = EachIn (λ j. j < n) (λ j. WasRead (slice_index sizes j)) old new

  -- the first n disks were asked their lengths, which are these, and nothing else
  pub record AreAskedFor (sizes : List ℕ) (n : ℕ) (old new : List D) : Type 0 where
    pub asked : Staged (λ i. Asked G) n old new
    pub lengths : AreLengths G.tells G.seen old sizes
    pub count : length sizes ≡ n

  -- The disk of stream j, one of n, failed by its first call that was to fail: when it was asked, after those below it; or
  -- all were asked, and it failed when it was synced or read, after those below it.
  abbrev pub StopsReading : ℕ → ℕ → List D → List D → Type 0
  StopsReading n j old new = ((j < n) × StageFails (λ i. Asked G) (λ i. FailsAsked G) j old new)
      ⊎ ((mid : List D) × (sizes : List ℕ) × AreAskedFor sizes n old mid × StopsSettling G sizes j mid new)
