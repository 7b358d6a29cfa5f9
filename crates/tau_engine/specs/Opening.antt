-- What a run makes of its disks before its first call, and what of it stops leave.
use Rattle.std.specs.Prelude.{ℕ, ◌+◌, ◌<◌, ◌≡◌, ◌⊎◌, nat_le, if◌then◌else◌, List, [], slice_get, slice_index, Some}
use Rattle.tau_disk.specs.declared.disk.Disk.{Ghosts}
use Rattle.tau_disk.specs.Disk.{Rose}
use Rattle.tau_disk.specs.Used.{OfDisk}
use Rattle.tau_stream.specs.Stream.{IsUnborn}
use Rattle.tau_begin.specs.Barrier.{IsBarrier}
use Rattle.tau_begin.specs.Reading.{calls_before_writes}

-- the calls that open the disk of stream j, of disks with these lengths: those that ask and read it, three writes with a
-- sync each on an unborn stream, and else two
abbrev pub opening_calls : List ℕ → ℕ → ℕ
opening_calls sizes j = calls_before_writes (slice_index sizes j) + (if nat_le (slice_index sizes j) 17 then 6 else 4)

module _ {D : Type 0} (G : Ghosts D) where
  -- no call of the disk failed, and it has its barrier: the entry without a byte, and else its second call, a sync
  abbrev pub HasBarrier : D → D → Type 0
  HasBarrier d e = (Rose (G.faults d) (G.faults e) → ⊥) × ((G.seen d ≡ []) ⊎ (G.number d + 1 < G.number e))

  -- since its barrier a stop leaves what a read gives, and of a disk without a byte what it left at the entry
  pub record IsUnwritten (b : ℕ) (d e : D) : Type 0 where
    pub barrier : IsBarrier G b d e
    pub same : G.seen e ≡ G.seen d
    pub only : (x : List ℕ) → G.may_leave_since e b x → (x ≡ G.seen d) ⊎ ((G.seen d ≡ []) × G.may_leave d x)

  -- an image that a stop might have left at some moment since the barrier of its disk
  abbrev pub SinceBarrier : (ℕ → ℕ) → List D → List D → ℕ → List ℕ → Type 0
  SinceBarrier barrier old new j x = OfDisk (λ d e. G.tells × G.may_leave_since e (barrier j) x) old new j

  -- a stop at the entry leaves at most a header on each of the first n disks that has no byte
  abbrev pub EmptyAreUnborn : List D → ℕ → Type 0
  EmptyAreUnborn old n = (j : ℕ) (d : D) → j < n → slice_get old j ≡ Some d → G.tells → G.seen d ≡ [] → IsUnborn (G.may_leave d)
