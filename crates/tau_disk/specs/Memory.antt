-- What a memory disk shows, and what its calls leave.
use Rattle.std.specs.Prelude.{◌≡◌, ℕ, Bool, true, false, ◌||◌, ◌&&◌, List, length, Result, OnOk, OnErr}
use Rattle.tau_disk.specs.Replay.{DiskState, opened, replayed, wrote, lost, is_planned, is_stop}
use Rattle.tau_disk.specs.declared.memory.MemDisk.{MemDisk}

-- what a read gives
abbrev pub seen_by : MemDisk → List ℕ
seen_by disk = disk.seen.items

-- what its calls so far have made
abbrev pub state_of : MemDisk → DiskState
state_of disk = replayed (opened disk.first.items) disk.calls.items

-- how many calls it has had
abbrev pub count_of : MemDisk → ℕ
count_of disk = disk.number

-- whether a growth was refused: one of a call that was not to fail, or one for what a call that was to fail leaves
abbrev pub is_short_by : MemDisk → Bool
is_short_by disk = disk.is_short || disk.is_cut

-- whether the call with this number is to fail
abbrev pub fails_at : MemDisk → ℕ → Bool
fails_at disk k = is_planned disk.failing.items disk.stops_at k

-- whether a write that is the call with this number, and is to fail, counts as written and not synced
abbrev pub keeps_at : MemDisk → ℕ → Bool
keeps_at disk k = disk.keeps_last && is_stop disk.stops_at k

-- a write that failed: made all the same, or one of which nothing more is known
abbrev pub failed_write : Bool → DiskState → ℕ → List ℕ → DiskState
failed_write true s at bytes = wrote s at bytes
failed_write false s at bytes = lost s at (length bytes)

-- A call that writes nothing leaves the state, and which write counts as written.
pub record StaysAs (old new : MemDisk) : Type 0 where
  pub state : state_of new ≡ state_of old
  pub last : (k : ℕ) → keeps_at new k ≡ keeps_at old k

-- What a write leaves. After a growth that was refused nothing more is said.
pub record WritesTo {T E : Type 0} (at : ℕ) (bytes : List ℕ) (old new : MemDisk) (result : Result T E) : Type 0 where
  pub ok : OnOk result (state_of new ≡ wrote (state_of old) at bytes)
  pub failed : OnErr result (is_short_by new ≡ false → state_of new ≡ failed_write (keeps_at old (count_of new)) (state_of old) at bytes)
  pub last : (k : ℕ) → keeps_at new k ≡ keeps_at old k

-- What a sync leaves. One that failed has synced nothing.
pub record SyncsTo {T E : Type 0} (old new : MemDisk) (result : Result T E) : Type 0 where
  pub ok : OnOk result (state_of new ≡ opened (seen_by old))
  pub failed : OnErr result (state_of new ≡ state_of old)
  pub last : (k : ℕ) → keeps_at new k ≡ keeps_at old k
