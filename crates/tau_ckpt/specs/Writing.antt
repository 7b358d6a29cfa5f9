-- What a write of a slot leaves, at each moment.
use Rattle.std.specs.Prelude.{◌≡◌, ◌≢◌, ◌⊎◌, ℕ, ◌+◌, ◌≤◌, ◌==◌, if◌then◌else◌, Bool, true, false, List, [], ◌∷◌, length, slice_index}
use Rattle.tau_disk.specs.Disk.{Only}
use Rattle.tau_ckpt.specs.Slot.{FitsCheckpoint, Holds, slot_text}
use Rattle.tau_ckpt.specs.declared.checkpoint.Checkpoint.{Checkpoint}

-- The image holds none, or the one that the old image held.
abbrev pub HoldsNoMore : ℕ → List ℕ → List ℕ → Type 0
HoldsNoMore slot old image = (b : Checkpoint) → Holds slot image b → Holds slot old b

-- The image holds none, the one that the old image held, or this one.
abbrev pub HoldsOldOrNew : ℕ → List ℕ → Checkpoint → List ℕ → Type 0
HoldsOldOrNew slot old c image = (b : Checkpoint) → Holds slot image b → Holds slot old b ⊎ (b ≡ c)

-- nothing is pending on a slot that has a byte
abbrev pub IsQuiet : List ℕ → (List ℕ → Type 0) → Type 0
IsQuiet file may_leave = 1 ≤ length file → Only file may_leave

-- of a slot that has no byte a stop leaves at most 17 bytes
abbrev pub EmptyIsUnborn : List ℕ → (List ℕ → Type 0) → Type 0
EmptyIsUnborn file may_leave = file ≡ [] → (x : List ℕ) → may_leave x → length x ≤ 17

-- whether the slot has a gate that is closed
abbrev pub GateIs : Bool → List ℕ → Type 0
GateIs true file = (1 ≤ length file) × (slice_index file 0 ≢ 1)
GateIs false file = (file ≡ []) ⊎ ((1 ≤ length file) × (slice_index file 0 ≡ 1))

-- the slot has a gate that is closed, and nothing is pending
pub record IsClosed (file : List ℕ) (may_leave : List ℕ → Type 0) : Type 0 where
  pub gate : GateIs true file
  pub only : Only file may_leave

-- the bytes spell the checkpoint in this slot, after the gate
pub record IsSpelled (slot : ℕ) (c : Checkpoint) (bytes : List ℕ) : Type 0 where
  pub slot_is : slot ≤ 1
  pub fits : FitsCheckpoint c
  pub text : bytes ≡ slot_text slot c

-- ---- how many calls are made of the disk of a slot with these bytes

-- those that ask whether its gate is closed: the length, and the gate if it has one
abbrev pub calls_to_look : List ℕ → ℕ
calls_to_look [] = 1
calls_to_look (gate ∷ file) = 2

-- those and the two that close it, unless it is closed
abbrev pub calls_to_close : List ℕ → ℕ
calls_to_close [] = 3
calls_to_close (gate ∷ file) = if gate == 1 then 4 else 2

-- those and the four that write the bytes and open the gate
abbrev pub calls_to_write : List ℕ → ℕ
calls_to_write file = calls_to_close file + 4
