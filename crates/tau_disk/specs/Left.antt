-- What the calls of a disk make of the images that a stop leaves, of three kinds. A search does not look into what is said of a call.
use Rattle.std.specs.Prelude.{◌≡◌, ◌⊎◌, ℕ, ◌+◌, Bool, true, false, List, length, Result, OnOk, OnErr}
use Rattle.tau_disk.specs.declared.call.Tear.{Tear}
use Rattle.tau_disk.specs.declared.call.Tear.TheVariants as tear
use Rattle.tau_disk.specs.Replay.{over, sevens}

-- after a write of these bytes: a stop leaves what was synced last, or that with this write too, or with its bytes reading 7
abbrev pub after_write : (Tear → List ℕ) → ℕ → List ℕ → Tear → List ℕ
after_write image at bytes tear.Old = image tear.Old
after_write image at bytes tear.New = over at bytes (image tear.New)
after_write image at bytes tear.Torn = over at (sevens (length bytes)) (image tear.Torn)

-- after a write that failed: it counts as written and not synced, or as not made
abbrev pub after_failed_write : Bool → (Tear → List ℕ) → ℕ → List ℕ → Tear → List ℕ
after_failed_write true image at bytes kind = after_write image at bytes kind
after_failed_write false image at bytes kind = image kind

-- each kind of image is this one
abbrev pub AreImages : (Tear → List ℕ) → (Tear → List ℕ) → Type 0
AreImages image image' = (kind : Tear) → image' kind ≡ image kind

-- the same writes count as written
abbrev pub SameLast : (ℕ → Bool) → (ℕ → Bool) → Type 0
SameLast keeps keeps' = (k : ℕ) → keeps' k ≡ keeps k

-- a call that writes nothing leaves what was left, and which write counts as written
unfoldable pub LeavesAll : (Tear → List ℕ) → (Tear → List ℕ) → (ℕ → Bool) → (ℕ → Bool) → Type 0
LeavesAll image image' keeps keeps' = AreImages image image' × SameLast keeps keeps'

-- What a write leaves; number is that of the call. After a growth that was refused nothing more is said.
unfoldable pub LeavesWrite : {T E : Type 0} → ℕ → List ℕ → ℕ → Bool → Bool → (Tear → List ℕ) → (Tear → List ℕ) → (ℕ → Bool) → (ℕ → Bool) → Result T E → Type 0
LeavesWrite at bytes number short cut image image' keeps keeps' result = OnOk result (AreImages (after_write image at bytes) image')
    × OnErr result (short ≡ false → cut ≡ false → AreImages (after_failed_write (keeps number) image at bytes) image')
    × SameLast keeps keeps'

-- What a sync leaves: what a read gives. One that failed has synced nothing.
unfoldable pub LeavesSync : {T E : Type 0} → List ℕ → (Tear → List ℕ) → (Tear → List ℕ) → (ℕ → Bool) → (ℕ → Bool) → Result T E → Type 0
LeavesSync seen image image' keeps keeps' result = OnOk result ((kind : Tear) → image' kind ≡ seen) × OnErr result (AreImages image image') × SameLast keeps keeps'

-- A write and a sync after it, of which one failed: the first call or the second.
abbrev pub IsHalfWritten : ℕ → List ℕ → ℕ → ℕ → (Tear → List ℕ) → (Tear → List ℕ) → (ℕ → Bool) → Type 0
IsHalfWritten at bytes number number' image image' keeps = ((number' ≡ number + 1) × AreImages (after_failed_write (keeps number') image at bytes) image')
    ⊎ ((number' ≡ number + 2) × AreImages (after_write image at bytes) image')

-- What a write and a sync after it leave. After a growth that was refused nothing more is said.
unfoldable pub LeavesDurably : {T E : Type 0} → ℕ → List ℕ → List ℕ → ℕ → ℕ → Bool → Bool → (Tear → List ℕ) → (Tear → List ℕ) → (ℕ → Bool) → (ℕ → Bool) → Result T E → Type 0
LeavesDurably at bytes seen number number' short cut image image' keeps keeps' result = OnOk result ((kind : Tear) → image' kind ≡ seen)
    × OnErr result (short ≡ false → cut ≡ false → IsHalfWritten at bytes number number' image image' keeps)
    × SameLast keeps keeps'

-- a stop may leave each of the three kinds
unfoldable pub MayLeaveEach : {D : Type 0} → Type 0 → (D → List ℕ → Type 0) → (D → Tear → List ℕ) → Type 0
MayLeaveEach {D} tells may_leave image = (d : D) (kind : Tear) → tells → may_leave d (image d kind)

pub may_leave_each : {D : Type 0} (tells : Type 0) (may_leave : D → List ℕ → Type 0) (image : D → Tear → List ℕ) → ((d : D) (kind : Tear) → tells → may_leave d (image d kind)) → MayLeaveEach tells may_leave image
unfolding MayLeaveEach
may_leave_each tells may_leave image each = each
