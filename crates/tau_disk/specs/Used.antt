-- What is said of the disks of a call, as they were and as they are.
use Rattle.std.specs.Prelude.{ℕ, ◌+◌, ◌<◌, ◌≤◌, ◌⊎◌, Bool, true, false, ◌≡◌, List, [], length, slice_get, Some}
use Rattle.tau_disk.specs.Disk.{Rose, Passes}
use Rattle.tau_disk.specs.Plan.{MadeAll}

-- the relation of a stream holds of the disk of each stream in the range, as it was and as it is
abbrev pub EachIn : {D : Type 0} → (ℕ → Type 0) → (ℕ → D → D → Type 0) → List D → List D → Type 0
EachIn {D} range R old new = (j : ℕ) (d : D) → range j → slice_get old j ≡ Some d → (e : D) × (slice_get new j ≡ Some e) × R j d e

-- the relation holds of each disk
abbrev pub Each : {D : Type 0} → (D → D → Type 0) → List D → List D → Type 0
Each {D} R old new = (j : ℕ) (d : D) → slice_get old j ≡ Some d → (e : D) × (slice_get new j ≡ Some e) × R d e

-- the relation holds of each of the first n disks
abbrev pub EachUsed : {D : Type 0} → (D → D → Type 0) → List D → List D → ℕ → Type 0
EachUsed {D} R old new n = (j : ℕ) (d : D) → j < n → slice_get old j ≡ Some d → (e : D) × (slice_get new j ≡ Some e) × R d e

-- the relation holds of the disk of this stream
abbrev pub OfDisk : {D : Type 0} → (D → D → Type 0) → List D → List D → ℕ → Type 0
OfDisk {D} R old new j = (d : D) × (e : D) × (slice_get old j ≡ Some d) × (slice_get new j ≡ Some e) × R d e

-- the count of faults of the disk of this stream rose
abbrev pub RoseAt : {D : Type 0} → (D → ℕ) → List D → List D → ℕ → Type 0
RoseAt faults old new j = OfDisk (λ d e. Rose (faults d) (faults e)) old new j

-- the first n disks hold no byte
abbrev pub AreEmpty : {D : Type 0} → Type 0 → (D → List ℕ) → List D → ℕ → Type 0
AreEmpty {D} tells seen old n = (j : ℕ) (d : D) → j < n → slice_get old j ≡ Some d → tells → seen d ≡ []

-- this is the first disk that is not empty, and its length
abbrev pub IsFirstLong : {D : Type 0} → (D → List ℕ) → List D → ℕ → ℕ → Type 0
IsFirstLong {D} seen old j long = ((d : D) × (slice_get old j ≡ Some d) × (length (seen d) ≡ long)) × (0 < long)
    × ((i : ℕ) (d : D) → i < j → slice_get old i ≡ Some d → seen d ≡ [])

-- the disk was at most read: a read gives what it gave, and a stop leaves what it left
pub record OnlyRead {D : Type 0} (tells : Type 0) (seen : D → List ℕ) (may_leave : D → List ℕ → Type 0) (moment : D → ℕ) (since : D → ℕ → List ℕ → Type 0) (d e : D) : Type 0 where
  pub same : tells → seen e ≡ seen d
  pub no_more : (x : List ℕ) → may_leave e x → may_leave d x
  pub no_less : (x : List ℕ) → may_leave d x → may_leave e x
  pub moments : Passes moment since d e (may_leave d)

-- the disk has had so many calls, none of which was to fail or was refused a growth
abbrev pub AllCalls : {D : Type 0} → Type 0 → (D → ℕ) → (D → ℕ → Bool) → (D → Bool) → ℕ → D → D → Type 0
AllCalls tells number fails short count d e = tells → MadeAll count (number d) (number e) (fails d) (short d) (short e)

-- no call of the disk was one that is to fail
abbrev pub IsClean : {D : Type 0} → Type 0 → (D → ℕ) → (D → ℕ → Bool) → D → D → Type 0
IsClean tells number fails d e = tells → (k : ℕ) → number d < k → k ≤ number e → fails d k ≡ false

-- the last call of the disk was the first one that is to fail, or it was refused a growth
abbrev pub IsStopped : {D : Type 0} → Type 0 → (D → ℕ) → (D → ℕ → Bool) → (D → Bool) → D → D → Type 0
IsStopped tells number fails short d e = tells → (short e ≡ true)
    ⊎ ((number d < number e) × (fails d (number e) ≡ true) × ((k : ℕ) → number d < k → k < number e → fails d k ≡ false))

-- the disk of this stream stopped, and of those below it no call was one that is to fail
abbrev pub IsFirstStopped : {D : Type 0} → Type 0 → (D → ℕ) → (D → ℕ → Bool) → (D → Bool) → List D → List D → ℕ → Type 0
IsFirstStopped tells number fails short old new j = OfDisk (IsStopped tells number fails short) old new j × EachUsed (IsClean tells number fails) old new j

-- the disk of this stream has had so many calls, if it was refused no growth
abbrev pub Made : {D : Type 0} → (D → ℕ) → (D → Bool) → List D → List D → ℕ → ℕ → Type 0
Made number short old new j k = OfDisk (λ d e. short e ≡ false → number e ≡ number d + k) old new j

-- the disk had calls of which none was to fail, and the same calls are to fail as before
pub record GoesOn {D : Type 0} (number : D → ℕ) (fails : D → ℕ → Bool) (d e : D) : Type 0 where
  pub same : (k : ℕ) → fails e k ≡ fails d k
  pub later : number d ≤ number e
  pub clean : (k : ℕ) → number d < k → k ≤ number e → fails d k ≡ false
