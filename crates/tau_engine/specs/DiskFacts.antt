-- What stops may leave of the disks of a call, and how a call ends in the words of runs.
use Rattle.std.specs.Prelude.{ℕ, Bool, false, ◌+◌, ◌<◌, ◌≤◌, ◌≡◌, List, length, slice_get, Some}
use Rattle.tau_disk.specs.Used.{OfDisk}
use Rattle.tau_run.specs.RunFacts.{Ending}
use Rattle.tau_run.specs.RunFacts as ending
use Rattle.tau_commands.specs.declared.status.Status.{Status}
use Rattle.tau_commands.specs.declared.status.Status.TheVariants as status

-- a stop now may leave this image of the disk
abbrev pub Now : {D : Type 0} → Type 0 → (D → List ℕ → Type 0) → List D → List D → ℕ → List ℕ → Type 0
Now tells may_leave old new j x = OfDisk (λ d e. tells × may_leave e x) old new j

-- a stop at the entry leaves at most a header on each of the first n disks
abbrev pub AreUnborn : {D : Type 0} → Type 0 → (D → List ℕ → Type 0) → List D → ℕ → Type 0
AreUnborn {D} tells may_leave old n = (j : ℕ) (d : D) → j < n → slice_get old j ≡ Some d → tells → (x : List ℕ) → may_leave d x → length x ≤ 17

-- the moment of the disk has not fallen
abbrev pub NotEarlier : {D : Type 0} → Type 0 → (D → ℕ) → D → D → Type 0
NotEarlier tells moment d e = tells → moment d ≤ moment e

-- none of the next so many calls of the disk was one that is to fail
abbrev pub NextClean : {D : Type 0} → Type 0 → (D → ℕ) → (D → ℕ → Bool) → ℕ → D → D → Type 0
NextClean tells number fails count d e = tells → (k : ℕ) → number d < k → k ≤ number d + count → fails d k ≡ false

-- the answer, as runs end
abbrev pub ending_of : Status → Ending
ending_of status.Ok = ending.Done
ending_of (status.DiskFault j) = ending.DiskFailed j
ending_of status.WriteFault = ending.SinkFailed
ending_of status.NoMemory = ending.NoMemory
ending_of _ = ending.NotBegun

-- The run went to its end, and no used disk failed; the sink may have failed.
abbrev pub DisksWorked : ℕ → (ℕ → Type 0) → Status → Type 0
DisksWorked n rose status.Ok = Unit {0}
DisksWorked n rose status.WriteFault = (j : ℕ) → j < n → rose j → ⊥
DisksWorked n rose _ = ⊥
