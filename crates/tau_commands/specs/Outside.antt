-- What is said of the source, the sink and the disks of a call.
use Rattle.std.specs.Prelude.{ℕ, ◌<◌, ◌≤◌, ◌⊎◌, Bool, true, false, ◌≡◌, List, ◌++◌, length, Ok, Err}
use Rattle.tau_base.specs.declared.limits.TheConstants.{MAX_WORKLOAD}
use Rattle.tau_text.specs.declared.load.Workload.{Workload}
use Rattle.tau_text.specs.declared.fault.TextFault.{TextFault}
use Rattle.tau_text.specs.Text.{workload_of}
use Rattle.tau_commands.specs.declared.status.Status.{Status}
use Rattle.tau_commands.specs.declared.status.Status.TheVariants as status

-- What the sink of a call held, before and after, and how many faults it told of. A sink may tell nothing.
pub record Output : Type 1 where
  pub hears : Type 0
  pub held : List ℕ
  pub held' : List ℕ
  pub faults : ℕ
  pub faults' : ℕ

-- What the source of a call still had, before and after, and whether it told of a fault. A source may tell nothing.
pub record Input : Type 1 where
  pub tells : Type 0
  pub left : List ℕ
  pub left' : List ℕ
  pub rose : Type 0

-- the text is within the limit, and is of this workload
abbrev pub HasWorkload : List ℕ → Workload → Type 0
HasWorkload text load = (length text ≤ MAX_WORKLOAD) × (workload_of text ≡ Ok load)

-- the text is within the limit, and this is its first bad line
abbrev pub HasFault : List ℕ → TextFault → Type 0
HasFault text fault = (length text ≤ MAX_WORKLOAD) × (workload_of text ≡ Err fault)

-- a sink that tells has this after what it held
abbrev pub Wrote : Type 0 → List ℕ → List ℕ → List ℕ → Type 0
Wrote tells old new text = tells → new ≡ old ++ text

-- the answer comes only once a text was read that is one
abbrev pub is_behind_text : Status → Bool
is_behind_text status.Ok = true
is_behind_text status.WriteFault = true
is_behind_text (status.DiskFault j) = true
is_behind_text (status.BadLog fault) = true
is_behind_text _ = false

-- the answer comes only once the source was read to its end
abbrev pub is_behind_end : Status → Bool
is_behind_end (status.BadText at cause) = true
is_behind_end (status.BadFeed at) = true
is_behind_end (status.BadReport number) = true
is_behind_end other = is_behind_text other

-- with this answer no disk was touched
abbrev pub is_before_disks : Status → Bool
is_before_disks status.Usage = true
is_before_disks (status.BadText at cause) = true
is_before_disks status.ReadFault = true
is_before_disks status.TooLong = true
is_before_disks (status.BadFeed at) = true
is_before_disks (status.BadReport number) = true
is_before_disks _ = false

-- a recovery may end so, and a run, which reads its streams too
abbrev pub ends_recovery : Status → Bool
ends_recovery status.Ok = true
ends_recovery status.NoMemory = true
ends_recovery status.WriteFault = true
ends_recovery (status.DiskFault j) = true
ends_recovery (status.BadLog fault) = true
ends_recovery _ = false

-- the run of a drill and what recovery finds may end so
abbrev pub ends_rehearsal : Status → Bool
ends_rehearsal status.Ok = true
ends_rehearsal status.NoMemory = true
ends_rehearsal status.WriteFault = true
ends_rehearsal _ = false

-- a drill may end so
abbrev pub ends_drill : Status → Bool
ends_drill status.Ok = true
ends_drill status.NoMemory = true
ends_drill status.WriteFault = true
ends_drill (status.BadText at cause) = true
ends_drill status.ReadFault = true
ends_drill status.TooLong = true
ends_drill _ = false

-- a recovery ends so only once every disk was read
abbrev pub is_behind_reading : Status → Bool
is_behind_reading status.Ok = true
is_behind_reading status.WriteFault = true
is_behind_reading (status.BadLog fault) = true
is_behind_reading _ = false

-- the reading of a text may end so
abbrev pub ends_text : Status → Bool
ends_text status.NoMemory = true
ends_text status.ReadFault = true
ends_text status.TooLong = true
ends_text (status.BadText at cause) = true
ends_text _ = false

-- the call that failed was one of the first so many and so much was told of it, or it was a later one
abbrev pub FailsTold : ℕ → (ℕ → Type 0) → Type 0 → Type 0
FailsTold count made told = ((k : ℕ) × (k ≤ count) × made k × told) ⊎ ((k : ℕ) × (count < k) × made k)
