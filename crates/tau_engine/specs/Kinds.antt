-- What commands differ in: a case each.
use Rattle.std.specs.Prelude.{ℕ, Bool, true, false, Option, Some, None}
use Rattle.tau_words.specs.declared.command.Command.{Command}
use Rattle.tau_words.specs.declared.command.Command.TheVariants.{Run, Recover, Drill, Bench, Checkpoint, Restore, Follow, Inspect, Audit}

-- the streams that the command uses are those of the first disks
abbrev pub streams_of : Option Command → ℕ
streams_of None = 0
streams_of (Some (Run n m mode optimistic)) = n
streams_of (Some (Recover n p)) = n
streams_of (Some (Drill n m p ending)) = 0
streams_of (Some (Bench start calls n m)) = 0
streams_of (Some (Checkpoint n p)) = n
streams_of (Some (Restore n p)) = n
streams_of (Some (Follow n)) = 0
streams_of (Some (Inspect n)) = n
streams_of (Some (Audit n m)) = n

-- it uses the slots of checkpoints
abbrev pub uses_slots : Option Command → Bool
uses_slots (Some (Checkpoint n p)) = true
uses_slots (Some (Restore n p)) = true
uses_slots _ = false

-- it reads the source
abbrev pub reads_source : Option Command → Bool
reads_source None = false
reads_source (Some (Run n m mode optimistic)) = true
reads_source (Some (Recover n p)) = false
reads_source (Some (Drill n m p ending)) = true
reads_source (Some (Bench start calls n m)) = false
reads_source (Some (Checkpoint n p)) = false
reads_source (Some (Restore n p)) = false
reads_source (Some (Follow n)) = true
reads_source (Some (Inspect n)) = false
reads_source (Some (Audit n m)) = true

-- it writes nothing before it knows all
abbrev pub writes_at_end : Option Command → Bool
writes_at_end (Some (Run n m mode optimistic)) = false
writes_at_end _ = true

-- it puts no byte on a disk
abbrev pub only_reads : Option Command → Bool
only_reads (Some (Run n m mode optimistic)) = false
only_reads (Some (Checkpoint n p)) = false
only_reads _ = true

-- what it told before a bad log was found stays before that refusal's line
abbrev pub tells_before : Option Command → Bool
tells_before (Some (Follow n)) = true
tells_before _ = false
