-- A rehearsed crash: how the disks of a drill fail, what its run leaves on them, and what it tells.
use Rattle.std.specs.Prelude.{ℕ, ◌+◌, ◌-◌, ◌<◌, ◌==◌, ◌≡◌, ◌&&◌, nat_le, nat_lt, min, Bool, true, false, Option, Some, None, List, [], ◌∷◌, ◌++◌, codes, length, map, take, slice_get, Ok}
use Rattle.std.proofs.Common.{inl, inr}
use Rattle.std.specs.List.{filter, list_any, sum_by}
use Rattle.std.specs.Fmt.{decimal}
use Rattle.tau_base.specs.declared.value.LogMode.TheVariants.{Values}
use Rattle.tau_base.specs.Database.{empty_db}
use Rattle.tau_disk.specs.declared.call.Tear.{Tear}
use Rattle.tau_disk.specs.declared.call.Tear.TheVariants.{New}
use Rattle.tau_disk.specs.declared.disk.Disk.{Ghosts}
use Rattle.tau_disk.specs.declared.memory.MemDisk.{MemDisk}
use Rattle.tau_disk.specs.Memory.{state_of, count_of, is_short_by, fails_at, keeps_at}
use Rattle.tau_disk.specs.Replay.{opened, is_from, is_stop}
use Rattle.tau_disk.specs.Tear.{image_by}
use Rattle.tau_disk.specs.Used.{EachUsed, RoseAt, IsClean, IsFirstStopped, Made}
use Rattle.tau_stream.specs.declared.writer.Writer.{Writer}
use Rattle.tau_stream.specs.Writer.{disk_of}
use Rattle.tau_model.specs.History.{Act, Member, exec, updates}
use Rattle.tau_model.specs.Tables.{IsTablesOf}
use Rattle.tau_text.specs.declared.load.Workload.{Workload}
use Rattle.tau_words.specs.declared.command.Ending.{Ending}
use Rattle.tau_words.specs.declared.command.Ending.TheVariants.{Stop, Fail}
use Rattle.tau_report.specs.declared.report.RunEnd.{RunEnd}
use Rattle.tau_report.specs.Lines.{line}
use Rattle.tau_report.specs.Report.{ack_lines}
use Rattle.tau_run.specs.Run.{Committed, Run, acts, means, has_ack}
use Rattle.tau_run.specs.RecoveredFacts.{IsRecovered, takes}
use Rattle.tau_open.specs.Outside.{calls_to_open}
use Rattle.tau_open.specs.Opening.{Refuses}
use Rattle.tau_open.specs.declared.refusal.OpenRefusal.TheVariants.{Failed}
use Rattle.tau_run.specs.Start.{fresh_start, catalogue_of}
use Rattle.tau_run.specs.Outside.{Outside}
use Rattle.tau_occ.specs.declared.style.Style.TheVariants.{Locking}
use Rattle.tau_run.specs.RunFacts as ending
use Rattle.tau_run.specs.Gives.{GaveNew}
use Rattle.tau_run.specs.RunFacts.{RunFacts, IsCoreRunAt, by_turns, chosen_by, turns_of}
use Rattle.tau_step.specs.Counts.{counting}
use Rattle.tau_step.specs.Device.{IsDeviceOrder}
use Rattle.tau_engine.specs.DiskFacts.{Now}
use Rattle.tau_engine.specs.Played.{ArePlayed}
use Rattle.tau_commands.specs.Recovery.{IsRecoveryOf}
use Rattle.tau_commands.specs.declared.status.Status.{Status}
use Rattle.tau_commands.specs.declared.status.Status.TheVariants as status
use Rattle.tau_scan.specs.declared.log.Log.{Log}
use Rattle.tau_scan.specs.Reading.{log_of}

-- a drill of n streams may end so: by a call of all disks at which they stop, or by one of one disk that fails
abbrev pub is_ending : ℕ → Ending → Bool
is_ending n (Stop after tear) = nat_le 1 after && nat_le after 1000000
is_ending n (Fail stream call) = nat_lt stream n && nat_le 1 call && nat_le call 1000000

-- ---- the disks

-- the first call of the disk of stream j that fails, if the calls of all disks stop at call k of this order
abbrev pub stop_at : List ℕ → ℕ → ℕ → ℕ
stop_at order k j = 1 + length (filter (λ i. i == j) (take (k - 1) order))

abbrev pub is_of : ℕ → Option ℕ → Bool
is_of j (Some i) = i == j
is_of j None = false

-- The calls of all disks stop at call k of this order: it and all that come after it fail, and if it is a write, what
-- it was to write counts as written.
pub record StopsAt (order : List ℕ) (k j : ℕ) (d : MemDisk) : Type 0 where
  pub fails : (c : ℕ) → fails_at d c ≡ is_from (stop_at order k j) c
  pub keeps : (c : ℕ) → keeps_at d c ≡ (is_of j (slice_get order (k - 1)) && is_stop (Some (stop_at order k j)) c)

-- call k of the disk of stream s fails, and no other one
pub record FailsOnce (s k j : ℕ) (d : MemDisk) : Type 0 where
  pub fails : (c : ℕ) → fails_at d c ≡ ((j == s) && (k == c))
  pub keeps : (c : ℕ) → keeps_at d c ≡ false

-- the disk holds nothing, and has had no call
pub record IsNew (d : MemDisk) : Type 0 where
  pub empty : state_of d ≡ opened []
  pub unused : count_of d ≡ 0
  pub has_room : is_short_by d ≡ false

abbrev pub AreNewDisks : (ℕ → MemDisk → Type 0) → List MemDisk → Type 0
AreNewDisks planned disks = (j : ℕ) (d : MemDisk) → slice_get disks j ≡ Some d → IsNew d × planned j d

-- how many calls the disks have had
abbrev pub calls_of : List MemDisk → ℕ
calls_of disks = sum_by count_of disks

-- How the disks of a drill begin, by how it is to end, and how many calls it tells: all that were made, and of a stop
-- none after it.
abbrev pub ArePlanned : ℕ → ℕ → Workload → Ending → List MemDisk → List MemDisk → ℕ → Type 0
ArePlanned n m load (Stop k tear) old new calls = (order : List ℕ) × IsDeviceOrder n m Values load order × AreNewDisks (StopsAt order k) old × (calls ≡ min k (length order))
ArePlanned n m load (Fail s k) old new calls = AreNewDisks (FailsOnce s k) old × (calls ≡ calls_of new)

-- what is left of what was written since the last sync
abbrev pub tear_in : Ending → Tear
tear_in (Stop k tear) = tear
tear_in (Fail s k) = New

-- the images that are left
abbrev pub images_by : Tear → List MemDisk → List (List ℕ)
images_by tear disks = map (λ d. image_by (state_of d) tear) disks

-- ---- the run

-- the workload with its turns; none if it has no section of them
abbrev pub with_turns : Workload → Workload
with_turns load = record { declarations = load.declarations; calls = load.calls; turns = Some (turns_of load) }

-- a run ends so if the disk of this stream is the lowest that failed
abbrev pub ending_by : Option ℕ → ending.Ending
ending_by None = ending.Done
ending_by (Some j) = ending.DiskFailed j

-- The run on these writers went to its end; their disks stand in front of the others, and the sink holds the lines of
-- its acknowledgements.
pub record PlaysOn {D : Type 0} {G : Ghosts D} (m : ℕ) (load : Workload) (ws : List (Writer D G)) (rest now : List D) (hears : Type 0) (held held' : List ℕ) (rose : Type 0) : Type 0 where
  pub after : List (Writer D G)
  pub back : now ≡ map disk_of after ++ rest
  pub end : RunEnd
  pub ran : GaveNew (counting ws after (by_turns Locking (length ws) m load)) m Values load ws after hears held held' rose (Ok end)
  pub heard : end.sink_failed ≡ false

module _ {D : Type 0} (G : Ghosts D) where
  -- no call of a disk was one that is to fail; or this is the lowest stream whose disk failed, by its first such call
  abbrev pub EndsAt : ℕ → List D → List D → Option ℕ → Type 0
  EndsAt n old new None = EachUsed (IsClean G.tells G.number G.fails) old new n
  EndsAt n old new (Some j) = (j < n) × IsFirstStopped G.tells G.number G.fails G.short old new j

  -- What a drill knows of its run: its disks held nothing, and an image is one that a stop now may leave. Of its sink it says
  -- here only that it does not fail; what the sink has is told beside it.
  abbrev pub outside_of_drill : ℕ → List D → List D → Outside
  outside_of_drill n old new = record {
    start = fresh_start n;
    began_in_order = Unit {0};
    may_have_left = Now G.tells G.may_leave old new;
    may_leave = Now G.tells G.may_leave old new;
    disk_rose = RoseAt G.faults old new;
    sink_rose = ⊥;
    opening_calls = λ j. calls_to_open;
    had_calls = Made G.number G.short old new;
    wrote = λ text. Unit {0};
    fault_line = λ j. [];
  }

  -- The run by turns of the workload on these disks, each image that a stop now may leave, and the lines of its
  -- acknowledgements.
  pub record IsRehearsed (n m : ℕ) (load : Workload) (old new : List D) (wrote : List ℕ → Type 0) : Type 0 where
    pub failed : Option ℕ
    pub ends : EndsAt n old new failed
    pub facts : RunFacts (chosen_by load.turns Locking n m load) n m Values load (outside_of_drill n old new) (ending_by failed)
    pub acked : wrote (ack_lines facts.run.acks)

  -- The disks are those of the calls of the run that was told, and of each that failed in it is told what it holds; or if a
  -- disk failed before the run began, of the calls that were to open the streams.
  abbrev pub IsPlayedBy : (n m : ℕ) (load : Workload) (old new : List D) (failed : Option ℕ) (stops : ℕ → Option ℕ) (run : Run) → IsCoreRunAt (chosen_by load.turns Locking n m load) n m Values load stops run (ending_by failed) → Type 0
  IsPlayedBy n m load old new None stops run core = ArePlayed G n (catalogue_of load) core.stands_on old new core.progress
  IsPlayedBy n m load old new (Some j) stops run (inl core) = ArePlayed G n (catalogue_of load) core.stands_on old new core.progress
  IsPlayedBy n m load old new (Some j) stops run (inr none) = Refuses G n (catalogue_of load) old new (Failed j)

  pub record IsPlay (n m : ℕ) (load : Workload) (old new : List D) (wrote : List ℕ → Type 0) : Type 0 where
    pub rehearsed : IsRehearsed n m load old new wrote
    pub played : IsPlayedBy n m load old new rehearsed.failed rehearsed.facts.stops rehearsed.facts.run rehearsed.facts.core

-- ---- what it tells

abbrev pub stopped_line : ℕ → List ℕ
stopped_line calls = line (codes "stopped" ∷ decimal calls ∷ [])

-- what is told of the images: how many calls were counted, and what recovery finds
pub record IsFound (images : List (List ℕ)) (calls : ℕ) (wrote : List ℕ → Type 0) : Type 0 where
  pub log : Log
  pub reads : log_of None images ≡ Ok log
  pub found : List ℕ
  pub recovery : IsRecoveryOf log found
  pub told : wrote (stopped_line calls ++ found)

-- The text of a drill: of the run by turns on n new disks that fail exactly as planned, and of what recovery finds on
-- their images. It takes a closed part of the history that has each acknowledged update, and its rows are those of
-- executing just that part.
pub record IsDrill (G : Ghosts MemDisk) (n m : ℕ) (how : Ending) (load : Workload) (text : List ℕ) : Type 0 where
  pub old : List MemDisk
  pub new : List MemDisk
  pub count : length old ≡ n
  pub same_count : length new ≡ n
  pub calls : ℕ
  pub planned : ArePlanned n m load how old new calls
  pub has_room : list_any is_short_by new ≡ false
  pub acks : List ℕ
  pub rehearsed : IsRehearsed G n m load old new (λ lines. acks ≡ lines)
  pub played : IsPlayedBy G n m load old new rehearsed.failed rehearsed.facts.stops rehearsed.facts.run rehearsed.facts.core
  pub recovered : IsRecovered n Values load rehearsed.facts.run (images_by (tear_in how) new)
  pub found : List ℕ
  pub recovery : IsRecoveryOf recovered.log found
  pub taken : (x : Act Committed) → Member x (acts load.declarations.procs rehearsed.facts.run) → has_ack rehearsed.facts.run x.call.number ≡ true → updates x.effect ≡ true → takes recovered.log x.call ≡ true
  pub rows : IsTablesOf (exec (means load.declarations.procs) (filter (takes recovered.log) rehearsed.facts.run.calls) empty_db) recovery.rows
  pub text_is : text ≡ acks ++ (stopped_line calls ++ found)

-- what a drill has written, by its answer
abbrev pub DrillTells : Ghosts MemDisk → ℕ → ℕ → Ending → Workload → (List ℕ → Type 0) → Status → Type 0
DrillTells G n m how load wrote status.Ok = (text : List ℕ) × IsDrill G n m how load text × wrote text
DrillTells G n m how load wrote status.WriteFault = (text : List ℕ) × (k : ℕ) × IsDrill G n m how load text × (k < length text) × wrote (take k text)
DrillTells G n m how load wrote status.NoMemory = wrote []
DrillTells G n m how load wrote other = Unit {0}
