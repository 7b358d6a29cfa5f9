-- What the opening of a run makes of the disks and gives.
use Rattle.std.specs.Prelude.{ℕ, ◌+◌, ◌<◌, ◌≤◌, ◌^◌, ◌≡◌, ◌⊎◌, List, [], length, map, take, drop, slice_get, slice_index, Some, None, Ok, Err}
use Rattle.tau_base.specs.declared.format.Format.{Format}
use Rattle.tau_block.specs.declared.content.Content.{Content}
use Rattle.tau_disk.specs.declared.disk.Disk.{Ghosts}
use Rattle.tau_disk.specs.Disk.{Passes}
use Rattle.tau_disk.specs.Stages.{Went, Broke, AreLengths}
use Rattle.tau_disk.specs.Used.{EachIn, EachUsed, OfDisk}
use Rattle.tau_scan.specs.declared.fault.LogCause.TheVariants as cause
use Rattle.tau_scan.specs.declared.fault.LogFault.{LogFault}
use Rattle.tau_scan.specs.declared.fault.ScanRefusal.{ScanRefusal}
use Rattle.tau_scan.specs.declared.fault.ScanRefusal.TheVariants as refusal
use Rattle.tau_scan.specs.declared.log.Log.{Log}
use Rattle.tau_scan.specs.Begins.{begins_fault}
use Rattle.tau_scan.specs.Contents.{bytes_in, HasContents}
use Rattle.tau_scan.specs.Reading.{HasRead, IsLog}
use Rattle.tau_scan.specs.Sound.{IsOrderOver}
use Rattle.tau_scan.specs.Taken.{Kept, taken}
use Rattle.tau_record.specs.Vector.{ArePlaces}
use Rattle.tau_replay.specs.Redone.{IsRedone, IsTangledAt}
use Rattle.tau_core.specs.declared.opening.Opening.{Opening}
use Rattle.tau_stream.specs.declared.writer.Writer.{Writer}
use Rattle.tau_stream.specs.Stream.{IsOldOrNew, IsUnborn, calls_to_reopen}
use Rattle.tau_stream.specs.Writer.{disk_of}
use Rattle.tau_open.specs.declared.start.StreamStart.{StreamStart}
use Rattle.tau_open.specs.Reopening.{HasStarted}
use Rattle.tau_begin.specs.Given.{next_epoch}
use Rattle.tau_begin.specs.Reading.{calls_before_writes, AtMostRead, WasRead, WereRead, StopsReading}
use Rattle.tau_begin.specs.Starts.{AreStarts, IsOpeningOn}

-- what was read: the log of the disks, of which these are the lengths and the contents
pub record IsReadFrom {D : Type 0} (G : Ghosts D) (f : Format) (disks : List D) (sizes : List ℕ) (log : Log) (contents : List Content) : Type 0 where
  pub lengths : AreLengths G.tells G.seen disks sizes
  pub many : length sizes ≡ length disks
  pub read : HasRead G.tells G.seen (Some f) disks (Ok log)
  pub contents_are : HasContents G.tells G.seen (Some f) disks log contents
  pub sound : IsLog log

-- why a run cannot begin on a log of images with these lengths: a cause of its own, or the log is tangled
abbrev pub IsRefusedOn : List ℕ → List ℕ → Log → LogFault → Type 0
IsRefusedOn text sizes log fault = (begins_fault text sizes log ≡ Some fault)
    ⊎ ((begins_fault text sizes log ≡ None) × ((at : ℕ) × (fault.cause ≡ cause.Tangled at) × IsTangledAt log fault.stream at) × ((order : List Kept) → IsOrderOver (taken log) order → ⊥))

-- a run begins on a log that was read so, from this state, with what each stream starts with
pub record BeginsOn (f : Format) (text sizes : List ℕ) (log : Log) (contents : List Content) (o : Opening) (starts : List StreamStart) : Type 0 where
  pub fits : begins_fault text sizes log ≡ None
  pub starts_are : AreStarts f text (next_epoch (bytes_in contents) log) log.elv contents starts
  pub small : next_epoch (bytes_in contents) log < 2 ^ 32
  pub places : ArePlaces log.elv
  pub opening : IsOpeningOn log starts o
  pub rows : IsRedone log o.rows

module _ {D : Type 0} (G : Ghosts D) where
  -- What became of the disk of stream j of n, which has this length, since the opening began: it was read, and since then a
  -- stop leaves what it held, or that with what the stream is given. Of a disk without a byte this is said where a stop left
  -- at most a header at the entry.
  pub record IsTouched (f : Format) (n j long : ℕ) (old body : List ℕ) (d e : D) : Type 0 where
    pub mid : D
    pub read : WasRead G long d mid
    pub starts : G.tells → (G.seen d ≡ [] → IsUnborn (G.may_leave d)) → Passes G.moment G.may_leave_since mid e (IsOldOrNew f n j old body)

  -- the same by what the stream starts with
  abbrev pub TouchedAt : Format → List ℕ → List StreamStart → ℕ → D → D → Type 0
  TouchedAt f sizes starts j d e = (p : StreamStart) → slice_get starts j ≡ Some p → IsTouched f (length starts) j (slice_index sizes j) p.content.bytes p.body d e

  -- all calls that open the stream were made, and none of them was to fail
  abbrev pub OpenedAt : Format → List ℕ → List StreamStart → ℕ → D → D → Type 0
  OpenedAt f sizes starts j d e = TouchedAt f sizes starts j d e
      × ((p : StreamStart) → slice_get starts j ≡ Some p → Went G (calls_before_writes (slice_index sizes j) + calls_to_reopen p.content.count) d e)

  -- the disk was read, and then one of the calls that start its stream was the first that was to fail
  abbrev pub BreaksAt : Format → List ℕ → List StreamStart → ℕ → D → D → Type 0
  BreaksAt f sizes starts j d e = TouchedAt f sizes starts j d e
      × ((p : StreamStart) → slice_get starts j ≡ Some p → (mid : D) × WasRead G (slice_index sizes j) d mid × Broke G (calls_to_reopen p.content.count) mid e)

  -- all was read of these disks, and a run begins on it
  pub record IsBegun (f : Format) (text : List ℕ) (disks : List D) (sizes : List ℕ) (starts : List StreamStart) : Type 0 where
    pub log : Log
    pub contents : List Content
    pub opening : Opening
    pub read : IsReadFrom G f disks sizes log contents
    pub begins : BeginsOn f text sizes log contents opening starts

  -- all was read of the first n disks, and a run begins so; nothing was written
  pub record ReadyToStart (f : Format) (n : ℕ) (text : List ℕ) (old new : List D) (o : Opening) (starts : List StreamStart) : Type 0 where
    pub sizes : List ℕ
    pub begun : IsBegun f text (take n old) sizes starts
    pub opening : begun.opening ≡ o
    pub count : length starts ≡ n
    pub read : WereRead G sizes n old new

  -- the writers have the first n disks, whose streams have started, and the others stand as they stood
  pub record IsOpenRun (f : Format) (n : ℕ) (text : List ℕ) (old new : List D) (o : Opening) (ws : List (Writer D G)) : Type 0 where
    pub sizes : List ℕ
    pub starts : List StreamStart
    pub begun : IsBegun f text (take n old) sizes starts
    pub opening : begun.opening ≡ o
    pub count : length ws ≡ n
    pub rest : new ≡ drop n old
    pub disks : EachIn (λ j. j < n) (OpenedAt f sizes starts) old (map disk_of ws)
    pub writers : (j : ℕ) (w : Writer D G) (p : StreamStart) → slice_get ws j ≡ Some w → slice_get starts j ≡ Some p → HasStarted p w

  -- the log of the first n disks is refused, after all were read
  pub record RefusesLog (f : Format) (n : ℕ) (text : List ℕ) (old new : List D) (fault : LogFault) : Type 0 where
    pub sizes : List ℕ
    pub lengths : AreLengths G.tells G.seen (take n old) sizes
    pub count : length sizes ≡ n
    pub read : WereRead G sizes n old new
    pub why : HasRead G.tells G.seen (Some f) (take n old) (Err (refusal.Bad fault))
        ⊎ ((log : Log) × (contents : List Content) × IsReadFrom G f (take n old) sizes log contents × IsRefusedOn text sizes log fault)

  -- what a refusal tells before anything is written
  abbrev pub RefusesReading : Format → ℕ → List ℕ → List D → List D → ScanRefusal → Type 0
  RefusesReading f n text old new refusal.NoMemory = EachUsed (AtMostRead G) old new n
  RefusesReading f n text old new (refusal.Failed j) = StopsReading G n j old new × EachUsed (AtMostRead G) old new n
  RefusesReading f n text old new (refusal.Bad fault) = RefusesLog f n text old new fault

  -- All was read of the first n disks, and a run begins on it. The streams below k have started, and the disks from k on
  -- were read alone.
  pub record StartsSome (f : Format) (n : ℕ) (text : List ℕ) (k : ℕ) (old new : List D) : Type 0 where
    pub sizes : List ℕ
    pub starts : List StreamStart
    pub begun : IsBegun f text (take n old) sizes starts
    pub below : EachIn (λ i. i < k) (OpenedAt f sizes starts) old new
    pub above : EachIn (λ i. (k ≤ i) × (i < n)) (λ i. WasRead G (slice_index sizes i)) old new

  -- All was read of the first n disks, and a run begins on it. The disk of stream j failed when its stream was started;
  -- those below it have started, and the disks above it were read alone.
  pub record StopsStarting (f : Format) (n : ℕ) (text : List ℕ) (j : ℕ) (old new : List D) : Type 0 where
    pub sizes : List ℕ
    pub starts : List StreamStart
    pub begun : IsBegun f text (take n old) sizes starts
    pub low : j < n
    pub below : EachIn (λ i. i < j) (OpenedAt f sizes starts) old new
    pub here : OfDisk (BreaksAt f sizes starts j) old new j
    pub above : EachIn (λ i. (j < i) × (i < n)) (λ i. WasRead G (slice_index sizes i)) old new

  -- what a refusal of the opening tells of the disks, which stand in their places
  abbrev pub RefusesRun : Format → ℕ → List ℕ → List D → List D → ScanRefusal → Type 0
  RefusesRun f n text old new refusal.NoMemory = EachUsed (AtMostRead G) old new n ⊎ ((k : ℕ) × (k ≤ n) × StartsSome f n text k old new)
  RefusesRun f n text old new (refusal.Failed j) = (StopsReading G n j old new × EachUsed (AtMostRead G) old new n) ⊎ StopsStarting f n text j old new
  RefusesRun f n text old new (refusal.Bad fault) = RefusesLog f n text old new fault
