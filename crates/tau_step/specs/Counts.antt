-- How many calls of its disks a run has made, by its flushes.
use Rattle.std.specs.Prelude.{ℕ, ◌+◌, ◌-◌, ◌*◌, ◌<◌, ◌≤◌, ◌≡◌, ◌==◌, ◌⊎◌, Bool, true, false, Some, List, [], ◌∷◌, length, slice_get, slice_index}
use Rattle.std.specs.List.{filter, flat_map}
use Rattle.tau_base.specs.declared.format.Format.{Format}
use Rattle.tau_base.specs.Modes.{format_of}
use Rattle.tau_disk.specs.declared.disk.Disk.{Ghosts}
use Rattle.tau_disk.specs.Left.{SameLast}
use Rattle.tau_stream.specs.declared.writer.Writer.{Writer}
use Rattle.tau_stream.specs.Stream.{IsCutShort, is_through}
use Rattle.tau_stream.specs.Writer.{disk_of, durable_of, gathered_of, has_failed}
use Rattle.tau_machine.specs.Events.{Event, Persist}
use Rattle.tau_machine.specs.State.{Core}
use Rattle.tau_core.specs.declared.state.Load.{Load}
use Rattle.tau_run.specs.Turns.{Progress}
use Rattle.tau_step.specs.declared.manager.Managing.{Managing}
use Rattle.tau_step.specs.declared.manager.Managing.TheVariants as did

-- the stream that an event flushes
abbrev pub flushed_by_event : Event → List ℕ
flushed_by_event (Persist j upto) = j ∷ []
flushed_by_event _ = []

-- the streams that these events flush, in their order
abbrev pub flushed_in : List Event → List ℕ
flushed_in events = flat_map flushed_by_event events

-- how many of these flushes are of this stream
abbrev pub flushes_of : ℕ → List ℕ → ℕ
flushes_of j flushes = length (filter (λ i. i == j) flushes)

-- the calls of a flush: two writes, each with a sync
abbrev pub calls_to_flush : ℕ
calls_to_flush = 4

-- how many flushes the turn of a manager has made whole
abbrev pub flushes_by : Managing → ℕ
flushes_by did.Flushed = 1
flushes_by other = 0

-- So many flushes were made on the disk of a writer that had failed or not, and has failed now or not. The plan of the disk is
-- what it was. If it failed meanwhile, its last call is one of those of one flush more, unless a growth was refused.
pub record HasFlushed {D : Type 0} (G : Ghosts D) (count : ℕ) (failed failed' : Bool) (d e : D) : Type 0 where
  pub same : (k : ℕ) → G.fails e k ≡ G.fails d k
  pub goes : failed' ≡ false → G.number e ≡ G.number d + calls_to_flush * count
  pub stops : failed ≡ false → failed' ≡ true → (G.short e ≡ true) ⊎ ((G.number d + calls_to_flush * count < G.number e) × (G.number e ≤ G.number d + calls_to_flush * count + calls_to_flush))
  pub rests : failed ≡ true → count ≡ 0
  pub last : SameLast (G.keeps d) (G.keeps e)

-- The disk of stream j failed in a flush, before which it had had so many calls. So long was what was persisted of the stream, and so
-- long what was gathered of it. Each kind of image has the one; that with all that was written has the other if the flush was through.
pub record IsHalfFlushed {D : Type 0} (G : Ghosts D) (f : Format) (n j persisted gathered before : ℕ) (keeps : ℕ → Bool) (e : D) : Type 0 where
  pub content : List ℕ
  pub body : List ℕ
  pub front : length content ≡ persisted
  pub whole : length content + length body ≡ gathered
  pub images : IsCutShort f n j content body (is_through (G.number e - before) (keeps (G.number e))) (G.image e)

-- So many flushes were made on the disk of the writer of stream j, which had failed or not; if it failed meanwhile, in one flush more,
-- then so it is, unless a growth was refused.
unfoldable pub MayHalve : {D : Type 0} {G : Ghosts D} → Load → ℕ → ℕ → Bool → D → Writer D G → Type 0
MayHalve {D} {G} l j count failed d w' = failed ≡ false → has_failed w' ≡ true → G.short (disk_of w') ≡ false → G.cut (disk_of w') ≡ false →
    IsHalfFlushed G (format_of l.mode) l.streams j (durable_of w') (gathered_of w') (G.number d + calls_to_flush * count) (G.keeps d) (disk_of w')

-- the calls that a writer's disk has had between these events are those of the flushes of its stream
abbrev pub CountsTo : {D : Type 0} {G : Ghosts D} → Load → ℕ → List Event → List Event → Writer D G → Writer D G → Type 0
CountsTo {D} {G} l j before now w w' = G.tells → (count : ℕ) × (flushes_of j (flushed_in now) ≡ flushes_of j (flushed_in before) + count) × HasFlushed G count (has_failed w) (has_failed w') (disk_of w) (disk_of w')
    × MayHalve l j count (has_failed w) (disk_of w) w'

-- so it is of each writer since the run began
abbrev pub AreCounted : {D : Type 0} {G : Ghosts D} → List (Writer D G) → List (Writer D G) → List Event → Type 0
AreCounted {D} {G} ws ws' events = (j : ℕ) (w w' : Writer D G) → slice_get ws j ≡ Some w → slice_get ws' j ≡ Some w' → G.tells → HasFlushed G (flushes_of j (flushed_in events)) false (has_failed w') (disk_of w) (disk_of w')

-- The disk of each writer that failed did so in a flush of its stream: what was persisted and gathered of the stream is that of the
-- state, and the calls before it are those of the flushes so far.
abbrev pub AreHalved : {D : Type 0} {G : Ghosts D} → List (Writer D G) → List (Writer D G) → Load → Progress → Type 0
AreHalved {D} {G} ws ws' l p = (j : ℕ) (w w' : Writer D G) → slice_get ws j ≡ Some w → slice_get ws' j ≡ Some w' → G.tells → has_failed w' ≡ true → G.short (disk_of w') ≡ false → G.cut (disk_of w') ≡ false →
    IsHalfFlushed G (format_of l.mode) l.streams j (slice_index p.state.plv j) (slice_index p.state.gathered j) (G.number (disk_of w) + calls_to_flush * flushes_of j (flushed_in p.events)) (G.keeps (disk_of w)) (disk_of w')

-- the events of a run were chosen so, and of one that went to its end the calls of the disks are counted, and what they left is told
abbrev pub counting : {D : Type 0} {G : Ghosts D} → List (Writer D G) → List (Writer D G) → (Bool → Load → Core → Progress → Type 0) → Bool → Load → Core → Progress → Type 0
counting ws ws' by whole l opening p = by whole l opening p × (whole ≡ true → AreCounted ws ws' p.events × AreHalved ws ws' l p)
