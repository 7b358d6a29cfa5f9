-- What a writer stands for.
use Rattle.std.specs.Prelude.{◌≡◌, ◌⊎◌, ◌↔◌, ℕ, ◌+◌, ◌-◌, ◌<◌, ◌≤◌, ◌++◌, Bool, true, false, List, take, drop, length, Result, Err}
use Rattle.tau_base.specs.declared.format.Format.{Format}
use Rattle.tau_base.specs.declared.limits.TheConstants.{MAX_BODY}
use Rattle.tau_block.specs.Image.{tail_of}
use Rattle.tau_disk.specs.declared.disk.Disk.{Ghosts}
use Rattle.tau_disk.specs.Disk.{Passes, Rose}
use Rattle.tau_disk.specs.Left.{SameLast}
use Rattle.tau_disk.specs.Plan.{HasMade}
use Rattle.tau_stream.specs.declared.flush.Flush.{Flush}
use Rattle.tau_stream.specs.declared.flush.Flush.TheVariants.{NoMemory, Failed, Idle}
use Rattle.tau_stream.specs.declared.writer.Writer.{Writer}
use Rattle.tau_stream.specs.Stream.{IsCutShort, IsOldOrNew, IsSettled, MayHold, is_through}

module _ {D : Type 0} {G : Ghosts D} where
  abbrev pub disk_of : Writer D G → D
  disk_of writer = writer.disk

  -- so many bytes of the content stand in every image
  abbrev pub durable_of : Writer D G → ℕ
  durable_of writer = writer.durable

  -- the bytes that were added and are not durable yet
  abbrev pub left_of : Writer D G → List ℕ
  left_of writer = writer.body.items

  -- the length of the content with all that was added
  abbrev pub gathered_of : Writer D G → ℕ
  gathered_of writer = writer.durable + length writer.body.items

  -- how many bytes were added since the writer was made
  abbrev pub added_of : Writer D G → ℕ
  added_of writer = writer.added

  -- whether its disk failed
  abbrev pub has_failed : Writer D G → Bool
  has_failed writer = writer.failed

  -- the bytes that a flush up to there makes durable
  abbrev pub part_upto : Writer D G → ℕ → List ℕ
  part_upto writer upto = take (upto - writer.durable) writer.body.items

  -- A flush may go up to there: from what is durable to what is gathered, and not more than a block holds. A record has at
  -- least 5 bytes, so a flush of whole records has as many.
  pub record MayReach (writer : Writer D G) (upto : ℕ) : Type 0 where
    pub not_before : writer.durable ≤ upto
    pub within : upto ≤ writer.durable + length writer.body.items
    pub small : upto ≤ writer.durable + MAX_BODY
    pub whole : (upto ≡ writer.durable) ⊎ (writer.durable + 5 ≤ upto)

  -- the block for a flush up to there is made
  pub record IsPrepared (writer : Writer D G) (upto : ℕ) : Type 0 where
    pub reach : MayReach writer upto
    pub block : writer.durable < upto → writer.block.items ≡ tail_of (take (upto - writer.durable) writer.body.items)

  -- the disk has this content and is ready for more
  pub record IsReady (f : Format) (n j : ℕ) (writer : Writer D G) (content : List ℕ) : Type 0 where
    pub settled : IsSettled f n j (G.seen writer.disk) (G.may_leave writer.disk) writer.gate_at content
    pub counts : writer.durable ≡ length content

  -- the content up to there is durable now
  pub record Flushed (upto : ℕ) (old new : Writer D G) : Type 0 where
    pub durable : durable_of new ≡ upto
    pub left : left_of new ≡ drop (upto - durable_of old) (left_of old)
    pub works : has_failed new ≡ false
    pub done : G.tells → (f : Format) (n j : ℕ) (content : List ℕ) → IsReady f n j old content → IsReady f n j new (content ++ part_upto old upto)

  -- nothing more is durable, nothing was taken off, and some image has the old content
  pub record StaysUnflushed (old new : Writer D G) : Type 0 where
    pub durable : durable_of new ≡ durable_of old
    pub left : left_of new ≡ left_of old
    pub reached : G.tells → (f : Format) (n j : ℕ) (content : List ℕ) → IsReady f n j old content → MayHold f n j content (G.may_leave (disk_of new))

  -- The disk failed in a flush up to there: the images have the old content, but the one with all that was written has the new one if
  -- the flush was through.
  unfoldable pub FlushStops : ℕ → Writer D G → Writer D G → Type 0
  FlushStops upto old new = G.short (disk_of new) ≡ false → G.cut (disk_of new) ≡ false → (f : Format) (n j : ℕ) (content : List ℕ) → IsReady f n j old content →
      IsCutShort f n j content (part_upto old upto) (is_through (G.number (disk_of new) - G.number (disk_of old)) (G.keeps (disk_of old) (G.number (disk_of new)))) (G.image (disk_of new))

  -- What is said of a flush up to there, however it ends. At each moment every image has the old content or the new one. It
  -- makes four calls of the disk, or is idle and makes none.
  pub record Flushes {T : Type 0} (upto : ℕ) (old new : Writer D G) (result : Result T Flush) : Type 0 where
    pub moments : G.tells → (f : Format) (n j : ℕ) (content : List ℕ) → IsReady f n j old content →
        Passes G.moment G.may_leave_since (disk_of old) (disk_of new) (IsOldOrNew f n j content (part_upto old upto))
    pub plan : G.tells → (upto ≡ durable_of old → ⊥) → HasMade 4 (G.number (disk_of old)) (G.number (disk_of new)) (G.fails (disk_of old)) (G.fails (disk_of new)) (G.short (disk_of old)) (G.short (disk_of new)) result
    pub idle : (result ≡ Err Idle) ↔ (upto ≡ durable_of old)
    pub idle_same : result ≡ Err Idle → new ≡ old
    pub failed : result ≡ Err Failed → (Rose (G.faults (disk_of old)) (G.faults (disk_of new))) × (has_failed new ≡ true)
    pub memory : result ≡ Err NoMemory → ⊥
    pub added : added_of new ≡ added_of old
    pub faults : G.faults (disk_of old) ≤ G.faults (disk_of new)
    pub stops : result ≡ Err Failed → G.tells → FlushStops upto old new
    pub last : G.tells → SameLast (G.keeps (disk_of old)) (G.keeps (disk_of new))
