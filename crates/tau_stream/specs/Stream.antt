-- The disk of a log stream.
use Rattle.std.specs.Prelude.{◌≡◌, ◌⊎◌, ℕ, ◌+◌, ◌-◌, ◌≤◌, ◌<◌, ◌==◌, ◌&&◌, ◌||◌, Bool, false, if◌then◌else◌, List, [], ◌∷◌, ◌++◌, length, Option, Some, None, IsSome, IsNone}
use Rattle.tau_disk.specs.Disk.{Only}
use Rattle.tau_disk.specs.declared.call.Tear.{Tear}
use Rattle.tau_disk.specs.declared.call.Tear.TheVariants as tear
use Rattle.tau_disk.specs.declared.disk.Disk.{Ghosts}
use Rattle.tau_base.specs.declared.format.Format.{Format}
use Rattle.tau_base.specs.Modes.{most_streams}
use Rattle.tau_block.specs.Image.{HasContent, IsBody, IsLog, count_in, format_in, header_of, index_in, tail_of}
use Rattle.tau_block.specs.declared.content.Content.{Content}
use Rattle.tau_record.specs.declared.entry.Entry.TheVariants.{Catalogue}
use Rattle.tau_record.specs.Format.{One}
use Rattle.tau_record.specs.Record.{spelling}

-- the record of a catalogue, which names no anchor
abbrev pub catalogue_record : List ℕ → List ℕ
catalogue_record text = spelling One [] (Catalogue text)

-- what a read gives is a log of stream j of n in this format with this content and a closed gate at this place, and a stop leaves nothing else
pub record IsSettled (f : Format) (n j : ℕ) (file : List ℕ) (may_leave : List ℕ → Type 0) (gate_at : ℕ) (content : List ℕ) : Type 0 where
  pub log : IsLog f n j file gate_at content
  pub only : Only file may_leave

-- the image has the old content, or that with the body appended
abbrev pub IsOldOrNew : Format → ℕ → ℕ → List ℕ → List ℕ → List ℕ → Type 0
IsOldOrNew f n j content body image = HasContent f n j content image ⊎ HasContent f n j (content ++ body) image

-- a stop may leave an image with this content
abbrev pub MayHold : Format → ℕ → ℕ → List ℕ → (List ℕ → Type 0) → Type 0
MayHold f n j content may_leave = (x : List ℕ) × may_leave x × HasContent f n j content x

-- a stop leaves at most a header
abbrev pub IsUnborn : (List ℕ → Type 0) → Type 0
IsUnborn may_leave = (x : List ℕ) → may_leave x → length x ≤ 17

-- these are the header of a stream, and a closed gate
pub record IsHead (head : List ℕ) : Type 0 where
  pub few : count_in head ≤ most_streams (format_in head)
  pub there : index_in head < count_in head
  pub bytes : head ≡ header_of (format_in head) (count_in head) (index_in head) ++ 0 ∷ []

-- The content is that of what a read of the stream with this head gives. Nothing is pending on an image that has a header; one that
-- has none is short.
pub record IsRead (head : List ℕ) (content : Content) (file : List ℕ) (may_leave : List ℕ → Type 0) : Type 0 where
  pub settled : IsSome content.count → IsSettled (format_in head) (count_in head) (index_in head) file may_leave content.gate_at content.bytes
  pub unborn : IsNone content.count → length file ≤ 17

-- so many calls of the disk put a block after a content, by what its header states
abbrev pub calls_to_reopen : Option ℕ → ℕ
calls_to_reopen (Some count) = 4
calls_to_reopen None = 6

-- Whether all bytes of a flush stand in the file though its disk failed, by the number of the call that failed among its four and
-- by whether a write that failed counts as written: all but the last sync were made.
abbrev pub is_through : ℕ → Bool → Bool
is_through call keeps = (call == 4) || ((call == 3) && keeps)

-- The images of a stream with this content, of which a flush of this body stopped: with all that was written, the body is there
-- if the flush was through; else, and of the other kinds, it is not.
pub record IsCutShort (f : Format) (n j : ℕ) (content body : List ℕ) (through : Bool) (image : Tear → List ℕ) : Type 0 where
  pub old : HasContent f n j content (image tear.Old)
  pub torn : HasContent f n j content (image tear.Torn)
  pub new : HasContent f n j (if through then content ++ body else content) (image tear.New)

module _ {D : Type 0} (G : Ghosts D) where
  -- The disk d failed while a block was published after a content, which had made so many calls, and is e now.
  unfoldable pub PublishStops : ℕ → List ℕ → D → D → Type 0
  PublishStops gate_at block d e = G.short e ≡ false → G.cut e ≡ false → (f : Format) (n j : ℕ) (content body : List ℕ) →
      IsSettled f n j (G.seen d) (G.may_leave d) gate_at content → IsBody body → block ≡ tail_of body →
      IsCutShort f n j content body (is_through (G.number e - G.number d) (G.keeps d (G.number e))) (G.image e)

  -- It failed while a stream was made on it, which is two calls for the header and then a flush of its first block.
  unfoldable pub MakingStops : List ℕ → List ℕ → D → D → Type 0
  MakingStops head block d e = G.short e ≡ false → G.cut e ≡ false → (first : List ℕ) → IsBody first → block ≡ tail_of first → IsUnborn (G.may_leave d) →
      IsCutShort (format_in head) (count_in head) (index_in head) [] first (is_through (G.number e - (G.number d + 2)) (G.keeps d (G.number e))) (G.image e)

  -- It failed while stream j of n was made on it with this catalogue.
  unfoldable pub CreateStops : ℕ → ℕ → List ℕ → D → D → Type 0
  CreateStops n j text d e = G.short e ≡ false → G.cut e ≡ false → IsUnborn (G.may_leave d) →
      IsCutShort One n j [] (catalogue_record text) (is_through (G.number e - (G.number d + 2)) (G.keeps d (G.number e))) (G.image e)
