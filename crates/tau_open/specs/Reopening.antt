-- How streams go on from what was read of their disks.
use Rattle.std.specs.Prelude.{ℕ, ◌<◌, ◌≤◌, ◌^◌, false, ◌≡◌, List, [], ◌++◌, length, map, drop, slice_get, Some, IsNone, ◌∷◌}
use Rattle.tau_block.specs.Image.{IsBody, count_in, format_in, index_in}
use Rattle.tau_disk.specs.declared.disk.Disk.{Ghosts}
use Rattle.tau_disk.specs.Disk.{Passes}
use Rattle.tau_disk.specs.Used.{EachIn}
use Rattle.tau_stream.specs.declared.writer.Writer.{Writer}
use Rattle.tau_stream.specs.Stream.{IsHead, IsOldOrNew, IsRead, IsUnborn, calls_to_reopen}
use Rattle.tau_stream.specs.Writer.{disk_of, durable_of, left_of, added_of, has_failed, IsReady}
use Rattle.tau_open.specs.declared.refusal.OpenRefusal.{OpenRefusal}
use Rattle.tau_open.specs.declared.refusal.OpenRefusal.TheVariants.{NoMemory, Failed, NotEmpty}
use Rattle.tau_open.specs.declared.start.StreamStart.{StreamStart}
use Rattle.tau_disk.specs.Stages.{Went, Broke}
use Rattle.tau_disk.specs.Stages.{Staged, StageFails}

-- A stream can start so: its header is one, its content is not too long, and what is put after the content is a body of
-- at least one record.
pub record IsStreamStart (p : StreamStart) : Type 0 where
  pub head : IsHead p.head
  pub small : (p.content.gate_at ≤ 2 ^ 60) × (length p.content.bytes ≤ p.content.gate_at)
  pub unborn : IsNone p.content.count → (p.content.bytes ≡ []) × (p.content.gate_at ≡ 16)
  pub body : IsBody p.body × (5 ≤ length p.body)

abbrev pub AreStreamStarts : List StreamStart → Type 0
AreStreamStarts ps = (j : ℕ) (p : StreamStart) → slice_get ps j ≡ Some p → IsStreamStart p

-- what the stream holds once it has started
abbrev pub started : StreamStart → List ℕ
started p = p.content.bytes ++ p.body

module _ {D : Type 0} (G : Ghosts D) where
  -- the content of each is that of what a read of its disk gives
  abbrev pub AreRead : List StreamStart → List D → Type 0
  AreRead ps disks = (j : ℕ) (d : D) (p : StreamStart) → slice_get disks j ≡ Some d → slice_get ps j ≡ Some p → IsRead p.head p.content (G.seen d) (G.may_leave d)

  -- at each moment a stop leaves the content that was read, or that with the body after it; of an unborn stream, where a
  -- stop left at most a header before
  abbrev pub Starts : StreamStart → D → D → Type 0
  Starts p d e = G.tells → (IsNone p.content.count → IsUnborn (G.may_leave d)) →
      Passes G.moment G.may_leave_since d e (IsOldOrNew (format_in p.head) (count_in p.head) (index_in p.head) p.content.bytes p.body)

  -- the body was put after the content
  pub record IsStarted (p : StreamStart) (d e : D) : Type 0 where
    pub went : Went G (calls_to_reopen p.content.count) d e
    pub starts : Starts p d e

  -- the disk failed meanwhile
  pub record FailsStarted (p : StreamStart) (d e : D) : Type 0 where
    pub broke : Broke G (calls_to_reopen p.content.count) d e
    pub starts : Starts p d e

  -- the same for the stream with this number
  abbrev pub StartedAt : List StreamStart → ℕ → D → D → Type 0
  StartedAt ps j d e = (p : StreamStart) → slice_get ps j ≡ Some p → IsStarted p d e

  abbrev pub FailsAt : List StreamStart → ℕ → D → D → Type 0
  FailsAt ps j d e = (p : StreamStart) → slice_get ps j ≡ Some p → FailsStarted p d e

  -- What a refusal leaves of the disks, which stand in their places: the streams below j have started, and the next one
  -- was not touched, or its disk failed.
  abbrev pub RefusesStart : List StreamStart → List D → List D → OpenRefusal → Type 0
  RefusesStart ps old new NoMemory = (j : ℕ) × (j ≤ length ps) × Staged (StartedAt ps) j old new
  RefusesStart ps old new (Failed j) = (j < length ps) × StageFails (StartedAt ps) (FailsAt ps) j old new
  RefusesStart ps old new (NotEmpty j long) = ⊥

-- the writer has the content and the body after it, all of it durable
pub record HasStarted {D : Type 0} {G : Ghosts D} (p : StreamStart) (w : Writer D G) : Type 0 where
  pub ready : G.tells → IsReady (format_in p.head) (count_in p.head) (index_in p.head) w (started p)
  pub durable : durable_of w ≡ length (started p)
  pub left : left_of w ≡ []
  pub added : added_of w ≡ length p.body
  pub works : has_failed w ≡ false

-- the first j disks of a list have become writers, and the others are left
pub record Starting {D : Type 0} (G : Ghosts D) (ps : List StreamStart) (j : ℕ) (old rest : List D) (writers : List (Writer D G)) : Type 0 where
  pub count : length writers ≡ j
  pub rest_is : rest ≡ drop j old
  pub disks : EachIn (λ i. i < j) (StartedAt G ps) old (map disk_of writers)
  pub begun : (i : ℕ) (w : Writer D G) (p : StreamStart) → slice_get writers i ≡ Some w → slice_get ps i ≡ Some p → HasStarted p w

-- the first disk that was left has become the last writer
pub record StartsNext {D : Type 0} (G : Ghosts D) (p : StreamStart) (old new : List D) (before after : List (Writer D G)) : Type 0 where
  pub disk : D
  pub writer : Writer D G
  pub taken : old ≡ disk ∷ new
  pub put : after ≡ before ++ writer ∷ []
  pub made : IsStarted G p disk (disk_of writer)
  pub begun : HasStarted p writer

-- why the disk of stream j has become no writer
abbrev pub FailsNext : {D : Type 0} → Ghosts D → StreamStart → ℕ → D → D → OpenRefusal → Type 0
FailsNext G p j d e NoMemory = e ≡ d
FailsNext G p j d e (Failed i) = (i ≡ j) × FailsStarted G p d e
FailsNext G p j d e (NotEmpty i long) = ⊥

-- the first disk that was left stands there again
pub record PutsBack {D : Type 0} (G : Ghosts D) (p : StreamStart) (j : ℕ) (old new : List D) (refusal : OpenRefusal) : Type 0 where
  pub disk : D
  pub now : D
  pub rest : List D
  pub taken : old ≡ disk ∷ rest
  pub put : new ≡ now ∷ rest
  pub why : FailsNext G p j disk now refusal
