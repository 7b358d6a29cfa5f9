-- A manager with its writer: what its loop keeps.
use Rattle.std.specs.Prelude.{ℕ, ◌+◌, ◌≤◌, ◌≡◌, Bool, false, Option, Some, None, List, [], length, map, slice_index}
use Rattle.tau_base.specs.declared.format.Format.{Format}
use Rattle.tau_base.specs.declared.limits.TheConstants.{MAX_BODY}
use Rattle.tau_disk.specs.declared.disk.Disk.{Ghosts}
use Rattle.tau_stream.specs.declared.writer.Writer.{Writer}
use Rattle.tau_stream.specs.Writer.{disk_of, durable_of, has_failed, left_of}
use Rattle.tau_outbox.specs.Pieces.{bytes_of}
use Rattle.tau_core.specs.State.{Plain}
use Rattle.tau_desk.specs.Seats.{PlainManagerSeat}
use Rattle.tau_crew_facts.specs.Spacing.{IsSpacing, newest}
use Rattle.tau_crew_facts.specs.Writers.{AllBecameDurable, HasWritten, IsManaging}
use Rattle.tau_crew.specs.Gathering.{AreLong, raised_in, stored_in, taken_in}

-- the own components of the anchors that the manager of a stream has placed
abbrev pub own_of : ℕ → List (List ℕ) → List ℕ
own_of j anchors = map (λ (v : List ℕ). slice_index v j) anchors

-- how many anchors stream j had in the core with which a desk was opened
abbrev pub anchors_in : Option Plain → ℕ → ℕ
anchors_in None j = 0
anchors_in (Some first) j = slice_index first.load.opening.anchors.items j

-- how many anchors the stream of a manager had before it placed any
abbrev pub before_of : PlainManagerSeat → ℕ
before_of s = anchors_in s.me.0.opened s.stream

module _ {D : Type 0} {G : Ghosts D} where
  -- The seat of the manager of stream j of n with its writer, which was w0 at the entry: the writer has what the view has gathered, and what was
  -- stored last is durable. The stop was raised exactly if the disk has failed.
  pub record IsDriven (format : Format) (n j : ℕ) (base : List ℕ) (w0 : Writer D G) (s : PlainManagerSeat) (w : Writer D G) : Type 0 where
    pub stream : s.stream ≡ j
    pub managing : IsManaging format n j base (taken_in s) w0 w
    pub stored : slice_index s.seen j ≡ durable_of w
    pub counted : s.stock.gathered ≡ length base + length (bytes_of (taken_in s))
    pub long : AreLong s.stock.own.pieces
    pub raised : raised_in s.me.0 ≡ has_failed w
    -- each position that was stored was durable by then, and is since
    pub lasts : G.tells → AllBecameDurable G format n j (disk_of w) (stored_in s)

  -- all that was gathered is durable, unless the disk failed
  abbrev pub IsFlushed : Writer D G → Type 0
  IsFlushed w = has_failed w ≡ false → left_of w ≡ []

  -- where memory ran out the view may have more than the writer has
  pub record IsDrivenShort (format : Format) (n j : ℕ) (base : List ℕ) (w0 : Writer D G) (s : PlainManagerSeat) (w : Writer D G) : Type 0 where
    pub stream : s.stream ≡ j
    pub stored : slice_index s.seen j ≡ durable_of w
    pub written : HasWritten format n j base (taken_in s) (slice_index s.seen j) w0 w
    pub lasts : G.tells → AllBecameDurable G format n j (disk_of w) (stored_in s)

  -- whatever the stream began with and the writer was at the entry, a step keeps it
  abbrev pub KeepsDriven : PlainManagerSeat → PlainManagerSeat → Writer D G → Writer D G → Type 0
  KeepsDriven s s' w w' = (format : Format) (n j : ℕ) (base : List ℕ) (w0 : Writer D G) → IsDriven format n j base w0 s w → IsDriven format n j base w0 s' w'

  abbrev pub EndsShort : PlainManagerSeat → PlainManagerSeat → Writer D G → Writer D G → Type 0
  EndsShort s s' w w' = (format : Format) (n j : ℕ) (base : List ℕ) (w0 : Writer D G) → IsDriven format n j base w0 s w → IsFlushed w → IsDrivenShort format n j base w0 s' w'

  -- some manager's loop keeps it
  abbrev pub CanDrive : PlainManagerSeat → Writer D G → Type 0
  CanDrive s w = (format : Format) × (n : ℕ) × (j : ℕ) × (base : List ℕ) × (w0 : Writer D G) × IsDriven format n j base w0 s w

-- nothing changed of the seat but what it knows
pub record SameButKnows (s s' : PlainManagerSeat) : Type 0 where
  pub table : s'.table_id ≡ s.table_id
  pub stream : s'.stream ≡ s.stream
  pub stock : s'.stock ≡ s.stock
  pub opened : s'.me.0.opened ≡ s.me.0.opened

-- a step by which the manager gathers nothing and stores nothing
pub record KeepsSeat (s s' : PlainManagerSeat) : Type 0 where
  pub table : s'.table_id ≡ s.table_id
  pub stream : s'.stream ≡ s.stream
  pub opened : s'.me.0.opened ≡ s.me.0.opened
  pub raised : raised_in s'.me.0 ≡ raised_in s.me.0
  pub taken : taken_in s' ≡ taken_in s
  pub gathered : s'.stock.gathered ≡ s.stock.gathered
  pub stored : slice_index s'.seen s.stream ≡ slice_index s.seen s.stream
  pub all_stored : stored_in s' ≡ stored_in s
  pub long : AreLong s.stock.own.pieces → AreLong s'.stock.own.pieces

-- So many anchors were placed, in their distance up to there; the newest one, or the opening's end, is `last`.
pub record IsApart (base durable last placed : ℕ) (s : PlainManagerSeat) : Type 0 where
  pub spacing : IsSpacing (before_of s) base durable (own_of s.stream s.stock.anchors)
  pub last_is : last ≡ newest base (own_of s.stream s.stock.anchors)
  pub placed_is : placed ≡ length s.stock.anchors

-- what was durable before, and what is now, a block further at most
abbrev pub IsBlock : ℕ → ℕ → Type 0
IsBlock before durable = (before ≤ durable) × (durable ≤ before + MAX_BODY)

-- The manager of stream j of n, whose writer was w0 at the entry, at the head of a turn. Where memory ran out it says less.
pub record IsManagerAt {D : Type 0} {G : Ghosts D} (format : Format) (n j : ℕ) (base : List ℕ) (w0 : Writer D G) (s : PlainManagerSeat) (w : Writer D G) (last placed : ℕ) (short : Bool) : Type 0 where
  pub wrote : IsDrivenShort format n j base w0 s w
  pub driven : short ≡ false → IsDriven format n j base w0 s w
  pub flushed : short ≡ false → IsFlushed w
  pub apart : short ≡ false → IsApart (length base) (durable_of w) last placed s
