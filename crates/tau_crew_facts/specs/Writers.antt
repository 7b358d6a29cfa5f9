-- The disk of a manager on its way, apart from any state of the core: what its images hold of the pieces that it has gathered.
use Rattle.std.specs.Prelude.{ℕ, ◌+◌, ◌≤◌, ◌≡◌, true, false, List, ◌++◌, length}
use Rattle.tau_base.specs.declared.format.Format.{Format}
use Rattle.tau_block.specs.Image.{HasContent}
use Rattle.tau_disk.specs.Disk.{Passes, Rose}
use Rattle.tau_disk.specs.Used.{GoesOn, IsStopped}
use Rattle.tau_disk.specs.declared.disk.Disk.{Ghosts}
use Rattle.tau_model.specs.History.{Member}
use Rattle.tau_outbox.specs.declared.Piece.{Piece}
use Rattle.tau_outbox.specs.Pieces.{bytes_of}
use Rattle.tau_stream.specs.declared.writer.Writer.{Writer}
use Rattle.tau_stream.specs.Writer.{disk_of, durable_of, left_of, has_failed, IsReady}

-- the image has the base and after it the bytes of the first of these pieces
pub record HasPieces (format : Format) (n j : ℕ) (base : List ℕ) (taken : List Piece) (image : List ℕ) : Type 0 where
  pub front : List Piece
  pub rest : List Piece
  pub is : taken ≡ front ++ rest
  pub has : HasContent format n j (base ++ bytes_of front) image

-- and so not less than this length
abbrev pub HasEnough : Format → ℕ → ℕ → List ℕ → List Piece → ℕ → List ℕ → Type 0
HasEnough format n j base taken low image = (p : HasPieces format n j base taken image) × (low ≤ length base + length (bytes_of p.front))

-- the image has a content of at least this length
abbrev pub HasLong : Format → ℕ → ℕ → ℕ → List ℕ → Type 0
HasLong format n j d x = (content : List ℕ) × HasContent format n j content x × (d ≤ length content)

-- Since this moment every image of the disk holds at least so much content, and some image no more: at that moment just so much was durable.
pub record IsDurableSince {D : Type 0} (G : Ghosts D) (format : Format) (n j : ℕ) (d : D) (moment upto : ℕ) : Type 0 where
  pub long : (x : List ℕ) → G.may_leave_since d moment x → HasLong format n j upto x
  pub no_more : (x : List ℕ) × G.may_leave_since d moment x × ((more : ℕ) → HasLong format n j more x → more ≤ upto)

-- just so much was durable at some moment up to now, and has been since
abbrev pub BecameDurable : {D : Type 0} → Ghosts D → Format → ℕ → ℕ → D → ℕ → Type 0
BecameDurable {D} G format n j d upto = (moment : ℕ) × (moment ≤ G.moment d) × IsDurableSince G format n j d moment upto

-- each of these positions did
abbrev pub AllBecameDurable : {D : Type 0} → Ghosts D → Format → ℕ → ℕ → D → List ℕ → Type 0
AllBecameDurable {D} G format n j d stored = (upto : ℕ) → Member upto stored → BecameDurable G format n j d upto

module _ {D : Type 0} {G : Ghosts D} (format : Format) (n j : ℕ) (base : List ℕ) where
  -- What became of the writer of a stream whose manager has gathered these pieces and stored this position: w is the writer at
  -- the entry, w' now. It speaks of no state of the core.
  pub record HasWritten (taken : List Piece) (stored : ℕ) (w w' : Writer D G) : Type 0 where
    -- since the entry every image has at least what was durable then
    pub before : G.tells → Passes G.moment G.may_leave_since (disk_of w) (disk_of w') (HasEnough format n j base taken (durable_of w))
    pub grown : durable_of w ≤ stored
    -- whatever a stop now may leave reaches what was stored
    pub present : G.tells → (x : List ℕ) → G.may_leave (disk_of w') x → HasEnough format n j base taken stored x
    -- and no more, in one image
    pub reached : G.tells → (y content : List ℕ) × G.may_leave (disk_of w') y × HasContent format n j content y × (length content ≡ stored)
    pub goes : has_failed w' ≡ false → G.tells → GoesOn G.number G.fails (disk_of w) (disk_of w')
    pub stops : has_failed w' ≡ true → Rose (G.faults (disk_of w)) (G.faults (disk_of w')) × IsStopped G.tells G.number G.fails G.short (disk_of w) (disk_of w')
    pub faults : G.faults (disk_of w) ≤ G.faults (disk_of w')

  -- the disk works: the first of the pieces are durable, and the writer has the bytes of the others
  pub record IsCurrent (taken : List Piece) (w : Writer D G) : Type 0 where
    pub front : List Piece
    pub rest : List Piece
    pub is : taken ≡ front ++ rest
    pub left : left_of w ≡ bytes_of rest
    pub durable : durable_of w ≡ length base + length (bytes_of front)
    pub ready : G.tells → IsReady format n j w (base ++ bytes_of front)

  -- the invariant of a manager's loop: what it has stored is what its writer has durable
  pub record IsManaging (taken : List Piece) (w w' : Writer D G) : Type 0 where
    pub managed : HasWritten taken (durable_of w') w w'
    pub current : has_failed w' ≡ false → IsCurrent taken w'
