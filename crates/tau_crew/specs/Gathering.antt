-- What a manager has gathered by a step, apart from its writer.
use Rattle.std.specs.Prelude.{ℕ, ◌+◌, ◌≤◌, ◌≡◌, Bool, List, [], ◌∷◌, ◌++◌, length}
use Rattle.tau_base.specs.declared.limits.TheConstants.{MAX_BODY}
use Rattle.tau_outbox.specs.declared.Piece.{Piece}
use Rattle.tau_outbox.specs.Pieces.{bytes_of}
use Rattle.tau_rule.specs.Knows.{Knows}
use Rattle.tau_rule.specs.Steps.{first_role}
use Rattle.tau_desk.specs.Manages.{managed_in}
use Rattle.tau_desk.specs.Seats.{PlainManagerSeat}

-- a record has at least five bytes
abbrev pub AreLong : List Piece → Type 0
AreLong [] = Unit {0}
AreLong (p ∷ ps) = (5 ≤ length p.bytes) × AreLong ps

-- the pieces that the manager's view has
abbrev pub taken_in : PlainManagerSeat → List Piece
taken_in s = (managed_in s.me.0).taken

-- the persisted positions that it has stored
abbrev pub stored_in : PlainManagerSeat → List ℕ
stored_in s = (managed_in s.me.0).stored

-- whether a seat with one role has raised the stop
abbrev pub raised_in : Knows → Bool
raised_in v = (first_role v.roles).1.raised

-- the manager has gathered these pieces, in this order, and put their bytes last into the body; besides that nothing changed but room
pub record GathersMore (s s' : PlainManagerSeat) (body longer : List ℕ) : Type 0 where
  pub pieces : List Piece
  pub taken : taken_in s' ≡ taken_in s ++ pieces
  pub bytes : longer ≡ body ++ bytes_of pieces
  pub gathered : s'.stock.gathered ≡ s.stock.gathered + length (bytes_of pieces)
  pub gone : List Piece
  pub own : s.stock.own.pieces ≡ gone ++ s'.stock.own.pieces
  pub long : AreLong s.stock.own.pieces → AreLong pieces
  pub fits : length body ≤ MAX_BODY → length longer ≤ MAX_BODY
  pub table : s'.table_id ≡ s.table_id
  pub stream : s'.stream ≡ s.stream
  pub seen : s'.seen ≡ s.seen
  pub opened : s'.me.0.opened ≡ s.me.0.opened
  pub raised : raised_in s'.me.0 ≡ raised_in s.me.0
  pub stored : stored_in s' ≡ stored_in s
  pub anchors : s'.stock.anchors ≡ s.stock.anchors
