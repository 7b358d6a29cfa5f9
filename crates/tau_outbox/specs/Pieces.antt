-- The pieces of an outbox.
use Rattle.std.specs.Prelude.{ℕ, ◌+◌, ◌≤◌, ◌<◌, Bool, List, [], ◌∷◌, ◌++◌, length}
use Rattle.tau_base.specs.declared.limits.TheConstants.{MAX_LSN}
use Rattle.tau_outbox.specs.declared.Piece.{Piece}

-- an outbox: its pieces, how many more it takes without memory, and whether it is closed
pub record PlainOutbox : Type 0 where
  pub pieces : List Piece
  pub room : ℕ
  pub closed : Bool

-- where a piece ends
abbrev pub past_of : Piece → ℕ
past_of p = p.start + length p.bytes

-- the bytes of pieces, one after another
abbrev pub bytes_of : List Piece → List ℕ
bytes_of [] = []
bytes_of (p ∷ ps) = p.bytes ++ bytes_of ps

-- the end of the last piece, or `low` where there is none
abbrev pub end_of : ℕ → List Piece → ℕ
end_of low [] = low
end_of low (p ∷ ps) = end_of (past_of p) ps

-- no piece starts below the end of the one before it, and each ends below 2^62
abbrev pub InOrder : ℕ → List Piece → Type 0
InOrder low [] = Unit {0}
InOrder low (p ∷ ps) = (low ≤ p.start) × (past_of p < MAX_LSN) × InOrder (past_of p) ps
