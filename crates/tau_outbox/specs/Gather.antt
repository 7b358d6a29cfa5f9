-- What is gathered from an outbox.
use Rattle.std.specs.Prelude.{ℕ, ◌+◌, ◌≤◌, ◌≡◌, ◌==◌, ◌&&◌, ◌⊎◌, Bool, false, if◌then◌else◌, Option, Some, None, List, [], ◌∷◌, ◌++◌, length, nat_le}
use Rattle.tau_base.specs.declared.limits.TheConstants.{MAX_BODY}
use Rattle.tau_outbox.specs.declared.Piece.{Piece}
use Rattle.tau_outbox.specs.Pieces.{bytes_of}

-- the first piece starts at `next`, and each other one where the one before it ends
abbrev pub Continues : ℕ → List Piece → Type 0
Continues next [] = Unit {0}
Continues next (p ∷ ps) = (p.start ≡ next) × Continues (next + length p.bytes) ps

-- no piece is left, or the first one starts elsewhere or is too long for a body of so many bytes
abbrev pub Stops : ℕ → ℕ → List Piece → Type 0
Stops next used [] = Unit {0}
Stops next used (p ∷ ps) = p.start ≡ next → used + length p.bytes ≤ MAX_BODY → ⊥

-- the longest front of the pieces that continues `next` and fits in the body is moved there
pub record Gathers (next : ℕ) (pieces left : List Piece) (body longer : List ℕ) (answer : ℕ) : Type 0 where
  pub taken : List Piece
  pub front : pieces ≡ taken ++ left
  pub continues : Continues next taken
  pub bytes : longer ≡ body ++ bytes_of taken
  pub past : answer ≡ next + length (bytes_of taken)
  pub fits : (taken ≡ []) ⊎ (length longer ≤ MAX_BODY)
  pub stops : Stops answer (length longer) left

-- the piece starts at `next`, and a body of so many bytes has room for it
abbrev pub fits : ℕ → ℕ → Piece → Bool
fits next used p = p.start == next && nat_le (used + length p.bytes) MAX_BODY

-- the front piece starts at `next`
abbrev pub begins : ℕ → List Piece → Bool
begins next [] = false
begins next (p ∷ ps) = p.start == next

-- the longest front that continues `next` and fits
abbrev pub run : ℕ → ℕ → List Piece → List Piece
run next used [] = []
run next used (p ∷ ps) = if fits next used p then p ∷ run (next + length p.bytes) (used + length p.bytes) ps else []

-- the pieces after it
abbrev pub left : ℕ → ℕ → List Piece → List Piece
left next used [] = []
left next used (p ∷ ps) = if fits next used p then left (next + length p.bytes) (used + length p.bytes) ps else p ∷ ps

-- the front piece, where it fits, and the others
abbrev pub front_piece : ℕ → ℕ → List Piece → Option Piece
front_piece next used [] = None
front_piece next used (p ∷ ps) = if fits next used p then Some p else None

abbrev pub others : ℕ → ℕ → List Piece → List Piece
others next used [] = []
others next used (p ∷ ps) = if fits next used p then ps else p ∷ ps
