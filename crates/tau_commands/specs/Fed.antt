-- What holds of every follower that is fed pieces.
use Rattle.std.specs.Prelude.{ℕ, ◌≡◌, List, [], ◌∷◌, ◌++◌, replicate, None, Ok}
use Rattle.tau_scan.specs.declared.fault.LogFault.{LogFault}
use Rattle.tau_scan.specs.Reading.{asked_format, contents_of, log_of}
use Rattle.tau_replay.specs.Laws.{OrdersAgree}
use Rattle.tau_follow_laws.specs.Feeding.{Piece, with_piece}
use Rattle.tau_commands.specs.Following.{fed_format, IsFollowed, IsSealedBad, IsBadFollowed}
use Rattle.tau_commands.specs.Recovery.{IsBadLog, IsRecoveryOf}
use Rattle.tau_commands.specs.Sources.{HasPieces, HasBadPiece}

-- what each stream was fed once these pieces are, after what it was fed before
abbrev pub fed_by : List (List ℕ) → List Piece → List (List ℕ)
fed_by fed [] = fed
fed_by fed (p ∷ pieces) = fed_by (with_piece fed p) pieces

-- the images hold the contents of which these are the pieces
pub record HoldFed (n : ℕ) (pieces : List Piece) (images : List (List ℕ)) : Type 0 where
  pub format : asked_format None images ≡ fed_format n
  pub contents : contents_of (fed_format n) images ≡ Ok (fed_by (replicate n []) pieces)

-- However contents are cut: a follower that was fed all of them has found the log that recovery finds in images of them, and
-- after its lines it tells what recovery tells, where all orderly orders of that log give one database. Where it is its end
-- that is bad, recovery finds that fault.
abbrev pub EndsAsRecovery : Type 0
EndsAsRecovery = (n : ℕ) (pieces : List Piece) (images : List (List ℕ)) → HoldFed n pieces images →
    ((text : List ℕ) (h : IsFollowed n pieces text) → (log_of None images ≡ Ok h.log) × ((words : List ℕ) → OrdersAgree h.log → IsRecoveryOf h.log words → text ≡ h.lines ++ words))
    × ((fault : LogFault) (lines : List ℕ) → IsSealedBad n pieces fault lines → IsBadLog images fault)

-- A source holds one list of pieces, or one bad piece that is the first, not both.
abbrev pub OneSpelling : Type 0
OneSpelling = (n : ℕ) (text : List ℕ) →
    ((pieces others : List Piece) → HasPieces n text pieces → HasPieces n text others → pieces ≡ others)
    × ((at other : ℕ) → HasBadPiece n text at → HasBadPiece n text other → at ≡ other)
    × ((at : ℕ) (pieces : List Piece) → HasBadPiece n text at → HasPieces n text pieces → ⊥)

-- Whatever the order in which it applies what is ready: its lines and its log are those of its pieces, and so are what is
-- bad and the lines before. Pieces are either followed or bad.
abbrev pub OneFollowing : Type 0
OneFollowing = (n : ℕ) (pieces : List Piece) →
    ((text words : List ℕ) (a : IsFollowed n pieces text) (b : IsFollowed n pieces words) → (a.lines ≡ b.lines) × (a.log ≡ b.log))
    × ((fault other : LogFault) (lines words : List ℕ) → IsBadFollowed n pieces fault lines → IsBadFollowed n pieces other words → (fault ≡ other) × (lines ≡ words))
    × ((fault : LogFault) (lines text : List ℕ) → IsBadFollowed n pieces fault lines → IsFollowed n pieces text → ⊥)
