-- What each command asks of its source.
use Rattle.std.specs.Prelude.{ℕ, Bool, true, false, ◌+◌, ◌<◌, ◌≤◌, ◌≡◌, ◌≢◌, List, [], ◌∷◌, ◌++◌, length, drop, Option, Some, None, Ok, Err, All}
use Rattle.std.specs.Int.{w32, to_be_bytes}
use Rattle.std.specs.List.{flat_map}
use Rattle.tau_base.specs.declared.limits.TheConstants.{MAX_WORKLOAD}
use Rattle.tau_text.specs.Text.{workload_of}
use Rattle.tau_text.specs.declared.fault.TextFault.{TextFault}
use Rattle.tau_text.specs.declared.load.Workload.{Workload}
use Rattle.tau_report.specs.declared.report.RunReport.{RunReport}
use Rattle.tau_inspect.specs.RunText.{IsFirstBad, IsTextOf}
use Rattle.tau_follow_laws.specs.Feeding.{Piece}
use Rattle.tau_words.specs.declared.command.Command.{Command}
use Rattle.tau_words.specs.declared.command.Command.TheVariants.{Run, Recover, Drill, Bench, Checkpoint, Restore, Follow, Inspect, Audit}
use Rattle.tau_commands.specs.declared.status.Status.{Status}
use Rattle.tau_commands.specs.declared.status.Status.TheVariants as status
use Rattle.tau_commands.specs.Cut.{cut_at_report}
use Rattle.tau_commands.specs.Outside.{HasWorkload, HasFault}

-- ---- an audit: a workload, a line `report`, and the report of a run

-- what stands before the cut, or all
abbrev pub front_or : List ℕ → Option (List ℕ × List ℕ) → List ℕ
front_or text None = text
front_or text (Some cut) = cut.0

-- the text of the workload: what stands before the first line that is exactly `report`, or all
abbrev pub load_text : List ℕ → List ℕ
load_text text = front_or text (cut_at_report text)

-- the source holds this workload, and after it this report of a run of it over n streams
pub record HasReport (n : ℕ) (text : List ℕ) (load : Workload) (report : RunReport) : Type 0 where
  pub within : length text ≤ MAX_WORKLOAD
  pub front : List ℕ
  pub behind : List ℕ
  pub cut : cut_at_report text ≡ Some (front, behind)
  pub read : workload_of front ≡ Ok load
  pub failed : Option ℕ
  pub told : IsTextOf load.declarations.tables n (length load.calls) report failed behind

-- this is the first bad line of the workload
abbrev pub HasBadWorkload : List ℕ → TextFault → Type 0
HasBadWorkload text fault = (length text ≤ MAX_WORKLOAD) × (workload_of (load_text text) ≡ Err fault)

-- this is the first bad line of the report, counted from the one after the line `report`; 0 if there is no such line
abbrev pub IsBadReport : ℕ → Workload → Option (List ℕ × List ℕ) → ℕ → Type 0
IsBadReport n load None number = number ≡ 0
IsBadReport n load (Some cut) number = IsFirstBad load.declarations.tables n (length load.calls) cut.1 number

-- the workload is one, and this is the first bad line of the report
pub record HasBadReport (n : ℕ) (text : List ℕ) (number : ℕ) : Type 0 where
  pub within : length text ≤ MAX_WORKLOAD
  pub load : Workload
  pub read : workload_of (load_text text) ≡ Ok load
  pub bad : IsBadReport n load (cut_at_report text) number

-- ---- a follower: pieces of the contents of streams

-- a piece as it is spelled: the number of its stream, how many bytes it has, and these
abbrev pub piece_text : Piece → List ℕ
piece_text p = p.stream ∷ to_be_bytes w32 (length p.bytes) ++ p.bytes

-- a piece of one of n streams
pub record IsPiece (n : ℕ) (p : Piece) : Type 0 where
  pub stream : p.stream < n
  pub some : 1 ≤ length p.bytes

-- no piece of n streams stands at the front of the text
abbrev pub NoPiece : ℕ → List ℕ → Type 0
NoPiece n text = (p : Piece) (behind : List ℕ) → IsPiece n p → text ≡ piece_text p ++ behind → ⊥

-- this piece of n streams stands there
pub record BeginsWith (n : ℕ) (text : List ℕ) (p : Piece) : Type 0 where
  pub piece : IsPiece n p
  pub front : text ≡ piece_text p ++ drop (5 + length p.bytes) text

-- the text is that of these pieces
abbrev pub ArePieces : ℕ → List Piece → List ℕ → Type 0
ArePieces n pieces text = All (IsPiece n) pieces × (text ≡ flat_map piece_text pieces)

-- the source holds these pieces
abbrev pub HasPieces : ℕ → List ℕ → List Piece → Type 0
HasPieces n text pieces = (length text ≤ MAX_WORKLOAD) × ArePieces n pieces text

-- pieces stand before this byte of the source, and what stands there is none
pub record HasBadPiece (n : ℕ) (text : List ℕ) (at : ℕ) : Type 0 where
  pub within : length text ≤ MAX_WORKLOAD
  pub pieces : List Piece
  pub front : List ℕ
  pub rest : List ℕ
  pub before : ArePieces n pieces front
  pub whole : text ≡ front ++ rest
  pub place : length front ≡ at
  pub more : rest ≢ []
  pub none : NoPiece n rest

-- ---- by command

-- the source has what the command asks of it
abbrev pub HasSource : Option Command → List ℕ → Type 0
HasSource (Some (Run n m mode optimistic)) text = (load : Workload) × HasWorkload text load
HasSource (Some (Drill n m p ending)) text = (load : Workload) × HasWorkload text load
HasSource (Some (Audit n m)) text = (load : Workload) × (report : RunReport) × HasReport n text load report
HasSource (Some (Follow n)) text = (pieces : List Piece) × HasPieces n text pieces
HasSource _ text = ⊥

-- the command refuses the source with this answer
abbrev pub RefusesSource : Option Command → List ℕ → Status → Type 0
RefusesSource (Some (Run n m mode optimistic)) text (status.BadText line cause) = HasFault text (record { line = line; cause = cause })
RefusesSource (Some (Run n m mode optimistic)) text status.TooLong = MAX_WORKLOAD < length text
RefusesSource (Some (Drill n m p ending)) text (status.BadText line cause) = HasFault text (record { line = line; cause = cause })
RefusesSource (Some (Drill n m p ending)) text status.TooLong = MAX_WORKLOAD < length text
RefusesSource (Some (Audit n m)) text (status.BadText line cause) = HasBadWorkload text (record { line = line; cause = cause })
RefusesSource (Some (Audit n m)) text (status.BadReport number) = HasBadReport n text number
RefusesSource (Some (Audit n m)) text status.TooLong = MAX_WORKLOAD < length text
RefusesSource (Some (Follow n)) text (status.BadFeed at) = HasBadPiece n text at
RefusesSource (Some (Follow n)) text status.TooLong = MAX_WORKLOAD < length text
RefusesSource _ text answer = ⊥

-- the answer refuses the source
abbrev pub is_of_source : Status → Bool
is_of_source (status.BadText line cause) = true
is_of_source status.TooLong = true
is_of_source (status.BadFeed at) = true
is_of_source (status.BadReport number) = true
is_of_source _ = false
