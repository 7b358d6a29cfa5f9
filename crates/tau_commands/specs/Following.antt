-- What a follower tells that is fed the pieces of a source.
use Rattle.std.specs.Prelude.{ℕ, Bool, true, false, ◌≡◌, ◌⊎◌, List, [], ◌∷◌, ◌++◌, length, replicate, codes, nat_le, if◌then◌else◌, Ok, Err}
use Rattle.std.specs.Fmt.{decimal}
use Rattle.tau_base.specs.declared.format.Format.{Format}
use Rattle.tau_base.specs.declared.format.Format.TheVariants.{One, Two}
use Rattle.tau_base.specs.Modes.{most_streams}
use Rattle.tau_base.specs.declared.value.Key.{Key}
use Rattle.tau_base.specs.declared.value.Value.{Value}
use Rattle.tau_disk.specs.Disk.{Rose}
use Rattle.tau_model.specs.History.{Member}
use Rattle.tau_scan.specs.declared.fault.LogFault.{LogFault}
use Rattle.tau_scan.specs.declared.log.Log.{Log}
use Rattle.tau_scan.specs.Reading.{log_of_contents}
use Rattle.tau_replay.specs.Followed.{IsRedoneBy}
use Rattle.tau_replay.specs.Redone.{IsRedone}
use Rattle.tau_report.specs.Recovery.{recover_text}
use Rattle.tau_follow.specs.Sealing.{IsNoLog}
use Rattle.tau_commands.specs.declared.status.Status.{Status}
use Rattle.tau_commands.specs.declared.status.Status.TheVariants as status
use Rattle.tau_commands.specs.Fault.{fault_text}
use Rattle.tau_commands.specs.Inspecting.{TellsText}
use Rattle.tau_commands.specs.Outside.{Input, Output, Wrote, is_before_disks, is_behind_text}
use Rattle.tau_commands.specs.Sources.{ArePieces, HasPieces, HasBadPiece}
use Rattle.tau_report.specs.Lines.{line}
use Rattle.tau_run.specs.RunFacts.{WroteFront}
use Rattle.tau_follow_laws.specs.Feeding.{Piece, with_piece, read_now, HasFed}
use Rattle.tau_follow_laws.specs.Following.{Followed, begun}

-- contents of up to 16 streams are of format 1, those of more of format 2
abbrev pub fed_format : ℕ → Format
fed_format n = if nat_le n (most_streams One) then One else Two

-- so many records are applied
abbrev pub applied_line : ℕ → List ℕ
applied_line count = line (codes "applied" ∷ decimal count ∷ [])

-- these pieces are fed, one after another, each with its line, and no feed is bad
abbrev pub FeedsTold : Format → List (List ℕ) → Followed → List Piece → List ℕ → List (List ℕ) → Followed → Type 0
FeedsTold f fed s [] lines now t = (lines ≡ []) × (now ≡ fed) × (t ≡ s)
FeedsTold f fed s (p ∷ pieces) lines now t =
    (m : Followed) × (more : List ℕ) × HasFed f (with_piece fed p) s m × (lines ≡ applied_line (length m.order) ++ more) × FeedsTold f (with_piece fed p) m pieces more now t

-- a follower of n streams was fed these pieces from the beginning
abbrev pub FedTold : ℕ → List Piece → List ℕ → List (List ℕ) → Followed → Type 0
FedTold n pieces lines now t = FeedsTold (fed_format n) (replicate n []) (begun n) pieces lines now t

-- All pieces are fed and the follower is sealed: the lines of the feeds, and then the text of recovery.
pub record IsFollowed (n : ℕ) (pieces : List Piece) (text : List ℕ) : Type 0 where
  pub lines : List ℕ
  pub fed : List (List ℕ)
  pub state : Followed
  pub told : FedTold n pieces lines fed state
  pub log : Log
  pub reads : log_of_contents (fed_format n) fed ≡ Ok log
  pub rows : List (Key × Value)
  pub redone : IsRedone log rows
  pub by_turns : IsRedoneBy log [] rows
  pub text_is : text ≡ lines ++ recover_text log rows

-- A feed is bad: the lines of the feeds before it.
pub record IsFedBad (n : ℕ) (pieces : List Piece) (fault : LogFault) (lines : List ℕ) : Type 0 where
  pub before : List Piece
  pub piece : Piece
  pub after : List Piece
  pub pieces_are : pieces ≡ before ++ piece ∷ after
  pub fed : List (List ℕ)
  pub state : Followed
  pub told : FedTold n before lines fed state
  pub bad : read_now (fed_format n) (with_piece fed piece) state.order ≡ Err fault

-- No feed is, and sealing is: the lines of all feeds.
pub record IsSealedBad (n : ℕ) (pieces : List Piece) (fault : LogFault) (lines : List ℕ) : Type 0 where
  pub fed : List (List ℕ)
  pub state : Followed
  pub told : FedTold n pieces lines fed state
  pub bad : IsNoLog (fed_format n) fed fault

abbrev pub IsBadFollowed : ℕ → List Piece → LogFault → List ℕ → Type 0
IsBadFollowed n pieces fault lines = IsFedBad n pieces fault lines ⊎ IsSealedBad n pieces fault lines

-- what is written of these pieces
abbrev pub FollowTells : ℕ → List Piece → (List ℕ → Type 0) → Type 0 → Status → Type 0
FollowTells n pieces wrote rose status.Ok = (text : List ℕ) × IsFollowed n pieces text × TellsText text wrote status.Ok
FollowTells n pieces wrote rose status.WriteFault = (text : List ℕ) × IsFollowed n pieces text × TellsText text wrote status.WriteFault
FollowTells n pieces wrote rose (status.BadLog fault) = (lines : List ℕ) × IsBadFollowed n pieces fault lines × WroteFront wrote rose (lines ++ fault_text (status.BadLog fault))
FollowTells n pieces wrote rose other = Unit {0}

-- these lines and then that of the refusal were told, and it is the answer, or memory ran out and nothing was told
abbrev pub TellsAfter : List ℕ → (List ℕ → Type 0) → Type 0 → Status → Status → Type 0
TellsAfter lines wrote rose refusal answer = ((answer ≡ refusal) × WroteFront wrote rose (lines ++ fault_text refusal)) ⊎ ((answer ≡ status.NoMemory) × wrote [])

-- a follower may end so that was fed pieces
abbrev pub ends_feeding : Status → Bool
ends_feeding status.Ok = true
ends_feeding status.NoMemory = true
ends_feeding status.WriteFault = true
ends_feeding (status.BadLog fault) = true
ends_feeding _ = false

-- a follower may end so
abbrev pub ends_following : Status → Bool
ends_following status.ReadFault = true
ends_following status.TooLong = true
ends_following (status.BadFeed at) = true
ends_following other = ends_feeding other

-- What is said of a follower that was fed the pieces of a text.
pub record HasFedText (n : ℕ) (text : List ℕ) (wrote : List ℕ → Type 0) (rose : Type 0) (answer : Status) : Type 0 where
  pub kind : ends_feeding answer ≡ true
  pub told : (pieces : List Piece) → ArePieces n pieces text → FollowTells n pieces wrote rose answer
  pub sink : answer ≡ status.WriteFault → rose
  pub silent : answer ≡ status.NoMemory → wrote []

-- a text may be found bad, or followed so
abbrev pub ends_text : Status → Bool
ends_text (status.BadFeed at) = true
ends_text other = ends_feeding other

-- What is said of one that was given a text, whose pieces are looked at first.
pub record HasFollowedText (n : ℕ) (text : List ℕ) (wrote : List ℕ → Type 0) (rose : Type 0) (answer : Status) : Type 0 where
  pub kind : ends_text answer ≡ true
  pub bad : (at : ℕ) → answer ≡ status.BadFeed at → HasBadPiece n text at × WroteFront wrote rose (fault_text answer)
  pub pieces : is_behind_text answer ≡ true → (pieces : List Piece) × HasPieces n text pieces
  pub told : (pieces : List Piece) → HasPieces n text pieces → FollowTells n pieces wrote rose answer
  pub sink : answer ≡ status.WriteFault → rose
  pub silent : answer ≡ status.NoMemory → wrote []

-- each answer has its cause, and what is written with it
pub record EndsFollowing (o : Output) (answer : Status) : Type 0 where
  pub kind : ends_following answer ≡ true
  pub sink : answer ≡ status.WriteFault → Rose o.faults o.faults'
  pub refusal : is_before_disks answer ≡ true → WroteFront (Wrote o.hears o.held o.held') (Rose o.faults o.faults') (fault_text answer)
  pub silent : answer ≡ status.NoMemory → Wrote o.hears o.held o.held' []

-- A follower that is fed the pieces of the source tells after each how many records it has applied, and in the end what
-- recovery tells of all; or the first cause why a feed or the end is bad.
pub record OfFollow (s : Input) (o : Output) (answer : Status) (n : ℕ) : Type 0 where
  pub follow : s.tells → (pieces : List Piece) → HasPieces n s.left pieces → FollowTells n pieces (Wrote o.hears o.held o.held') (Rose o.faults o.faults') answer
  pub bad_told : s.tells → (pieces : List Piece) (fault : LogFault) (lines : List ℕ) → HasPieces n s.left pieces → IsBadFollowed n pieces fault lines → Member answer (status.BadLog fault ∷ status.ReadFault ∷ status.NoMemory ∷ [])
  pub done : s.tells → (pieces : List Piece) (text : List ℕ) → HasPieces n s.left pieces → IsFollowed n pieces text → (s.rose → ⊥) → (Rose o.faults o.faults' → ⊥) → Member answer (status.Ok ∷ status.NoMemory ∷ [])
