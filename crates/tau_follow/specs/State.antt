-- How a follower is that was fed these bytes.
use Rattle.std.specs.Prelude.{ℕ, ◌≡◌, ◌≤◌, ◌<◌, List, [], length, take, slice_index, slice_index_or, Option, Ok}
use Rattle.tau_base.specs.Database.{Db}
use Rattle.tau_base.specs.declared.format.Format.{Format}
use Rattle.tau_base.specs.declared.value.Key.{Key}
use Rattle.tau_base.specs.declared.value.Value.{Value}
use Rattle.tau_record.specs.declared.entry.Placed.{Placed}
use Rattle.tau_proc.specs.declared.proc.Proc.{Proc}
use Rattle.tau_model.specs.Store.{database}
use Rattle.tau_model.specs.Tables.{IsTablesOf}
use Rattle.tau_scan.specs.Epochs.{marks_from, with_marks}
use Rattle.tau_scan.specs.Reading.{catalogue_in, declared_by}
use Rattle.tau_follow_laws.specs.Following.{Followed}
use Rattle.tau_follow_laws.specs.Feeding.{Piece, with_piece, IsFollower}
use Rattle.tau_follow.specs.declared.applier.Applier.{Applier}
use Rattle.tau_follow.specs.declared.state.State.{State}
use Rattle.tau_follow.specs.Applying.{AreSpots, redone_of}
use Rattle.tau_follow.specs.Feeding.{AreRead}
use Rattle.tau_follow.specs.Holding.{AreStaged, HasFollowed, IsTold}

-- where its records stand, and which are applied
pub record Stands (s : Followed) (a : Applier) : Type 0 where
  pub staged : AreStaged s a.stages.items a.firsts.items a.waits
  pub spots : AreSpots s.streams a.order.items s.order
  pub told : IsTold s.streams a

-- each of these numbers is a byte
abbrev pub AreBytes : List (List ℕ) → Type 0
AreBytes fed = (j i : ℕ) → slice_index (slice_index_or fed j []) i < 256

-- A database holds what the first of the applied records did by these procedures, and the rows are those of all of them.
pub record IsRedone (procs : List Proc) (s : Followed) (done : ℕ) (db : Db) (rows : List (Key × Value)) : Type 0 where
  pub within : done ≤ length s.order
  pub store : db ≡ redone_of procs (take done s.order)
  pub tables : IsTablesOf (redone_of procs s.order) rows

-- the epochs that are known are those of the records, and what is declared is what the catalogue declares
pub record Knows (streams : List (List Placed)) (catalogue : Option (List ℕ)) (w : State) : Type 0 where
  pub known : w.known ≡ with_marks [] (marks_from streams)
  pub declarations : w.declarations ≡ declared_by catalogue

-- It has read the bytes, has followed them as one does that is fed, and its rows are those of the applied records by the
-- procedures that the catalogue declares.
pub record IsAt (f : Format) (n : ℕ) (fed : List (List ℕ)) (s : Followed) (w : State) : Type 0 where
  pub read : AreRead f n fed w.streams.items w.readers.items
  pub bytes : AreBytes fed
  pub follower : IsFollower f n fed s
  pub catalogue : Option (List ℕ)
  pub one : catalogue_in s.streams ≡ Ok catalogue
  pub knows : Knows s.streams catalogue w
  pub stands : Stands s w.applier
  pub redone : IsRedone (declared_by catalogue).procs s w.done (database w.store) w.tables

-- the same where a piece was read, and is not followed yet
pub record HasRead (f : Format) (n : ℕ) (fed : List (List ℕ)) (s : Followed) (p : Piece) (w : State) : Type 0 where
  pub read : AreRead f n (with_piece fed p) w.streams.items w.readers.items
  pub bytes : AreBytes (with_piece fed p)
  pub follower : IsFollower f n fed s
  pub catalogue : Option (List ℕ)
  pub one : catalogue_in s.streams ≡ Ok catalogue
  pub knows : Knows s.streams catalogue w
  pub stands : Stands s w.applier
  pub redone : IsRedone (declared_by catalogue).procs s w.done (database w.store) w.tables

-- what is read, known and declared is the same
pub record IsSame (old new : State) : Type 0 where
  pub streams : new.streams ≡ old.streams
  pub readers : new.readers ≡ old.readers
  pub known : new.known ≡ old.known
  pub declarations : new.declarations ≡ old.declarations

-- what was ready is applied, until nothing is, and redone
pub record HasRedone (s : Followed) (w : State) : Type 0 where
  pub followed : HasFollowed w.streams.items s w.applier
  pub redone : IsRedone w.declarations.procs followed.done.now w.done (database w.store) w.tables
  pub told : IsTold w.streams.items w.applier

-- it is one that was fed some bytes
abbrev pub IsFed : State → Type 0
IsFed w = (f : Format) × (n : ℕ) × (fed : List (List ℕ)) × (s : Followed) × IsAt f n fed s w
