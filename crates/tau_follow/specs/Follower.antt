-- A follower, as its callers see it.
use Rattle.std.specs.Prelude.{ℕ, ◌≡◌, ◌⊎◌, List, [], length, Option, Some, None, Result, Ok, Err}
use Rattle.tau_base.specs.Database.{Db}
use Rattle.tau_base.specs.declared.format.Format.{Format}
use Rattle.tau_base.specs.declared.value.Key.{Key}
use Rattle.tau_base.specs.declared.value.Value.{Value}
use Rattle.tau_proc.specs.declared.proc.Proc.{Proc}
use Rattle.tau_text.specs.declared.load.Declarations.{Declarations}
use Rattle.tau_scan.specs.declared.fault.LogFault.{LogFault}
use Rattle.tau_scan.specs.declared.log.Log.{Log}
use Rattle.tau_scan.specs.Reading.{declared_in}
use Rattle.tau_follow_laws.specs.Following.{Followed}
use Rattle.tau_follow.specs.Applying.{redone_of}
use Rattle.tau_follow.specs.Sealing.{IsRecovered}
use Rattle.tau_follow.specs.State.{IsAt}
use Rattle.tau_follow.specs.declared.follower.Follower.{Follower}

abbrev pub procs_of : Result Declarations LogFault → List Proc
procs_of (Ok d) = d.procs
procs_of (Err fault) = []

-- the database of the applied records, redone in their order by what the one catalogue declares
abbrev pub applied_db : Followed → Db
applied_db s = redone_of (procs_of (declared_in s.streams)) s.order

-- how many streams it follows
abbrev pub width_of : Follower → ℕ
width_of w = w.width.n

-- how many records are applied
abbrev pub count_of : Follower → ℕ
count_of w = w.count

-- its rows
abbrev pub rows_of : Follower → List (Key × Value)
rows_of w = w.state.tables

-- the log, if it is sealed
abbrev pub log_of : Follower → Option Log
log_of w = w.log

-- it has failed with this cause
abbrev pub HasFailed : LogFault → Follower → Type 0
HasFailed fault w = w.failed ≡ Some fault

-- It follows n streams in a format, of which these bytes were fed so far, and has read, left out and applied these records.
pub record Follows (f : Format) (n : ℕ) (fed : List (List ℕ)) (s : Followed) (w : Follower) : Type 0 where
  pub format : w.width.format ≡ f
  pub width : w.width.n ≡ n
  pub state : IsAt f n fed s w.state
  pub count : w.count ≡ length s.order
  pub good : w.failed ≡ None
  pub open_still : w.log ≡ None

-- It is sealed: all contents of the streams were fed, and hold this log.
pub record IsSealed (f : Format) (fed : List (List ℕ)) (log : Log) (w : Follower) : Type 0 where
  pub log_is : w.log ≡ Some log
  pub recovered : IsRecovered f fed log w.count w.state.tables

-- It is not sealed: it follows what it was fed, or has failed.
unfoldable pub IsOpen : Follower → Type 0
IsOpen w = (w.log ≡ None) × (((fault : LogFault) × HasFailed fault w) ⊎ ((f : Format) × (n : ℕ) × (fed : List (List ℕ)) × (s : Followed) × Follows f n fed s w))
