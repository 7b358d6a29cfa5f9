-- A record that was redone outside the lock, on values that were read before.
use Rattle.std.specs.Prelude.{ℕ, ◌≡◌, List}
use Rattle.tau_base.specs.declared.value.Key.{Key}
use Rattle.tau_base.specs.declared.value.Value.{Value}
use Rattle.tau_base.specs.declared.value.Call.{Call}
use Rattle.tau_base.specs.Database.{Db, written}
use Rattle.tau_proc.specs.declared.proc.Proc.{Proc}
use Rattle.tau_proc.specs.Effect.{Agrees}
use Rattle.tau_proc.specs.Meaning.{meaning}
use Rattle.tau_proc.specs.Progress.{Progress, IsAt}
use Rattle.tau_proc.specs.Stage.{Asked, stage, values}
use Rattle.tau_record.specs.declared.entry.Entry.{Entry}
use Rattle.tau_record.specs.declared.entry.Entry.TheVariants.{Command}
use Rattle.tau_model.specs.Redo.{redone}
use Rattle.tau_scan.specs.declared.log.Log.{Log}
use Rattle.tau_scan.specs.Taken.{Kept}
use Rattle.tau_pool.specs.declared.item.Job.{Job}
use Rattle.tau_replay.specs.Recovering.{IsHeld}

-- the machine is that of the call, which wanted these rows in turn and was given these values
pub record IsTrying (procs : List Proc) (call : Call) (reads : List (Key × Value)) (m : Progress) : Type 0 where
  pub asked : Asked (stage procs call) reads
  pub count : ℕ
  pub at : IsAt procs call (values reads) count m

-- on each database that has the values read the call writes just this
abbrev pub Executes : List Proc → Call → List (Key × Value) → List (Key × Value) → Type 0
Executes procs call reads writes = (db : Db) → Agrees reads db → (meaning procs call db).writes ≡ writes

-- the record is a command record whose call does so
pub record IsExecuted (procs : List Proc) (entry : Entry) (reads writes : List (Key × Value)) : Type 0 where
  pub number : ℕ
  pub anchor : ℕ
  pub dep : List ℕ
  pub call : Call
  pub is : entry ≡ Command number anchor dep call
  pub does : Executes procs call reads writes

-- on each database that has the values read redoing the record of the job sets just these writes
abbrev pub DoesJust : Log → Job → List (Key × Value) → List (Key × Value) → Type 0
DoesJust log job reads writes = (r : Kept) → IsHeld log job r → (db : Db) → Agrees reads db → redone log.declarations.procs r.content db ≡ written writes db
