-- Redoing the records of a log.
use Rattle.std.specs.Prelude.{List, [], ◌∷◌, if◌then◌else◌}
use Rattle.tau_base.specs.declared.value.Key.{Key}
use Rattle.tau_base.specs.declared.value.Value.{Value}
use Rattle.tau_base.specs.declared.value.Call.{Call}
use Rattle.tau_base.specs.declared.value.LogMode.{LogMode}
use Rattle.tau_base.specs.Modes.{is_command}
use Rattle.tau_base.specs.Database.{Db, written}
use Rattle.tau_proc.specs.declared.proc.Proc.{Proc}
use Rattle.tau_proc.specs.Meaning.{meaning}
use Rattle.tau_model.specs.History.{Numbered, Act}

-- what a record holds: the writes of its call, or the call itself
pub data Content : Type 0 where
  Written : List (Key × Value) → Content
  Command : Call → Content

-- a data record sets its writes; a command record sets what its call writes on the tables as they are then
abbrev pub redone : List Proc → Content → Db → Db
redone procs (Written ws) db = written ws db
redone procs (Command c) db = written (meaning procs c db).writes db

-- the database after these records, one after another
abbrev pub redo_contents : List Proc → List Content → Db → Db
redo_contents procs [] db = db
redo_contents procs (r ∷ rs) db = redo_contents procs rs (redone procs r db)

-- what the record of a call holds in this mode
abbrev pub content : LogMode → Act Numbered → Content
content mode x = if is_command mode then Command x.call.call else Written x.effect.writes
