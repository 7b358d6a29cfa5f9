-- What holds of every recovery.
use Rattle.std.specs.Prelude.{ℕ, Bool, ◌≡◌, ◌⊎◌, List, [], map, slice_index}
use Rattle.std.specs.List.{filter}
use Rattle.tau_base.specs.declared.value.Key.{Key}
use Rattle.tau_base.specs.declared.value.Value.{Value}
use Rattle.tau_base.specs.declared.value.LogMode.{LogMode}
use Rattle.tau_base.specs.Database.{empty_db}
use Rattle.tau_proc.specs.declared.proc.Proc.{Proc}
use Rattle.tau_model.specs.History.{Numbered, Act, means, trace, exec, Member, Reordered}
use Rattle.tau_model.specs.Logged.{Place, IsLogged, IsCutAt, Orderly}
use Rattle.tau_model.specs.Redo.{content, redo_contents}
use Rattle.tau_model.specs.Replay.{Replaying, Turn, Turns, IsReady}
use Rattle.tau_model.specs.Tables.{IsTablesOf}
use Rattle.tau_scan.specs.declared.log.Log.{Log}
use Rattle.tau_scan.specs.Taken.{Kept, taken}
use Rattle.tau_replay.specs.Redone.{IsOrderOf, IsRedone, IsTangledAt, taken_after}

abbrev pub place_of : Kept → Place
place_of r = r.place

-- nothing is started
abbrev pub waiting : List Kept → Replaying Kept
waiting records = record { todo = records; flight = []; order = [] }

-- whatever the turns, the records that are finished, where all are, stand in an orderly order
abbrev pub OrderlyTurns : Type 0
OrderlyTurns = (records order : List Kept) (turns : List (Turn Kept)) → Turns place_of (waiting records) turns (record { todo = []; flight = []; order = order }) →
    Reordered records order × Orderly (map place_of order)

-- whatever the turns, while nothing is in flight, something is unstarted and an orderly order exists, some record is ready
abbrev pub SomeReady : Type 0
SomeReady = (records order : List Kept) (turns : List (Turn Kept)) (s : Replaying Kept) → Turns place_of (waiting records) turns s → s.flight ≡ [] → Reordered records order → Orderly (map place_of order) →
    (s.todo ≡ []) ⊎ ((r : Kept) × Member r s.todo × IsReady place_of s r)

-- the record of a call of a history
abbrev pub kept_of : (Numbered → Place) → (Act Numbered → LogMode) → Act Numbered → Kept
kept_of place mode x = record { number = x.call.number; place = place x.call; content = content (mode x) x }

-- Of a log whose taken records are those that a cut of a history holds an orderly order exists, and whatever the turns
-- the tables are those of executing just the calls that the cut holds.
abbrev pub RunsAgree : Type 0
RunsAgree = (procs : List Proc) (h : List Numbered) (place : Numbered → Place) (ends : List ℕ) → IsLogged place ends (trace (means procs) h empty_db) →
    (cut : List ℕ) (chosen : Numbered → Bool) → IsCutAt place cut (trace (means procs) h empty_db) chosen → (mode : Act Numbered → LogMode) (log : Log) → log.declarations.procs ≡ procs →
    Reordered (map (kept_of place mode) (filter (λ x. chosen x.call) (trace (means procs) h empty_db))) (taken log) →
    ((order : List Kept) × IsOrderOf log order) × ((rows : List (Key × Value)) → IsRedone log rows → IsTablesOf (exec (means procs) (filter chosen h) empty_db) rows)

-- all orderly orders of the taken records give one database
abbrev pub OrdersAgree : Log → Type 0
OrdersAgree log = (one other : List Kept) → IsOrderOf log one → IsOrderOf log other →
    redo_contents log.declarations.procs (map (λ (r : Kept). r.content) one) empty_db ≡ redo_contents log.declarations.procs (map (λ (r : Kept). r.content) other) empty_db

-- Where they do, recovery gives one list of rows, however many workers there are and whatever their turns.
abbrev pub OneRecovery : Type 0
OneRecovery = (log : Log) (rows other : List (Key × Value)) → OrdersAgree log → IsRedone log rows → IsRedone log other → rows ≡ other

-- They do where the taken records are those that a cut of a history holds.
abbrev pub RunsOrdersAgree : Type 0
RunsOrdersAgree = (procs : List Proc) (h : List Numbered) (place : Numbered → Place) (ends : List ℕ) → IsLogged place ends (trace (means procs) h empty_db) →
    (cut : List ℕ) (chosen : Numbered → Bool) → IsCutAt place cut (trace (means procs) h empty_db) chosen → (mode : Act Numbered → LogMode) (log : Log) → log.declarations.procs ≡ procs →
    Reordered (map (kept_of place mode) (filter (λ x. chosen x.call) (trace (means procs) h empty_db))) (taken log) → OrdersAgree log

-- where recovery gets stuck is told in one way
abbrev pub TangledAlike : Type 0
TangledAlike = (log : Log) (j at k other : ℕ) → IsTangledAt log j at → IsTangledAt log k other → (j ≡ k) × (at ≡ other)

-- and then no orderly order exists
abbrev pub TangledHasNoOrder : Type 0
TangledHasNoOrder = (log : Log) (j at : ℕ) (order : List Kept) → IsTangledAt log j at → IsOrderOf log order → ⊥

-- from the beginning of each stream nothing is left out
abbrev pub NothingLeftOut : Type 0
NothingLeftOut = (log : Log) (from : List ℕ) → ((j : ℕ) → slice_index from j ≡ 0) → taken_after from log ≡ taken log
