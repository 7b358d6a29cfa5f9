-- The theorems on histories.
use Rattle.std.specs.Prelude.{ℕ, Bool, true, ◌≡◌, List, map}
use Rattle.std.specs.List.{filter}
use Rattle.tau_base.specs.declared.value.LogMode.{LogMode}
use Rattle.tau_base.specs.Database.{Db}
use Rattle.tau_base.specs.Vectors.{AtMost}
use Rattle.tau_proc.specs.declared.proc.Proc.{Proc}
use Rattle.tau_model.specs.History.{Numbered, means, Act, Member, trace, exec, Reordered, OrdersAlike, KeepsOrder, Depends, Closed, updates}
use Rattle.tau_model.specs.Logged.{Place, lv, IsLogged, IsCutAt, Orderly}
use Rattle.tau_model.specs.Redo.{content, redo_contents}
use Rattle.tau_model.specs.Reported.{reported_of, in_stream}

-- the calls in another order, where no conflicting pair stands the other way round: each does what it did, and the last database is the same
abbrev pub SameConflicts : Type 0
SameConflicts = (procs : List Proc) (h g : List Numbered) (db : Db) → Reordered h g → OrdersAlike (trace (means procs) h db) g →
    Reordered (trace (means procs) h db) (trace (means procs) g db) × (exec (means procs) g db ≡ exec (means procs) h db)

-- the calls of a closed set, executed alone, each do what they do in the whole
abbrev pub ClosedPart : Type 0
ClosedPart = (procs : List Proc) (h : List Numbered) (chosen : Numbered → Bool) (db : Db) → Closed (trace (means procs) h db) chosen →
    trace (means procs) (filter chosen h) db ≡ filter (λ x. chosen x.call) (trace (means procs) h db)

-- what a cut of the streams holds is closed
abbrev pub CutClosed : Type 0
CutClosed = (procs : List Proc) (h : List Numbered) (db : Db) (place : Numbered → Place) (ends : List ℕ) → IsLogged place ends (trace (means procs) h db) →
    (cut : List ℕ) (chosen : Numbered → Bool) → IsCutAt place cut (trace (means procs) h db) chosen → Closed (trace (means procs) h db) chosen

-- the commit order of what a cut holds is an orderly order, and each orderly order of these records, data and command records in any mixture,
-- redoes to the database that executing just these calls gives
abbrev pub OrderlyRedo : Type 0
OrderlyRedo = (procs : List Proc) (h : List Numbered) (db : Db) (place : Numbered → Place) (ends : List ℕ) → IsLogged place ends (trace (means procs) h db) →
    (cut : List ℕ) (chosen : Numbered → Bool) → IsCutAt place cut (trace (means procs) h db) chosen →
    let held : List (Act Numbered) = filter (λ x. chosen x.call) (trace (means procs) h db) in
    Orderly (map (λ x. place x.call) held) ×
    ((ys : List (Act Numbered)) (mode : Act Numbered → LogMode) → Reordered held ys → Orderly (map (λ x. place x.call) ys) →
    redo_contents procs (map (λ x. content (mode x) x) ys) db ≡ exec (means procs) (filter chosen h) db)

-- where the cut covers the vector of a call, it holds its record, and that of every updating call on which it depends
abbrev pub CoveredHeld : Type 0
CoveredHeld = (procs : List Proc) (h : List Numbered) (db : Db) (place : Numbered → Place) (ends : List ℕ) → IsLogged place ends (trace (means procs) h db) →
    (cut : List ℕ) (chosen : Numbered → Bool) → IsCutAt place cut (trace (means procs) h db) chosen →
    (x : Act Numbered) → Member x (trace (means procs) h db) → AtMost (lv (updates x.effect) (place x.call)) cut →
    (updates x.effect ≡ true → chosen x.call ≡ true) × ((u : Act Numbered) → Depends (trace (means procs) h db) x u → updates u.effect ≡ true → chosen u.call ≡ true)

-- the reported history of the committed calls, in whatever order they are given, lists each of them once, has no conflicting pair the other way round,
-- and keeps the order of each stream; in it each call does what it did in the commit order, and the last database is the same
abbrev pub ReportedHistory : Type 0
ReportedHistory = (procs : List Proc) (h : List Numbered) (db : Db) (place : Numbered → Place) (ends : List ℕ) → IsLogged place ends (trace (means procs) h db) →
    (calls : List (Act Numbered)) → Reordered (trace (means procs) h db) calls →
    let out : List (Act Numbered) = reported_of (λ x. place x.call) (λ x. updates x.effect) (λ x. x.call.number) ends calls in
    let stream : ℕ → List (Act Numbered) → List (Act Numbered) = λ j. filter (in_stream (λ x. place x.call) (λ x. updates x.effect) j) in
    Reordered (trace (means procs) h db) out × KeepsOrder (trace (means procs) h db) out × ((j : ℕ) → stream j out ≡ stream j (trace (means procs) h db)) ×
    (trace (means procs) (map (λ x. x.call) out) db ≡ out) × (exec (means procs) (map (λ x. x.call) out) db ≡ exec (means procs) h db)

-- what a cut holds is closed in the reported history too, and executing just these calls of it gives the same
abbrev pub CutReported : Type 0
CutReported = (procs : List Proc) (h : List Numbered) (db : Db) (place : Numbered → Place) (ends : List ℕ) → IsLogged place ends (trace (means procs) h db) →
    (calls : List (Act Numbered)) → Reordered (trace (means procs) h db) calls →
    (cut : List ℕ) (chosen : Numbered → Bool) → IsCutAt place cut (trace (means procs) h db) chosen →
    let out : List (Act Numbered) = reported_of (λ x. place x.call) (λ x. updates x.effect) (λ x. x.call.number) ends calls in
    Closed out chosen × (exec (means procs) (filter chosen (map (λ x. x.call) out)) db ≡ exec (means procs) (filter chosen h) db)
