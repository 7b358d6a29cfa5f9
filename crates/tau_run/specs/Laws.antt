-- What holds of every run, whatever its events.
use Rattle.std.specs.Prelude.{ℕ, false, ◌++◌, ◌∷◌, ◌<◌, ◌≤◌, ◌+◌, ◌≡◌, ◌↔◌, true, List, [], length, take, slice_get, slice_index, slice_index_or, Option, Some, None, Ok}
use Rattle.std.specs.List.{filter}
use Rattle.tau_base.specs.declared.value.LogMode.{LogMode}
use Rattle.tau_base.specs.Modes.{format_of, most_streams}
use Rattle.tau_base.specs.declared.value.Key.{Key}
use Rattle.tau_base.specs.declared.value.Value.{Value}
use Rattle.tau_model.specs.Tables.{db_of_rows}
use Rattle.tau_base.specs.Vectors.{AtMost, covers}
use Rattle.tau_block.specs.Image.{HasContent}
use Rattle.tau_model.specs.History.{Act, Member, Depends, exec, updates}
use Rattle.tau_machine.specs.Hands.{Txn}
use Rattle.tau_machine.specs.State.{Core}
use Rattle.tau_machine.specs.Accounts.{in_worker}
use Rattle.tau_machine.specs.Events.{Event, Quit}
use Rattle.tau_machine.specs.Runs as machine
use Rattle.tau_text.specs.declared.load.Workload.{Workload}
use Rattle.tau_core.specs.declared.state.Load.{Load}
use Rattle.tau_core.specs.State.{Plain}
use Rattle.tau_core.specs.View.{setting_of, Hidden, core_of}
use Rattle.tau_core.specs.Stands.{Stands}
use Rattle.tau_scan.specs.declared.log.Log.{Log}
use Rattle.tau_scan.specs.Reading.{log_of, log_of_contents}
use Rattle.tau_scan.specs.Taken.{kept_in, taken, is_taken_at}
use Rattle.tau_base.specs.declared.format.Format.{Format}
use Rattle.tau_base.specs.Database.{Db}
use Rattle.tau_base.specs.declared.limits.TheConstants.{LAST_EPOCH}
use Rattle.tau_record.specs.declared.entry.Placed.{Placed}
use Rattle.tau_epoch_laws.specs.Continues.{Continues}
use Rattle.tau_epoch_laws.specs.Laws.{starts_in}
use Rattle.tau_epoch_laws.specs.Marked.{AreMarked}
use Rattle.tau_scan.specs.Sound.{fresh_log, IsSound}
use Rattle.tau_run.specs.Start.{Start, fresh_start, catalogue_of, old_at, opened_at, IsStart}
use Rattle.tau_run.specs.Run.{Committed, Run, means, IsHistory, acts, records_in, has_ack, vector_of, AllAcked}
use Rattle.tau_run.specs.RecoveredFacts.{takes, IsRecovered}
use Rattle.tau_base.specs.declared.value.Call.{Call}
use Rattle.tau_proc.specs.Takes.{takes as takes_call}
use Rattle.tau_text.specs.Text.{workload_of}
use Rattle.tau_text.specs.Canonical.{declarations_text}
use Rattle.tau_record.specs.Vector.{ArePlaces}
use Rattle.tau_epoch.specs.Epochs.{largest}
use Rattle.tau_scan.specs.Epochs.{marks_of}
use Rattle.tau_run.specs.CoreRun.{IsLoadOn, IsFirstState, AreAcks, IsRunOf, IsSoundLoad, IsCourse}
use Rattle.tau_occ.specs.declared.style.Style.{Style}
use Rattle.tau_run.specs.RunFacts.{DiskFailed, IsCoreRun, IsCoreRunAt, chosen_by}
use Rattle.tau_run.specs.StopsLeave.{HasFront, IsLeft, IsOver, NamesLowest}
use Rattle.tau_run.specs.Lives.{Life, IsLife, AreLives, taken_calls, last_contents, last_log, all_taken, exec_lives}

-- a workload that a text means is sound, where its procedures take its calls
abbrev pub TextsAreSound : Type 0
TextsAreSound = (text : List ℕ) (load : Workload) → workload_of text ≡ Ok load → ((k : ℕ) (c : Call) → slice_get load.calls k ≡ Some c → takes_call load.declarations.procs c ≡ true) → IsSoundLoad load

-- a core that stands on what a run begins with has made one, with its acknowledgements in whatever order the workers' ones were told
abbrev pub RunIsThere : Type 0
RunIsThere = (n m : ℕ) (mode : LogMode) (load : Workload) (p : Plain) (K : List (Act Txn)) (h : Hidden) → Stands p K h → (start : Start) → IsLoadOn n m mode load start p.load →
    length start.old ≡ n →
    (acks : List (ℕ × List ℕ)) → AreAcks p.load (core_of p h) acks → (run : Run) × IsRunOf n p.load K (core_of p h) load run × (run.acks ≡ acks) × (run.start ≡ start)

-- A run may have made nothing, whatever it begins on: then its streams have what they held first, and these rows are those
-- of its database.
abbrev pub NothingBegun : Type 0
NothingBegun = (n m : ℕ) (mode : LogMode) (load : Workload) (start : Start) (rows : List (Key × Value)) → 1 ≤ n → n ≤ most_streams (format_of mode) → 1 ≤ m → IsStart (format_of mode) n load start → IsSoundLoad load →
    db_of_rows rows ≡ start.base →
    (l : Load) × (opening : Core) × (run : Run) × IsFirstState l opening × machine.Run (setting_of l) opening [] [] opening × IsCourse n m mode load run.start l [] opening × IsRunOf n l [] opening load run ×
    (run.start ≡ start) × (run.calls ≡ []) × (run.acks ≡ [])

-- each call of a run that writes waits for all up to the floor with which the run began
abbrev pub CallsWait : Type 0
CallsWait = (l : Load) (opening : Core) (events : List Event) (K : List (Act Txn)) (s : Core) → machine.Run (setting_of l) opening events K s → IsFirstState l opening →
    (t : Act Txn) → Member t K → updates t.effect ≡ true → AtMost l.opening.floor t.call.place.dep

-- it is a history of the workload
abbrev pub RunIsHistory : Type 0
RunIsHistory = (n m : ℕ) (mode : LogMode) (load : Workload) (l : Load) (K : List (Act Txn)) (s : Core) → (run : Run) → IsCourse n m mode load run.start l K s → IsRunOf n l K s load run → IsHistory n m load run

-- What the streams have begins with what they held first, and can be read: the old records, and then those of the history,
-- stream by stream.
abbrev pub ContentsAreRecords : Type 0
ContentsAreRecords = (n m : ℕ) (mode : LogMode) (load : Workload) (l : Load) (K : List (Act Txn)) (s : Core) → (run : Run) → IsCourse n m mode load run.start l K s → IsRunOf n l K s load run →
    ((j : ℕ) (content : List ℕ) → slice_get run.contents j ≡ Some content → take (length (opened_at load run.start j)) content ≡ opened_at load run.start j) ×
    ((log : Log) × (log_of_contents (format_of mode) run.contents ≡ Ok log) × ((j : ℕ) → j < n → kept_in j (slice_index_or log.streams j []) ≡ kept_in j (slice_index_or run.start.log.streams j []) ++ records_in mode load run j))

-- Images of which each has what was there, or what the stream held first and the first of the items that were gathered,
-- whatever the others have: what recovery finds of them, if what was there was sound.
abbrev pub ImagesAreRecovered : Type 0
ImagesAreRecovered = (n m : ℕ) (mode : LogMode) (load : Workload) (l : Load) (K : List (Act Txn)) (s : Core) → (run : Run) → IsCourse n m mode load run.start l K s → IsRunOf n l K s load run →
    IsSound (format_of mode) run.start.old run.start.log run.start.base →
    (images : List (List ℕ)) → length images ≡ n → ((j : ℕ) (image : List ℕ) → slice_get images j ≡ Some image → IsLeft n j (old_at run.start j) (opened_at load run.start j) l s image) → IsRecovered n mode load run images

-- images that reach what is persisted: each updating call that is acknowledged is taken, and each on which an acknowledged call depends
abbrev pub AckedIsTaken : Type 0
AckedIsTaken = (n m : ℕ) (mode : LogMode) (load : Workload) (l : Load) (K : List (Act Txn)) (s : Core) → (run : Run) → IsCourse n m mode load run.start l K s → IsRunOf n l K s load run →
    (images : List (List ℕ)) → length images ≡ n →
    ((j : ℕ) (image : List ℕ) → slice_get images j ≡ Some image → (bytes : List ℕ) × HasFront n j (opened_at load run.start j) l s bytes image × (slice_index s.plv j ≤ length (opened_at load run.start j) + length bytes)) →
    (log : Log) → log_of None images ≡ Ok log → (x : Act Committed) → Member x (acts load.declarations.procs run) → has_ack run x.call.number ≡ true →
    (updates x.effect ≡ true → takes log x.call ≡ true) × ((u : Act Committed) → Depends (acts load.declarations.procs run) x u → updates u.effect ≡ true → takes log u.call ≡ true)

-- At the end: a call is acknowledged exactly where it is persisted; where it is not, its stream was stopped; and an image
-- of a stream that was not stopped has all of it.
abbrev pub EndsWell : Type 0
EndsWell = (n m : ℕ) (mode : LogMode) (load : Workload) (l : Load) (K : List (Act Txn)) (s : Core) → (run : Run) → IsCourse n m mode load run.start l K s → IsRunOf n l K s load run → IsOver n s →
    ((c : Committed) → Member c run.calls → (has_ack run c.number ≡ true) ↔ (covers s.plv (vector_of c) ≡ true)) ×
    ((c : Committed) → Member c run.calls → (j : ℕ) → j < n → slice_index s.plv j < slice_index (vector_of c) j → (end : ℕ) × ((s.streams j).stop ≡ Some end)) ×
    ((j : ℕ) → j < n → (s.streams j).stop ≡ None → (image bytes : List ℕ) → HasFront n j (opened_at load run.start j) l s bytes image → slice_index s.plv j ≤ length (opened_at load run.start j) + length bytes →
    HasContent (format_of l.mode) n j (slice_index_or run.contents j []) image)

-- no event gives a call up
abbrev pub KeepsCall : Event → Type 0
KeepsCall (Quit w up) = up ≡ false
KeepsCall _ = Unit {0}

abbrev pub KeepCalls : List Event → Type 0
KeepCalls [] = Unit {0}
KeepCalls (e ∷ events) = KeepsCall e × KeepCalls events

-- every call of the workload waits at a worker
abbrev pub AllWait : Workload → Core → Type 0
AllWait load s = (k : ℕ) → 1 ≤ k → k ≤ length load.calls → (w : ℕ) × (1 ≤ in_worker k (s.workers w))

-- Where no call was given up and no stream was stopped, every call is acknowledged at the end.
abbrev pub NothingIsLost : Type 0
NothingIsLost = (n m : ℕ) (mode : LogMode) (load : Workload) (l : Load) (K : List (Act Txn)) (s : Core) → (run : Run) → IsCourse n m mode load run.start l K s → IsRunOf n l K s load run →
    (opening : Core) (events : List Event) → machine.Run (setting_of l) opening events K s → KeepCalls events → AllWait load opening → IsOver n s → ((j : ℕ) → j < n → (s.streams j).stop ≡ None) → AllAcked load run

-- A run of which the report was written, with the stream whose disk failed, is one of all its events: of a run that was not
-- begun no such report is written.
abbrev pub ToldIsWhole : Type 0
ToldIsWhole = (style : Style) (n m : ℕ) (mode : LogMode) (load : Workload) (stops : ℕ → Option ℕ) (run : Run) (j : ℕ) → IsCoreRunAt (chosen_by load.turns style n m load) n m mode load stops run (DiskFailed j) → NamesLowest n stops (Some j) →
    IsCoreRun (chosen_by load.turns style n m load true) n m mode load stops run

-- Any number of runs and stops on a sound log leave a sound one, whose database is that of executing the calls that are
-- taken, run after run; and what each stop left is what was there and a closed part of the history.
abbrev pub LivesAreSound : Type 0
LivesAreSound = (f : Format) (n : ℕ) (old : List (List ℕ)) (log : Log) (base : Db) → IsSound f old log base → (xs : List Life) → AreLives f n old xs →
    IsSound f (last_contents old xs) (last_log log xs) (exec_lives xs base)

abbrev pub LivesAreRecovered : Type 0
LivesAreRecovered = (f : Format) (n : ℕ) (old : List (List ℕ)) (log : Log) (base : Db) → IsSound f old log base → (xs : List Life) → AreLives f n old xs →
    (x : Life) → Member x xs → IsRecovered n x.mode x.load x.run x.images

-- A run may begin on what runs and stops have left, of a workload that declares the same: its database is that of the
-- calls that are taken. The run's number and the lengths must fit into a record.
abbrev pub RunsMayGoOn : Type 0
RunsMayGoOn = (f : Format) (n : ℕ) (old : List (List ℕ)) (log : Log) (base : Db) → IsSound f old log base → (x : Life) → IsLife f n old x →
    (load : Workload) → declarations_text load.declarations ≡ declarations_text x.load.declarations → largest (marks_of x.log) < LAST_EPOCH → ArePlaces x.log.elv →
    (start : Start) × IsStart f n load start × (start.old ≡ x.contents) × (start.base ≡ exec (means x.load.declarations.procs) (taken_calls x) base)

-- all of them are one history, by the procedures that the log declares
abbrev pub LivesAreOne : Type 0
LivesAreOne = (f : Format) (n : ℕ) (old : List (List ℕ)) (log : Log) (base : Db) → IsSound f old log base → (xs : List Life) → AreLives f n old xs →
    exec_lives xs base ≡ exec (means (last_log log xs).declarations.procs) (all_taken xs) base

-- The log that they leave goes on from the first one, and takes of its records what that one took, record by record: what
-- is left out once is left out for good.
abbrev pub LeftOutForGood : Type 0
LeftOutForGood = (f : Format) (n : ℕ) (old : List (List ℕ)) (log : Log) (base : Db) → IsSound f old log base → (x : Life) (xs : List Life) → AreLives f n old (x ∷ xs) →
    (more : List (List Placed)) × Continues log more (last_log log (x ∷ xs)) × (filter (starts_in log) (taken (last_log log (x ∷ xs))) ≡ taken log) ×
    ((j i : ℕ) (ps : List Placed) → slice_get log.streams j ≡ Some ps → i < length ps → is_taken_at (last_log log (x ∷ xs)) j i ≡ is_taken_at log j i)

-- and its epochs stand as those of a log do that runs left
abbrev pub LivesAreMarked : Type 0
LivesAreMarked = (f : Format) (n : ℕ) (old : List (List ℕ)) (log : Log) (base : Db) → IsSound f old log base → AreMarked log.streams → (xs : List Life) → AreLives f n old xs → AreMarked (last_log log xs).streams

-- those of empty streams do
abbrev pub FreshMarked : Type 0
FreshMarked = (n : ℕ) → AreMarked (fresh_log n).streams

-- A run may begin on streams that hold nothing, which are sound; then each stream is given the catalogue alone.
abbrev pub FreshBegins : Type 0
FreshBegins = (f : Format) (n : ℕ) (load : Workload) → IsStart f n load (fresh_start n) × IsSound f (fresh_start n).old (fresh_start n).log (fresh_start n).base ×
    ((j : ℕ) → old_at (fresh_start n) j ≡ []) × ((j : ℕ) → opened_at load (fresh_start n) j ≡ catalogue_of load)
