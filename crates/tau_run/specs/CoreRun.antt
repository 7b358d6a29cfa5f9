-- The run that a state of the core has made so far: its history, the contents of its streams, its acknowledgements.
use Rattle.std.specs.Prelude.{ℕ, ◌<◌, ◌≤◌, ◌≡◌, ◌==◌, Bool, List, [], ◌++◌, length, map, slice_get, slice_index, slice_index_or, Some, Ok, true}
use Rattle.std.specs.List.{filter, list_all}
use Rattle.tau_base.specs.declared.value.LogMode.{LogMode}
use Rattle.tau_model.specs.History.{Act, Member, updates}
use Rattle.tau_model.specs.Tables.{db_of_rows}
use Rattle.tau_machine.specs.Hands.{Txn}
use Rattle.tau_machine.specs.State.{Item, Core}
use Rattle.tau_machine.specs.Invariant.{Invariant}
use Rattle.tau_machine.specs.Pieces.{Chain, records_in, anchors_in, NameTheirs, records_of_stream}
use Rattle.tau_machine.specs.Reports.{reported}
use Rattle.tau_text.specs.declared.load.Workload.{Workload}
use Rattle.tau_core.specs.declared.opening.Opening.{Opening}
use Rattle.tau_core.specs.declared.state.Load.{Load}
use Rattle.tau_core.specs.Opens.{calls_of}
use Rattle.tau_core.specs.Pieces.{Spelled}
use Rattle.tau_core.specs.View.{setting_of, worker_of}
use Rattle.tau_base.specs.declared.limits.TheConstants.{MAX_CATALOGUE, SHARDS}
use Rattle.tau_base.specs.Modes.{format_of, most_streams}
use Rattle.tau_base.specs.Vectors.{AtMost}
use Rattle.tau_base.specs.declared.value.Call.{Call}
use Rattle.tau_proc.specs.declared.proc.Proc.{Proc}
use Rattle.tau_proc.specs.declared.step.Step.{Step}
use Rattle.tau_proc.specs.declared.step.Step.TheVariants as step
use Rattle.tau_text.specs.declared.load.Declarations.{Declarations}
use Rattle.tau_proc.specs.Takes.{takes}
use Rattle.tau_text.specs.Alone.{declarations_of}
use Rattle.tau_text.specs.Canonical.{declarations_text}
use Rattle.tau_scan.specs.Reading.{has_table, is_of_table}
use Rattle.tau_record.specs.Content.{anchors_of}
use Rattle.tau_run.specs.Start.{Start, opened_with, opened_at, IsStart}
use Rattle.tau_run.specs.Run.{Run, told_of, pair_of}

-- what a core is opened with on streams that begin so: their database, the old lengths as the floor, where each stream ends
-- after what it was given first, and how many anchors each has
pub record IsOpeningOn (load : Workload) (start : Start) (o : Opening) : Type 0 where
  pub rows : db_of_rows o.rows ≡ start.base
  pub floor : o.floor ≡ start.log.elv
  pub ends : o.ends ≡ map (λ old. length (opened_with load start old)) start.old
  pub anchors : o.anchors.items ≡ map (λ ps. length (anchors_of ps)) start.log.streams

-- what the core stands on is this workload, by m workers, over n streams that begin so
pub record IsLoadOn (n m : ℕ) (mode : LogMode) (load : Workload) (start : Start) (l : Load) : Type 0 where
  pub procs : l.procs ≡ load.declarations.procs
  pub calls : l.calls ≡ load.calls
  pub mode_is : l.mode ≡ mode
  pub workers : l.workers ≡ m
  pub streams : l.streams ≡ n
  pub opening : IsOpeningOn load start l.opening

-- The state in which a run on this begins: the floor of each shard is that of the opening, and each worker waits on
-- exactly its calls, ascending.
pub record IsFirstState (l : Load) (opening : Core) : Type 0 where
  pub floor_low : (i : ℕ) → i < SHARDS → AtMost l.opening.floor (opening.shards i).floor
  pub floor_high : (i : ℕ) → i < SHARDS → AtMost (opening.shards i).floor l.opening.floor
  pub waiting : (w : ℕ) → w < l.workers → (opening.workers w).waiting ≡ calls_of l w

-- the acknowledgements, as they were told, are those of each worker in their order
abbrev pub AreAcks : Load → Core → List (ℕ × List ℕ) → Type 0
AreAcks l s acks = (w : ℕ) → filter (λ (a : ℕ × List ℕ). worker_of l.workers a.0 == w) acks ≡ map pair_of (s.acked w)

-- The stream has what it held first, and after it the bytes of all its items: those that were gathered, and those that
-- wait after them up to its end.
pub record IsGiven (l : Load) (K : List (Act Txn)) (s : Core) (j : ℕ) (first content : List ℕ) : Type 0 where
  pub waiting : List Item
  pub moved : Chain (length first) (s.streams j).moved (slice_index s.gathered j)
  pub rest : Chain (slice_index s.gathered j) waiting (slice_index s.ends j)
  pub records : records_in ((s.streams j).moved ++ waiting) ≡ records_of_stream j K
  pub anchors : anchors_in ((s.streams j).moved ++ waiting) ≡ (s.streams j).anchors
  pub named : NameTheirs (slice_index l.opening.anchors.items j) [] ((s.streams j).moved ++ waiting)
  pub bytes : List ℕ
  pub spelled : Spelled l (λ i. (s.streams i).anchors) ((s.streams j).moved ++ waiting) bytes
  pub is : content ≡ first ++ bytes

-- the run that this state has made, where these calls committed in this order, with these acknowledgements
pub record IsRunOf (n : ℕ) (l : Load) (K : List (Act Txn)) (s : Core) (load : Workload) (run : Run) : Type 0 where
  pub calls : run.calls ≡ map told_of (reported s.ends K)
  pub streams : length run.contents ≡ n
  pub given : (j : ℕ) (content : List ℕ) → slice_get run.contents j ≡ Some content → IsGiven l K s j (opened_at load run.start j) content
  pub acks : AreAcks l s run.acks

-- the tables that the step names are declared
abbrev pub step_named : Declarations → Step → Bool
step_named d (step.Get into table row) = has_table d table
step_named d (step.Put table row value) = has_table d table
step_named d (step.Del table row) = has_table d table
step_named d _ = true

-- The workload can be run and logged: its catalogue can be read again, its procedures take its calls, and calls and
-- steps name declared tables alone.
pub record IsSoundLoad (load : Workload) : Type 0 where
  pub short : length (declarations_text load.declarations) ≤ MAX_CATALOGUE
  pub bytes : (i : ℕ) → slice_index_or (declarations_text load.declarations) i 0 < 256
  pub read : declarations_of (declarations_text load.declarations) ≡ Ok load.declarations
  pub taken : (k : ℕ) (c : Call) → slice_get load.calls k ≡ Some c → takes load.declarations.procs c ≡ true
  pub named : (k : ℕ) (c : Call) → slice_get load.calls k ≡ Some c → is_of_table load.declarations c ≡ true
  pub steps : (i : ℕ) (p : Proc) → slice_get load.declarations.procs i ≡ Some p → list_all (step_named load.declarations) p.steps ≡ true

-- The core stands on this workload, and its state is one that events led to: the invariant of the machine holds of it, and
-- each call that writes waits for all that was there.
pub record IsCourse (n m : ℕ) (mode : LogMode) (load : Workload) (start : Start) (l : Load) (K : List (Act Txn)) (s : Core) : Type 0 where
  pub room : n ≤ most_streams (format_of l.mode)
  pub begins : IsStart (format_of l.mode) n load start
  pub load_is : IsLoadOn n m mode load start l
  pub sound : IsSoundLoad load
  pub inv : Invariant (setting_of l) K s
  pub waits : (t : Act Txn) → Member t K → updates t.effect ≡ true → AtMost start.log.elv t.call.place.dep
