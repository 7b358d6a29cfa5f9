-- The state in which a run begins.
use Rattle.std.specs.Prelude.{ℕ, ◌+◌, ◌≡◌, ◌≤◌, ◌<◌, Some, None, List, [], ◌∷◌, length, replicate, slice_get}
use Rattle.tau_base.specs.declared.limits.TheConstants.{MAX_WORKERS, SHARDS}
use Rattle.tau_base.specs.declared.value.Key.{Key}
use Rattle.tau_base.specs.declared.value.Value.{Value}
use Rattle.tau_base.specs.declared.value.Call.{Call}
use Rattle.tau_base.specs.declared.value.LogMode.{LogMode}
use Rattle.tau_base.specs.Database.{written}
use Rattle.tau_base.specs.Modes.{format_of, most_streams}
use Rattle.tau_base.specs.Shards.{shard_number}
use Rattle.tau_base.specs.Vectors.{AtMost}
use Rattle.tau_proc.specs.declared.proc.Proc.{Proc}
use Rattle.tau_record.specs.Format.{One}
use Rattle.tau_record.specs.Record.{spelling}
use Rattle.tau_record.specs.declared.entry.Entry.TheVariants.{Catalogue}
use Rattle.tau_text.specs.Kept.{AreCalls}
use Rattle.tau_model.specs.Tables.{db_of_rows}
use Rattle.tau_model.specs.History.{Numbered}
use Rattle.tau_machine.specs.Accounts.{in_worker}
use Rattle.tau_machine.specs.Runs.{IsOpening}
use Rattle.tau_shard.specs.Plain.{PlainShard}
use Rattle.tau_shard.specs.Read.{shard_of}
use Rattle.tau_core.specs.declared.opening.Opening.{Opening}
use Rattle.tau_core.specs.declared.state.Load.{Load}
use Rattle.tau_core.specs.Plain.{PlainSeat, PlainStream}
use Rattle.tau_core.specs.State.{Plain}
use Rattle.tau_core.specs.View.{setting_of, from_on, Hidden, core_of}
use Rattle.tau_core.specs.Stands.{Stands}

-- the parts of an opening fit one another: the ends cover the floor
pub record Fits (o : Opening) : Type 0 where
  pub floor : length o.floor ≡ length o.ends
  pub covered : AtMost o.floor o.ends
  pub anchors : length o.anchors.items ≡ length o.ends

-- what a run on this opening stands on
abbrev pub load_of : List Proc → List Call → LogMode → ℕ → Opening → Load
load_of procs calls mode workers o = record { procs = procs; calls = calls; mode = mode; workers = workers; streams = length o.ends; opening = o }

-- how long the record of a catalogue with this text is, which stands first in each stream
abbrev pub catalogue_size : List ℕ → ℕ
catalogue_size text = length (spelling One [] (Catalogue text))

-- no rows and no anchors, and each of so many streams ends here
pub record IsFresh (n end : ℕ) (o : Opening) : Type 0 where
  pub rows : o.rows ≡ []
  pub floor : o.floor ≡ replicate n 0
  pub ends : o.ends ≡ replicate n end
  pub anchors : o.anchors.items ≡ replicate n 0

-- a run can stand on it
pub record IsLoad (l : Load) : Type 0 where
  pub workers_low : 1 ≤ l.workers
  pub workers_high : l.workers ≤ MAX_WORKERS
  pub streams_low : 1 ≤ l.streams
  pub streams_high : l.streams ≤ most_streams (format_of l.mode)
  pub calls : AreCalls l.procs l.calls
  pub ends : length l.opening.ends ≡ l.streams
  pub fits : Fits l.opening

-- a worker that has begun no call
pub record IsSeatAtRest (streams : ℕ) (mode : LogMode) (w : ℕ) (s : PlainSeat) : Type 0 where
  pub next : s.next ≡ w + 1
  pub again : s.again ≡ None
  pub txn : s.txn ≡ record { worker = w; width = streams; mode = mode; hand = None }
  pub left : s.left ≡ []
  pub pieces : s.outbox.pieces ≡ []
  pub pending : s.pending.calls ≡ []

-- a stream in which nothing was placed
pub record IsStreamAtRest (s : PlainStream) : Type 0 where
  pub own : s.own.pieces ≡ []
  pub anchors : s.anchors ≡ []
  pub stop : s.stop ≡ None
  pub body : s.body ≡ []

-- a shard without entries, with this floor
pub record IsUnlocked (floor : List ℕ) (s : PlainShard) : Type 0 where
  pub low : AtMost floor (shard_of s).floor
  pub high : AtMost (shard_of s).floor floor
  pub narrow : length (shard_of s).floor ≤ length floor
  pub entries : (x : Key) → (shard_of s).entries x ≡ None

-- it gets one more row
pub record PutsRow (floor : List ℕ) (x : Key) (value : Value) (s s' : PlainShard) : Type 0 where
  pub unlocked : IsUnlocked floor s'
  pub rows : (shard_of s').rows ≡ written ((x, value) ∷ []) (shard_of s).rows

-- it has the rows that belong to it, and no entry
pub record IsShardAtRest (floor : List ℕ) (all : List (Key × Value)) (i : ℕ) (s : PlainShard) : Type 0 where
  pub unlocked : IsUnlocked floor s
  pub rows : (x : Key) → shard_number x ≡ i → (shard_of s).rows x ≡ db_of_rows all x

pub record AreShards (floor : List ℕ) (rows : List (Key × Value)) (shards : List PlainShard) : Type 0 where
  pub count : length shards ≡ SHARDS
  pub each : (i : ℕ) (s : PlainShard) → slice_get shards i ≡ Some s → IsShardAtRest floor rows i s

pub record AreSeats (workers streams : ℕ) (mode : LogMode) (seats : List PlainSeat) : Type 0 where
  pub count : length seats ≡ workers
  pub each : (w : ℕ) (s : PlainSeat) → slice_get seats w ≡ Some s → IsSeatAtRest streams mode w s

pub record AreStreams (count : ℕ) (streams : List PlainStream) : Type 0 where
  pub count_is : length streams ≡ count
  pub each : (j : ℕ) (s : PlainStream) → slice_get streams j ≡ Some s → IsStreamAtRest s

-- nothing has happened
pub record Opens (l : Load) (p : Plain) : Type 0 where
  pub load : p.load ≡ l
  pub sound : IsLoad l
  pub ends : p.ends ≡ l.opening.ends
  pub gathered : p.gathered ≡ l.opening.ends
  pub plv : p.plv ≡ l.opening.ends
  pub committed : p.committed ≡ []
  pub shards : AreShards l.opening.floor l.opening.rows p.shards
  pub seats : AreSeats l.workers l.streams l.mode p.seats
  pub streams : AreStreams l.streams p.streams

-- nothing is hidden
abbrev pub nothing : Hidden
nothing = record { posted = λ w. []; own = λ j. []; moved = λ j. []; acked = λ w. []; taken = λ j. [] }

-- the calls of a worker, ascending
abbrev pub calls_of : Load → ℕ → List Numbered
calls_of l w = from_on l.calls l.workers (w + 1)

-- the core of this run, in which nothing has happened: an opening of the machine, with an empty commit order; each worker waits on exactly its calls, and each shard has the opening's floor
pub record Opened (l : Load) (p : Plain) : Type 0 where
  pub load : p.load ≡ l
  pub opening : IsOpening (setting_of p.load) (core_of p nothing)
  pub stands : Stands p [] nothing
  pub waits : (k : ℕ) → 1 ≤ k → k ≤ length l.calls → (w : ℕ) × (1 ≤ in_worker k ((core_of p nothing).workers w))
  pub waiting : (w : ℕ) → w < l.workers → ((core_of p nothing).workers w).waiting ≡ calls_of l w
  pub floor_low : (i : ℕ) → i < SHARDS → AtMost l.opening.floor ((core_of p nothing).shards i).floor
  pub floor_high : (i : ℕ) → i < SHARDS → AtMost ((core_of p nothing).shards i).floor l.opening.floor

-- the core of this run on streams that hold the record of their catalogue alone
abbrev pub OpenedFresh : List Proc → List Call → LogMode → ℕ → ℕ → ℕ → Plain → Type 0
OpenedFresh procs calls mode workers n end p = (o : Opening) × IsFresh n end o × Opened (load_of procs calls mode workers o) p
