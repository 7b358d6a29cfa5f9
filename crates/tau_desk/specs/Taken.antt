-- The slots of a table that is closed, of which the first so many were emptied.
use Rattle.std.specs.Prelude.{ℕ, ◌+◌, ◌*◌, ◌^◌, ◌<◌, ◌≤◌, ◌≡◌, Bool, true, false, Option, Some, None, List, [], length, slice_get, slice_index, slice_index_or}
use mathlib.Core.Option.{some}
use lib.ListN.{get_elem?}
use Rattle.tau_base.specs.declared.limits.TheConstants.{SHARDS}
use Rattle.tau_model.specs.declared.committed.Committed.{Committed}
use Rattle.tau_machine.specs.Reports.{in_turn}
use Rattle.tau_shard.specs.Plain.{PlainShard}
use Rattle.tau_txn.specs.Txn.{has_joined, held_in}
use Rattle.tau_core.specs.declared.state.Load.{Load}
use Rattle.tau_core.specs.Plain.{PlainSeat, PlainStream}
use Rattle.tau_core.specs.State.{Plain}
use Rattle.tau_rule.specs.declared.part.Part.{Part}
use Rattle.tau_desk.specs.declared.mark.Mark.{Mark}
use Rattle.tau_desk.specs.Close.{IsBoxOf, IsShardOf}
use Rattle.tau_desk.specs.Shares.{PlainStock, PlainWork, unbegun}

-- of so many slots the first k were emptied, and the others were not
pub record IsTakenTo (k : ℕ) (filled : List Bool) (count : ℕ) : Type 0 where
  pub full : (i : ℕ) → k ≤ i → i < count → slice_index_or filled i false ≡ true
  pub empty : (i : ℕ) → i < k → slice_index_or filled i false ≡ false

-- this slot has a shard
abbrev pub IsShardAt : List (Option Part) → ℕ → PlainShard → Type 0
IsShardAt xs k x = (p : Part) × (get_elem? xs k ≡ some (Some p)) × IsShardOf p x

abbrev pub HasShardAt : List (Option Part) → ℕ → Type 0
HasShardAt xs k = (x : PlainShard) × IsShardAt xs k x

-- a call in hand that has made no event comes next again
abbrev pub settled : PlainWork → Option Mark → PlainWork
settled o None = o
settled o (Some k) = unbegun o k

-- a stream of which nothing was stopped, and of which no bytes are kept
pub record IsStreamFrom (o : PlainStock) (x : PlainStream) : Type 0 where
  pub own : x.own ≡ o.own
  pub anchors : x.anchors ≡ o.anchors
  pub going : x.stop ≡ None
  pub body : x.body ≡ []

-- it is made of what the manager has, and so is where it is gathered
pub record IsStreamAt (stocks : List (Option PlainStock)) (gathered : List ℕ) (j : ℕ) (x : PlainStream) : Type 0 where
  pub stock : PlainStock
  pub there : slice_get stocks j ≡ Some (Some stock)
  pub stream : IsStreamFrom stock x
  pub upto : slice_index gathered j ≡ stock.gathered

-- a worker with the outbox that was at home and what it has of its own, its committed calls aside
pub record IsSeatFrom (o : PlainWork) (x : PlainSeat) : Type 0 where
  pub next : x.next ≡ o.next
  pub again : x.again ≡ o.again
  pub txn : x.txn ≡ o.txn
  pub start : x.start ≡ o.start
  pub left : x.left ≡ o.left

pub record IsSeatAt (xs : List (Option Part)) (works : List (Option PlainWork)) (w : ℕ) (x : PlainSeat) : Type 0 where
  pub box : Part
  pub home : get_elem? xs (SHARDS + w) ≡ some (Some box)
  pub of_box : IsBoxOf box x
  pub work : PlainWork
  pub there : slice_get works w ≡ Some (Some work)
  pub seat : IsSeatFrom (settled work work.mark) x

-- the committed calls of a worker that is there
abbrev pub calls_had : Option (Option PlainWork) → List Committed
calls_had None = []
calls_had (Some None) = []
calls_had (Some (Some o)) = o.committed

abbrev pub calls_at : List (Option PlainWork) → ℕ → List Committed
calls_at had w = calls_had (slice_get had w)

-- a core can be made of these slots and words, and of what the actors have: each part is at home and each actor is there, no worker's call in hand holds a key or has committed, and the positions and the
-- number of committed calls are within their limits
pub record CanBeCore (l : Load) (parts : ℕ) (slots : List (Option Part)) (words : List ℕ) (had : List (Option PlainWork)) (kept : List (Option PlainStock)) : Type 0 where
  pub shards : (k : ℕ) → k < SHARDS → HasShardAt slots k
  pub boxes : (w : ℕ) → w < l.workers → (p : Part) × (x : PlainSeat) × (get_elem? slots (SHARDS + w) ≡ some (Some p)) × IsBoxOf p x
  pub works : (w : ℕ) → w < l.workers → (o : PlainWork) × (slice_get had w ≡ Some (Some o)) × (held_in o.txn ≡ []) × (has_joined o.txn ≡ false)
  pub stocks : (j : ℕ) → j < l.streams → (o : PlainStock) × (slice_get kept j ≡ Some (Some o)) × (o.gathered < 2 ^ 62)
  pub ends : (j : ℕ) → j < l.streams → slice_index words (8 * (parts + j)) < 2 ^ 62
  pub plv : (j : ℕ) → j < l.streams → slice_index words (8 * (parts + l.streams + j)) < 2 ^ 62
  pub few : length (in_turn l.workers (calls_at had)) ≤ length l.calls

-- these are parts of a core that were made of them
pub record IsMadeOf (l : Load) (parts : ℕ) (slots : List (Option Part)) (words : List ℕ) (had : List (Option PlainWork)) (kept : List (Option PlainStock)) (q : Plain) : Type 0 where
  pub load : q.load ≡ l
  pub shard_count : length q.shards ≡ SHARDS
  pub shards : (k : ℕ) (x : PlainShard) → slice_get q.shards k ≡ Some x → IsShardAt slots k x
  pub seat_count : length q.seats ≡ l.workers
  pub seats : (w : ℕ) (x : PlainSeat) → slice_get q.seats w ≡ Some x → IsSeatAt slots had w x
  pub stream_count : length q.streams ≡ l.streams
  pub streams : (j : ℕ) (x : PlainStream) → slice_get q.streams j ≡ Some x → IsStreamAt kept q.gathered j x
  -- of each worker in its order, worker after worker
  pub committed : q.committed ≡ in_turn l.workers (calls_at had)
  pub gathered_count : length q.gathered ≡ l.streams
  pub ends_count : length q.ends ≡ l.streams
  pub ends : (j : ℕ) → j < l.streams → slice_index q.ends j ≡ slice_index words (8 * (parts + j))
  pub plv_count : length q.plv ≡ l.streams
  pub plv : (j : ℕ) → j < l.streams → slice_index q.plv j ≡ slice_index words (8 * (parts + l.streams + j))
