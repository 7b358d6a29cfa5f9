-- What the parts of a core lie in when the desk opens, and what its actors have then.
use Rattle.std.specs.Prelude.{ℕ, ◌+◌, ◌*◌, ◌<◌, ◌≡◌, ◌++◌, Option, Some, None, List, [], length, replicate, slice_get, slice_index}
use Rattle.tau_shard.specs.Plain.{PlainShard}
use Rattle.tau_core.specs.Plain.{PlainSeat, PlainStream}
use Rattle.tau_rule.specs.declared.part.Part.{Part}
use Rattle.tau_rule.specs.declared.part.Part.TheVariants as part
use Rattle.tau_desk.specs.Close.{IsShardOf, IsBoxOf}
use Rattle.tau_desk.specs.Shares.{PlainStock, PlainWork}

-- each of the second list is made of the one that stands there in the first
pub record EachOf {A B : Type 0} (R : ℕ → A → B → Type 0) (xs : List A) (ys : List B) : Type 0 where
  pub count : length ys ≡ length xs
  pub each : (k : ℕ) (y : B) → slice_get ys k ≡ Some y → (x : A) × (slice_get xs k ≡ Some x) × R k x y

-- no anchor was published
abbrev pub IsFirstAnchor : ℕ → Part → Type 0
IsFirstAnchor streams (part.Shard b) = ⊥
IsFirstAnchor streams (part.Outbox o p) = ⊥
IsFirstAnchor streams (part.Anchor number lv) = (number ≡ 0) × (lv.value ≡ replicate streams 0)

-- a slot has the shard; what the worker shares; the first anchor of the stream
abbrev pub HasShard : ℕ → PlainShard → Option Part → Type 0
HasShard k x o = (p : Part) × (o ≡ Some p) × IsShardOf p x

abbrev pub HasBox : ℕ → PlainSeat → Option Part → Type 0
HasBox k x o = (p : Part) × (o ≡ Some p) × IsBoxOf p x

abbrev pub HasAnchor : ℕ → ℕ → PlainStream → Option Part → Type 0
HasAnchor streams k x o = (p : Part) × (o ≡ Some p) × IsFirstAnchor streams p

-- what the worker has of its own, with room for so many committed calls; its outbox need have no room
abbrev pub work_of : PlainSeat → ℕ → PlainWork
work_of x room = record {
  next = x.next;
  again = x.again;
  txn = x.txn;
  start = x.start;
  left = x.left;
  left_room = x.room;
  committed = [];
  committed_room = room;
  spare = (0, 0);
  mark = None;
}

abbrev pub IsItsWork : ℕ → PlainSeat → Option PlainWork → Type 0
IsItsWork k x o = (room : ℕ) × (o ≡ Some (work_of x room))

-- no worker has begun a call
abbrev pub AreUnbegun : List (Option PlainWork) → Type 0
AreUnbegun works = (w : ℕ) (o : PlainWork) → slice_get works w ≡ Some (Some o) → (o.txn.hand ≡ None) × (o.mark ≡ None)

-- what the manager has of its own, where the stream ends there, with room for so many anchors
abbrev pub stock_at : PlainStream → ℕ → ℕ → PlainStock
stock_at x end room = record { anchors = x.anchors; room = room; own = x.own; gathered = end }

abbrev pub IsItsStock : List ℕ → ℕ → PlainStream → Option PlainStock → Type 0
IsItsStock ends k x o = (room : ℕ) × (o ≡ Some (stock_at x (slice_index ends k) room))

-- these words are the positions of a vector from this one on
abbrev pub AreWords : List ℕ → ℕ → List ℕ → Type 0
AreWords words from lv = (j : ℕ) → j < length lv → slice_index words (8 * (from + j)) ≡ slice_index lv j

-- so many turns that are free, and the numbers after them
pub record AreFirstWords (parts : ℕ) (ends plv words : List ℕ) : Type 0 where
  pub count : length words ≡ 8 * (parts + (length ends + length ends + 1))
  pub free : (k : ℕ) → k < parts → slice_index words (8 * k) ≡ 0
  pub ends_are : AreWords words parts ends
  pub plv_are : AreWords words (parts + length ends) plv
  pub stop : slice_index words (8 * (parts + (length ends + length ends))) ≡ 0

-- each part of a core lies in a slot, in the order of their numbers, and the workers and the managers have what is their own
pub record AreLaid (ends : List ℕ) (shards : List PlainShard) (seats : List PlainSeat) (streams : List PlainStream) (slots : List (Option Part)) (works : List (Option PlainWork)) (stocks : List (Option PlainStock)) : Type 0 where
  pub shard_slots : List (Option Part)
  pub box_slots : List (Option Part)
  pub anchor_slots : List (Option Part)
  pub have_shards : EachOf HasShard shards shard_slots
  pub have_boxes : EachOf HasBox seats box_slots
  pub have_anchors : EachOf (HasAnchor (length ends)) streams anchor_slots
  pub slots_are : slots ≡ (shard_slots ++ box_slots) ++ anchor_slots
  pub own_work : EachOf IsItsWork seats works
  pub own_stock : EachOf (IsItsStock ends) streams stocks
