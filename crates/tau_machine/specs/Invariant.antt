-- The invariant of the core.
use Rattle.std.specs.Prelude.{ℕ, ◌<◌, ◌≤◌, ◌==◌, ◌≡◌, true, false, Some, List, length, map, slice_index}
use Rattle.std.specs.List.{filter}
use Rattle.tau_base.specs.declared.value.Key.{Key}
use Rattle.tau_base.specs.Vectors.{AtMost}
use Rattle.tau_model.specs.History.{Act, Member, updates}
use Rattle.tau_machine.specs.Hands.{Txn, committed_of, unplaced_at, held_in}
use Rattle.tau_shard.specs.Shard.{entry_in}
use Rattle.tau_machine.specs.State.{Setting, Ticket, Core, ticket, hand_of, shard_at, sight}
use Rattle.tau_machine.specs.Good.{Good}
use Rattle.tau_machine.specs.Pieces.{Pieces}
use Rattle.tau_machine.specs.Accounts.{Accounts}
use Rattle.tau_machine.specs.Shapes.{Shapes}

-- what keys, locks, positions and the lists of committed calls say of one another
pub record CoreGood (set : Setting) (K : List (Act Txn)) (s : Core) : Type 0 where
  pub good : Good set.procs set.width set.base K (hand_of s) (sight set s)
  pub locks : (w : ℕ) (x : Key) → (entry_in (shard_at set s x) x).holders w ≡ held_in (hand_of s w) x
  pub small : (w : ℕ) → set.stream_of w < set.width
  pub floors : (i : ℕ) → AtMost (s.shards i).floor s.plv
  pub persisted : AtMost s.plv s.gathered
  pub gathered : AtMost s.gathered s.ends
  pub count_gathered : length s.gathered ≡ set.width
  pub count_plv : length s.plv ≡ set.width
  pub members : (w : ℕ) → (s.workers w).committed ≡ map committed_of (filter (λ t. t.call.worker == w) K)
  pub streams : (t : Act Txn) → Member t K → updates t.effect ≡ true → t.call.place.stream ≡ set.stream_of t.call.worker
  -- a read-only call has no place, and its dep alone counts
  pub unplaced : (t : Act Txn) → Member t K → updates t.effect ≡ false → t.call.place ≡ unplaced_at t.call.place.dep
  pub anchors : (j : ℕ) (a : List ℕ) → Member a (s.streams j).anchors → AtMost a s.plv
  -- who is pending or acknowledged has committed; and PLV covers who is acknowledged
  pub pending : (w : ℕ) (k : Ticket) → Member k (s.outboxes w).pending → (t : Act Txn) × Member t K × (ticket t ≡ k)
  pub acked : (w : ℕ) (k : Ticket) → Member k (s.acked w) → AtMost k.lv s.plv × ((t : Act Txn) × Member t K × (ticket t ≡ k))

-- a stopped stream was stopped between its persisted position and its gathered end, and both stay
abbrev pub Stops : Core → Type 0
Stops s = (j c : ℕ) → (s.streams j).stop ≡ Some c → (slice_index s.plv j ≤ c) × (c ≤ slice_index s.gathered j)

-- what the parts of a state agree on
pub record Agreement (set : Setting) (K : List (Act Txn)) (s : Core) : Type 0 where
  pub good : CoreGood set K s
  pub pieces : Pieces set K s
  pub accounts : Accounts set s
  pub stops : Stops s

-- what holds of each state, with the calls committed so far in the order in which they committed
pub record Invariant (set : Setting) (K : List (Act Txn)) (s : Core) : Type 0 where
  pub agrees : Agreement set K s
  pub shapes : Shapes set K s
