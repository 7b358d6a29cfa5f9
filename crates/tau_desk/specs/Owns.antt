-- The laws of own calls: what was taken agrees with what the seat knows.
use Rattle.std.specs.Prelude.{ℕ, ◌==◌, ◌≡◌, ◌≤◌, ◌⊎◌, true, Some, List, ◌++◌, map, slice_index}
use Rattle.std.specs.List.{filter}
use Rattle.tau_base.specs.declared.value.Key.{Key}
use Rattle.tau_base.specs.Database.{written}
use Rattle.tau_base.specs.Shards.{shard_number}
use Rattle.tau_base.specs.Vectors.{AtMost}
use Rattle.tau_proc.specs.Effect.{has_key}
use Rattle.tau_model.specs.declared.committed.Committed.{Committed}
use Rattle.tau_model.specs.History.{Act, Member, Reordered, updates}
use Rattle.tau_machine.specs.Hands.{Hand, Holds, Txn, act_in, committed_of, lv_of, mode_of}
use Rattle.tau_machine.specs.Pieces.{placed_in}
use Rattle.tau_shard.specs.Shard.{Shard, entry_in}
use Rattle.tau_machine.specs.State.{Record, hand_of, ticket_of}
use Rattle.tau_machine.specs.Worker.{Worker}
use Rattle.tau_machine.specs.Accounts.{joined_list}
use Rattle.tau_core.specs.State.{Plain}
use Rattle.tau_core.specs.View.{setting_of}
use Rattle.tau_rule.specs.Role.{Role, Working}
use Rattle.tau_rule.specs.Knows.{Knows}
use Rattle.tau_rule.specs.Rule.{has}
use Rattle.tau_rule.specs.Steps.{Agrees, shard_in}
use Rattle.tau_rule.specs.declared.part.Part.{Part}

-- the committed calls of a worker of the seat are those of the state, in its order
abbrev pub OwnCommitted : Type 0
OwnCommitted = (origin : Plain) (v : Knows) (k : ℕ) (taken : Part) (a : Agrees origin v k taken) (w : ℕ) (role : Role) (worker : Worker) → has w v ≡ Some role → role.share ≡ Working worker →
    worker.committed ≡ map committed_of (filter (λ t. t.call.worker == w) a.meets.reached.joined)

-- a key that the call in hand holds is held there by that worker, in that mode, and no other key is
abbrev pub OwnKeys : Type 0
OwnKeys = (origin : Plain) (v : Knows) (k : ℕ) (taken : Part) (shard : Shard) → Agrees origin v k taken → shard_in taken ≡ Some shard → (w : ℕ) (role : Role) (worker : Worker) (hand : Hand) → has w v ≡ Some role → role.share ≡ Working worker → worker.hand ≡ Some hand →
    (x : Key) → k ≡ shard_number x → (entry_in shard x).holders w ≡ mode_of x hand.held

-- the write vector of a key that a call wrote and freed covers the call's; where there is no entry, the floor does
abbrev pub OwnVectors : Type 0
OwnVectors = (origin : Plain) (v : Knows) (k : ℕ) (taken : Part) (shard : Shard) (a : Agrees origin v k taken) → shard_in taken ≡ Some shard → (t : Act Txn) → Member t a.meets.reached.joined →
    (x : Key) → k ≡ shard_number x → has_key x t.effect.writes ≡ true → Holds (hand_of a.state.core) t x ⊎ AtMost (lv_of t) (entry_in shard x).write_lv

-- where that vector is at most the call's, the row is what the call wrote
abbrev pub OwnRows : Type 0
OwnRows = (origin : Plain) (v : Knows) (k : ℕ) (taken : Part) (shard : Shard) (a : Agrees origin v k taken) → shard_in taken ≡ Some shard → (t : Act Txn) → Member t a.meets.reached.joined →
    (x : Key) → k ≡ shard_number x → has_key x t.effect.writes ≡ true → (Holds (hand_of a.state.core) t x → ⊥) → AtMost (entry_in shard x).write_lv (lv_of t) →
    shard.rows x ≡ written t.effect.writes (setting_of origin.load).base x

-- the record of a committed call is in flight, stands in the outbox of its worker, or is gathered
abbrev pub OwnPieces : Type 0
OwnPieces = (origin : Plain) (v : Knows) (k : ℕ) (taken : Part) (a : Agrees origin v k taken) (t : Act Txn) → Member t a.meets.reached.joined → updates t.effect ≡ true →
    (placed_in (hand_of a.state.core t.call.worker) ≡ Some t) ⊎ (Member (Record t) (a.state.core.outboxes t.call.worker).posted ⊎ (t.call.place.past ≤ slice_index a.state.core.gathered t.call.place.stream))

-- the calls of a worker that have ended are pending or acknowledged, each once
abbrev pub OwnCalls : Type 0
OwnCalls = (origin : Plain) (v : Knows) (k : ℕ) (taken : Part) (a : Agrees origin v k taken) (w : ℕ) (role : Role) (worker : Worker) → has w v ≡ Some role → role.share ≡ Working worker →
    (ended : List Committed) × (worker.committed ≡ ended ++ joined_list (act_in worker.hand)) × Reordered (map ticket_of ended) ((a.state.core.outboxes w).pending ++ a.state.core.acked w)
