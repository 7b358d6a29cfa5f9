-- Runs of the core.
use Rattle.std.specs.Prelude.{ℕ, ◌≤◌, ◌<◌, ◌≡◌, None, Some, List, [], ◌∷◌, ◌++◌, length}
use Rattle.tau_base.specs.declared.value.Key.{Key}
use Rattle.tau_base.specs.Vectors.{AtMost}
use Rattle.tau_model.specs.History.{Numbered, Act, Member}
use Rattle.tau_machine.specs.Hands.{Txn}
use Rattle.tau_machine.specs.State.{Setting, Core, shard_at}
use Rattle.tau_machine.specs.Accounts.{in_worker}
use Rattle.tau_machine.specs.Events.{Event, Leads}

-- a state in which nothing has happened: no key is locked, no call has begun, nothing is posted, and what the streams have is persisted
pub record IsOpening (set : Setting) (s : Core) : Type 0 where
  pub count : length set.opening ≡ set.width
  pub small : (w : ℕ) → set.stream_of w < set.width
  pub ends : s.ends ≡ set.opening
  pub gathered : s.gathered ≡ set.opening
  pub plv : s.plv ≡ set.opening
  pub rows : (x : Key) → (shard_at set s x).rows x ≡ set.base x
  pub entries : (i : ℕ) (x : Key) → (s.shards i).entries x ≡ None
  pub floors : (i : ℕ) → AtMost (s.shards i).floor set.opening
  pub narrow : (i : ℕ) → length (s.shards i).floor ≤ set.width
  pub hands : (w : ℕ) → (s.workers w).hand ≡ None
  pub left : (w : ℕ) → (s.workers w).left ≡ []
  pub committed : (w : ℕ) → (s.workers w).committed ≡ []
  pub pending : (w : ℕ) → (s.outboxes w).pending ≡ []
  pub posted : (w : ℕ) → (s.outboxes w).posted ≡ []
  pub own : (j : ℕ) → (s.streams j).posted ≡ []
  pub moved : (j : ℕ) → (s.streams j).moved ≡ []
  pub anchors : (j : ℕ) → (s.streams j).anchors ≡ []
  pub acked : (w : ℕ) → s.acked w ≡ []
  pub stops : (j : ℕ) → (s.streams j).stop ≡ None
  -- the calls that wait have their numbers, each number once, at the worker whose it is
  pub calls : (w : ℕ) (c : Numbered) → Member c (s.workers w).waiting → set.call_of c.number ≡ Some c.call
  pub once : (w n : ℕ) → in_worker n (s.workers w) ≤ 1
  pub whose : (w n : ℕ) → 1 ≤ in_worker n (s.workers w) → set.worker_of n ≡ w

-- the events lead from s to s' one after another, and these calls join the committed ones by them, in this order
abbrev pub LeadOn : Setting → List Event → Core → Core → List (Act Txn) → Type 0
LeadOn set [] s s' new = (s' ≡ s) × (new ≡ [])
LeadOn set (e ∷ es) s s' new = (m : Core) × (first rest : List (Act Txn)) × Leads set e s m first × LeadOn set es m s' rest × (new ≡ first ++ rest)

-- a run of the core: these events lead from this opening to s, and K is the commit order
pub record Run (set : Setting) (opening : Core) (events : List Event) (K : List (Act Txn)) (s : Core) : Type 0 where
  pub opens : IsOpening set opening
  pub leads : LeadOn set events opening s K
