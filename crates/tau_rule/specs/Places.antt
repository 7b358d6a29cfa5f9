-- A call gets its place.
use Rattle.std.specs.Prelude.{ℕ, ◌+◌, ◌^◌, ◌<◌, ◌≤◌, ◌≡◌, ◌⊎◌, true, List, [], ◌∷◌, ◌++◌, length, replicate, Option, Some, None}
use Rattle.tau_base.specs.Vectors.{join}
use Rattle.tau_proc.specs.Effect.{Effect}
use Rattle.tau_model.specs.History.{updating}
use Rattle.tau_machine.specs.Hands.{Hand, Running, Placed, committed_of}
use Rattle.tau_machine.specs.Stage.{Ends, stage}
use Rattle.tau_machine.specs.Worker.{Worker, begun, hand_joined}
use Rattle.tau_machine.specs.Events.{lock_next}
use Rattle.atomic_table.specs.Table.{Step}
use Rattle.tau_txn.specs.Txn.{PlainTxn, hand_in, bytes_in, anchor_in}
use Rattle.tau_txn.specs.Next.{act_at}
use Rattle.tau_core.specs.State.{Plain}
use Rattle.tau_core.specs.declared.state.Load.{Load}
use Rattle.tau_core.specs.View.{setting_of}
use Rattle.tau_rule.specs.Role.{Working, Role}
use Rattle.tau_rule.specs.Knows.{Knows}
use Rattle.tau_rule.specs.Rule.{LONGEST}
use Rattle.tau_rule.specs.Steps.{Sat, IsWorker, first_role, worker_in, working}
use Rattle.tau_rule.specs.declared.part.Part.{Part}

abbrev pub placed_by : Load → Worker → PlainTxn → ℕ → Option Hand → Worker
placed_by l wk t start None = wk
placed_by l wk t start (Some h) = record wk { hand = Some (hand_joined h (Placed (act_at l.procs t start h)) h.dep); committed = wk.committed ++ committed_of (act_at l.procs t start h) ∷ [] }

-- the worker whose call in hand gets its place there
abbrev pub placed_worker : Load → Worker → PlainTxn → ℕ → Worker
placed_worker l wk t start = placed_by l (begun l.streams wk) t start (hand_in l.procs t)

-- what its seat knows then
abbrev pub placed : Load → Knows → PlainTxn → ℕ → Knows
placed l v t start = record v { roles = ((first_role v.roles).0, working (first_role v.roles).1 (placed_worker l (worker_in v) t start)) ∷ [] }

-- the call in hand is that of this worker's view, above the anchor that the seat read last or above none, and is to have its place
pub record IsToPlace (origin : Plain) (w : ℕ) (m : Sat) (t : PlainTxn) : Type 0 where
  pub role : Role
  pub worker : Worker
  pub seat : IsWorker origin m w role
  pub share : role.share ≡ Working worker
  pub there : w < origin.load.workers
  pub number : t.worker ≡ w
  pub width : t.width ≡ origin.load.streams
  pub hand : Hand
  pub effect : Effect
  pub base : List ℕ
  pub is : (begun origin.load.streams worker).hand ≡ Some hand
  pub phase : hand.phase ≡ Running
  pub ended : stage origin.load.procs hand.call.call hand.seen ≡ Ends effect
  pub locked : lock_next (setting_of origin.load) hand ≡ None
  pub updates : updating effect.writes ≡ true
  pub named : ((anchor_in t ≡ 0) × (base ≡ replicate origin.load.streams 0)) ⊎ ((anchor_in t ≡ m.0.read.0) × (base ≡ m.0.read.1))
  pub shown : hand_in origin.load.procs t ≡ Some (record hand { dep = join hand.dep base })
  pub size_low : 1 ≤ length (bytes_in t)
  pub size_high : length (bytes_in t) ≤ LONGEST

-- the seat knows what was told of the start, and the record ends within the limit of positions
abbrev pub got_place : (ℕ → Knows) → Step (Option Part) → Sat → ℕ → Sat → Type 0
got_place v st m found m' = (m' ≡ (v found, m.1)) × (found + st.first < 2 ^ 62)
