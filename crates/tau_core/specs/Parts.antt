-- The parts of a core, apart: what they show, and the core that they make when they are at rest.
use Rattle.std.specs.Prelude.{ℕ, ◌+◌, ◌≤◌, ◌<◌, ◌≡◌, IsTrue, false, Some, None, List, [], ◌++◌, length, map, slice_get}
use Rattle.tau_base.specs.declared.limits.TheConstants.{MAX_CALLS, MAX_WORKERS, SHARDS}
use Rattle.tau_base.specs.Modes.{format_of, most_streams}
use Rattle.tau_base.specs.declared.value.Call.{Call}
use Rattle.tau_base.specs.declared.value.Value.TheVariants.{Absent}
use Rattle.tau_proc.specs.Takes.{takes}
use Rattle.tau_model.specs.History.{Act}
use Rattle.tau_machine.specs.Hands.{Txn}
use Rattle.tau_machine.specs.Invariant.{Invariant}
use Rattle.tau_shard.specs.Shard as machine
use Rattle.tau_machine.specs.Worker.{Worker}
use Rattle.tau_machine.specs.State.{Core}
use Rattle.tau_shard.specs.Plain.{PlainShard}
use Rattle.tau_shard.specs.Read.{shard_of}
use Rattle.tau_txn.specs.Txn.{held_in, has_joined}
use Rattle.tau_core.specs.declared.state.Load.{Load}
use Rattle.tau_core.specs.Plain.{PlainSeat, PlainStream}
use Rattle.tau_core.specs.State.{Plain}
use Rattle.tau_core.specs.View.{setting_of, call_of, Hidden, committed_by, seat_worker, tickets, core_of}
use Rattle.tau_core.specs.Pieces.{IsPieceOf, Paired, Spelled}
use Rattle.tau_core.specs.Stands.{AreNumbers, IsNumber, SoundStream, Stands}

-- the call in hand is let go, as if it had never begun
abbrev pub without_hand : PlainSeat → PlainSeat
without_hand s = record s { txn = record s.txn { hand = None } }

abbrev pub without_hands : Plain → Plain
without_hands p = record p { seats = map without_hand p.seats }

-- the same of the machine
abbrev pub idle : Worker → Worker
idle wk = record wk { hand = None }

abbrev pub all_idle : Core → Core
all_idle s = record s { workers = λ w. idle (s.workers w) }

-- a shard and a worker that are not there
abbrev pub no_shard : machine.Shard
no_shard = record { rows = λ x. Absent; entries = λ x. None; floor = [] }

abbrev pub nobody : Worker
nobody = record { waiting = []; hand = None; left = []; committed = [] }

abbrev pub anchors_of : Core → ℕ → List (List ℕ)
anchors_of s j = (s.streams j).anchors

-- a worker at rest: its call in hand, if there is one, holds no key and has not committed
pub record RestsSeat (l : Load) (w : ℕ) (s : PlainSeat) : Type 0 where
  pub worker : s.txn.worker ≡ w
  pub width : s.txn.width ≡ l.streams
  pub mode : s.txn.mode ≡ l.mode
  pub joined : has_joined s.txn ≡ false
  pub held : held_in s.txn ≡ []
  pub low : 1 ≤ s.next
  pub high : s.next ≤ length l.calls + l.workers
  pub again : (n : ℕ) → s.again ≡ Some n → IsNumber l n
  pub left : AreNumbers l s.left

-- the parts by themselves
pub record AtRest (p : Plain) : Type 0 where
  pub workers_low : 1 ≤ p.load.workers
  pub workers_high : p.load.workers ≤ MAX_WORKERS
  pub streams_low : 1 ≤ p.load.streams
  pub streams_high : p.load.streams ≤ most_streams (format_of p.load.mode)
  pub few : length p.load.calls ≤ MAX_CALLS
  pub takes : (n : ℕ) (c : Call) → call_of p.load.calls n ≡ Some c → IsTrue (takes p.load.procs c)
  pub opened : length p.load.opening.anchors.items ≡ p.load.streams
  pub shards : length p.shards ≡ SHARDS
  pub seats : length p.seats ≡ p.load.workers
  pub streams : length p.streams ≡ p.load.streams
  pub ends : length p.ends ≡ p.load.streams
  pub gathered : length p.gathered ≡ p.load.streams
  pub plv : length p.plv ≡ p.load.streams
  pub seat : (w : ℕ) (s : PlainSeat) → slice_get p.seats w ≡ Some s → RestsSeat p.load w s
  pub wide : (j : ℕ) (s : PlainStream) → slice_get p.streams j ≡ Some s → SoundStream p.load s

-- the parts are those of this state of the machine, each of them by itself; of each stream these bytes were given away
pub record Shows (p : Plain) (s : Core) (taken : ℕ → List ℕ) : Type 0 where
  pub shards : (i : ℕ) (b : PlainShard) → slice_get p.shards i ≡ Some b → s.shards i ≡ shard_of b
  pub workers : (w : ℕ) (x : PlainSeat) → slice_get p.seats w ≡ Some x → s.workers w ≡ seat_worker p.load x (s.workers w).committed
  -- the committed calls of each worker are in its order
  pub committed : (w : ℕ) → w < p.load.workers → committed_by p.load.workers w p.committed ≡ (s.workers w).committed
  pub posted : (w : ℕ) (x : PlainSeat) → slice_get p.seats w ≡ Some x → Paired (IsPieceOf p.load (anchors_of s)) x.outbox.pieces (s.outboxes w).posted
  pub pending : (w : ℕ) (x : PlainSeat) → slice_get p.seats w ≡ Some x → (s.outboxes w).pending ≡ tickets x.pending.calls
  pub own : (j : ℕ) (x : PlainStream) → slice_get p.streams j ≡ Some x → Paired (IsPieceOf p.load (anchors_of s)) x.own.pieces (s.streams j).posted
  pub anchors : (j : ℕ) (x : PlainStream) → slice_get p.streams j ≡ Some x → (s.streams j).anchors ≡ x.anchors
  pub stops : (j : ℕ) (x : PlainStream) → slice_get p.streams j ≡ Some x → (s.streams j).stop ≡ x.stop
  pub moved : (j : ℕ) (x : PlainStream) → slice_get p.streams j ≡ Some x → Spelled p.load (anchors_of s) (s.streams j).moved (taken j ++ x.body)
  pub ends : s.ends ≡ p.ends
  pub gathered : s.gathered ≡ p.gathered
  pub plv : s.plv ≡ p.plv
  -- there are no others
  pub no_shards : (i : ℕ) → SHARDS ≤ i → s.shards i ≡ no_shard
  pub no_workers : (w : ℕ) → p.load.workers ≤ w → s.workers w ≡ nobody
  pub no_anchors : (j : ℕ) → p.load.streams ≤ j → (s.streams j).anchors ≡ []
  pub no_stops : (j : ℕ) → p.load.streams ≤ j → (s.streams j).stop ≡ None

-- what the parts do not hold
abbrev pub hidden_of : Core → (ℕ → List ℕ) → Hidden
hidden_of s taken = record {
  posted = λ w. (s.outboxes w).posted;
  own = λ j. (s.streams j).posted;
  moved = λ j. (s.streams j).moved;
  acked = s.acked;
  taken = taken;
}

-- the parts show some state that has the invariant of the machine
pub record AreShown (p : Plain) : Type 0 where
  pub order : List (Act Txn)
  pub state : Core
  pub taken : ℕ → List ℕ
  pub inv : Invariant (setting_of p.load) order state
  pub shows : Shows p state taken

-- the core is that of the state that the parts showed, where each call in hand is let go
pub record IsOfParts (p p' : Plain) : Type 0 where
  pub after : p' ≡ without_hands p
  pub stands : (K : List (Act Txn)) (s : Core) (taken : ℕ → List ℕ) → Invariant (setting_of p.load) K s → Shows p s taken → Stands p' K (hidden_of s taken)
  pub core : (K : List (Act Txn)) (s : Core) (taken : ℕ → List ℕ) → Invariant (setting_of p.load) K s → Shows p s taken → core_of p' (hidden_of s taken) ≡ all_idle s
