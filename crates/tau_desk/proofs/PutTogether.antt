-- What the head has put together when the desk closes.
use Rattle.std.specs.Prelude.{ℕ, ◌+◌, ◌<◌, ◌≡◌, List, ◌++◌, Some, None, slice_get, slice_index}
use Rattle.tau_machine.specs.Reports.{in_turn}
use Rattle.tau_machine.specs.Worker.{Worker}
use Rattle.tau_outbox.specs.Pieces.{bytes_of}
use Rattle.tau_shard.specs.Plain.{PlainShard}
use Rattle.tau_core.specs.declared.state.Load.{Load}
use Rattle.tau_core.specs.Plain.{PlainSeat, PlainStream}
use Rattle.tau_core.specs.State.{Plain}
use Rattle.tau_core.specs.View.{seat_worker}
use Rattle.tau_core.specs.Parts.{AtRest}
use Rattle.tau_rule.specs.Role.{Managed, Working, Managing}
use Rattle.tau_rule.specs.Rule.{Now, IsPart, IsShare, outbox_part, manager_role, word_of}
use Rattle.tau_rule.specs.declared.part.Part.{Part}
use Rattle.tau_desk.specs.Close.{IsBoxOf, IsShardOf}

-- a worker: the outbox that was at home, and the worker's own part
pub record IsSeatOf (l : Load) (w : ℕ) (c : Now) (x : PlainSeat) : Type 0 where
  pub box : Part
  pub part : IsPart l (outbox_part w) box c
  pub of_box : IsBoxOf box x
  pub worker : Worker
  pub share : IsShare l w (Working worker) c
  pub own : worker ≡ seat_worker l x worker.committed

-- a stream: the manager's own part, with the bytes that it was given
pub record IsStreamOf (l : Load) (j : ℕ) (c : Now) (gathered : List ℕ) (taken : List ℕ) (x : PlainStream) : Type 0 where
  pub managed : Managed
  pub share : IsShare l (manager_role l j) (Managing managed) c
  pub anchors : x.anchors ≡ managed.anchors
  pub own : x.own.pieces ≡ managed.own
  pub going : x.stop ≡ None
  pub bytes : taken ++ x.body ≡ bytes_of managed.taken
  pub upto : slice_index gathered j ≡ managed.gathered

pub record PutTogether (q : Plain) (c : Now) (taken : ℕ → List ℕ) : Type 0 where
  pub rests : AtRest q
  pub shards : (i : ℕ) (x : PlainShard) → slice_get q.shards i ≡ Some x → (y : Part) × IsPart q.load i y c × IsShardOf y x
  pub seats : (w : ℕ) (x : PlainSeat) → slice_get q.seats w ≡ Some x → IsSeatOf q.load w c x
  pub streams : (j : ℕ) (x : PlainStream) → slice_get q.streams j ≡ Some x → IsStreamOf q.load j c q.gathered (taken j) x
  -- the calls of each worker, worker after worker
  pub committed : q.committed ≡ in_turn q.load.workers (λ w. (c.core.workers w).committed)
  pub ends : (j : ℕ) → j < q.load.streams → slice_index q.ends j ≡ word_of q.load j c
  pub plv : (j : ℕ) → j < q.load.streams → slice_index q.plv j ≡ word_of q.load (q.load.streams + j) c
