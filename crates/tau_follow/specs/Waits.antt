-- Open records that wait for a stream to be followed further.
use Rattle.std.specs.Prelude.{ℕ, ◌≡◌, ◌≤◌, ◌⊎◌, true, List, slice_get, slice_set, slice_index, Some}
use Rattle.std.specs.List.{Contains}
use Rattle.tau_record.specs.declared.entry.Placed.{Placed}
use Rattle.tau_follow.specs.Applying.{dep_of, is_open_stage}
use Rattle.tau_follow.specs.Queue.{Wait, spot_at, spot_of, wait_at, AreAbove}
use Rattle.tau_follow.specs.declared.spot.Spot.{Spot}
use Rattle.tau_follow.specs.declared.stage.Stage.{Stage}
use Rattle.tau_follow.specs.declared.waits.Waits.{Waits}

-- in each queue, for more than how far its stream is followed
abbrev pub AreAllAbove : List ℕ → List (List Wait) → Type 0
AreAllAbove reached queues = (k : ℕ) (queue : List Wait) → slice_get queues k ≡ Some queue → AreAbove (slice_index reached k) queue

-- the record waits in the queue of a stream for no more than its vector asks for there
pub record IsQueued (streams : List (List Placed)) (queues : List (List Wait)) (j i : ℕ) : Type 0 where
  pub k : ℕ
  pub queue : List Wait
  pub wait : Wait
  pub there : slice_get queues k ≡ Some queue
  pub among : Contains queue wait
  pub of : spot_of wait ≡ spot_at j i
  pub asked : (ps : List Placed) (p : Placed) → slice_get streams j ≡ Some ps → slice_get ps i ≡ Some p → wait.0.0 ≤ slice_index (dep_of p.entry) k

-- each open record is one of those to look at, or waits
abbrev pub AreFound : List (List Placed) → List (List Stage) → List Spot → List (List Wait) → Type 0
AreFound streams stages looked queues = (j i : ℕ) (ss : List Stage) (s : Stage) → slice_get stages j ≡ Some ss → slice_get ss i ≡ Some s → is_open_stage s ≡ true → Contains looked (spot_at j i) ⊎ IsQueued streams queues j i

-- those that waited wait still, or are to be looked at
pub record Moves (looked : List Spot) (queue : List Wait) (looked_now : List Spot) (queue_now : List Wait) : Type 0 where
  pub kept : (x : Spot) → Contains looked x → Contains looked_now x
  pub moved : (w : Wait) → Contains queue w → Contains queue_now w ⊎ Contains looked_now (spot_of w)

-- a record waits in one queue more
pub record Queues (queues : List (List Wait)) (k at : ℕ) (spot : Spot) (now : List (List Wait)) : Type 0 where
  pub queue : List Wait
  pub longer : List Wait
  pub there : slice_get queues k ≡ Some queue
  pub now_is : now ≡ slice_set queues k longer
  pub kept : (w : Wait) → Contains queue w → Contains longer w
  pub added : Contains longer (wait_at at spot)

-- all open records are known, if they are not lost
abbrev pub AreKept : List (List Placed) → List (List Stage) → Waits → Type 0
AreKept streams stages w = (w.lost ≡ true) ⊎ AreFound streams stages w.looked.items w.queues.items

-- no fewer are to be looked at, and the same wait
pub record IsMore (old new : Waits) : Type 0 where
  pub kept : (x : Spot) → Contains old.looked.items x → Contains new.looked.items x
  pub queues : new.queues ≡ old.queues
  pub lost : new.lost ≡ old.lost
