-- What an applier has applied.
use Rattle.std.specs.Prelude.{ℕ, ◌≡◌, ◌≤◌, ◌<◌, ◌⊎◌, ◌++◌, ◌∷◌, [], true, false, List, length, Ok, Some, slice_get, slice_set}
use Rattle.std.specs.List.{Contains}
use Rattle.tau_base.specs.declared.format.Format.{Format}
use Rattle.tau_record.specs.declared.entry.Placed.{Placed}
use Rattle.tau_scan.specs.Taken.{Kept}
use Rattle.tau_follow_laws.specs.Fed.{fronts_of}
use Rattle.tau_follow_laws.specs.Following.{Followed, Applies, NoneReady}
use Rattle.tau_follow.specs.declared.applier.Applier.{Applier}
use Rattle.tau_epoch.specs.Epochs.{Mark}
use Rattle.tau_follow.specs.declared.spot.Spot.{Spot}
use Rattle.tau_follow.specs.declared.stage.Stage.{Stage}
use Rattle.tau_follow.specs.Applying.{is_ready_in, reaches, stages_from, AreSpots, ArePassed}
use Rattle.tau_follow.specs.Judging.{with_judged}
use Rattle.tau_follow.specs.declared.waits.Waits.{Waits}
use Rattle.tau_follow.specs.Queue.{spot_at}
use Rattle.tau_follow.specs.Waits.{AreAllAbove, AreFound, AreKept, IsMore}

-- where the records of a follower stand, and which of them wait
pub record AreStaged (s : Followed) (stages : List (List Stage)) (firsts : List ℕ) (waits : Waits) : Type 0 where
  pub stages_are : stages ≡ stages_from s.out s.order 0 s.streams
  pub passed : ArePassed stages firsts
  pub kept : AreKept s.streams stages waits

-- Of streams that were read of some bytes these records are applied: they stand so, and are those at the spots.
pub record Holds (streams : List (List Placed)) (s : Followed) (a : Applier) : Type 0 where
  pub streams_are : streams ≡ s.streams
  pub format : Format
  pub fed : List (List ℕ)
  pub fronts : fronts_of format fed ≡ Ok s.streams
  pub staged : AreStaged s a.stages.items a.firsts.items a.waits
  pub spots : AreSpots s.streams a.order.items s.order

-- the applier has applied these records, and then
pub record HasApplied (streams : List (List Placed)) (s : Followed) (a : Applier) : Type 0 where
  pub news : List Kept
  pub now : Followed
  pub applies : Applies s news now
  pub holds : Holds streams now a

-- the same, and nothing is ready
pub record HasFollowed (streams : List (List Placed)) (s : Followed) (a : Applier) : Type 0 where
  pub done : HasApplied streams s a
  pub through : NoneReady done.now

-- of one stream more records stand, of which known epochs leave some out
pub record HasReadOn (known : List Mark) (k : ℕ) (records : List Placed) (j : ℕ) (old new : Applier) : Type 0 where
  pub stood : List Stage
  pub there : slice_get old.stages.items j ≡ Some stood
  pub within : length stood ≤ length records
  pub stages_are : new.stages.items ≡ slice_set old.stages.items j (with_judged known k records stood)
  pub passed : ArePassed old.stages.items old.firsts.items → ArePassed new.stages.items new.firsts.items
  pub more : IsMore old.waits new.waits
  pub looked : (i : ℕ) → length stood ≤ i → i < length records → Contains new.waits.looked.items (spot_at j i)
  pub reached_same : new.reached ≡ old.reached
  pub known_same : new.known ≡ old.known

-- these are how far the streams are followed, and each open record is one to look at, or waits for more than that
pub record IsKnown (streams : List (List Placed)) (a : Applier) (reached : List ℕ) : Type 0 where
  pub reached_is : reached ≡ reaches streams a.stages.items
  pub found : AreFound streams a.stages.items a.waits.looked.items a.waits.queues.items
  pub above : AreAllAbove reached a.waits.queues.items

-- so far the streams were followed, and what waits in queues waits for more than that
pub record IsFollowedTo (streams : List (List Placed)) (a : Applier) : Type 0 where
  pub reached_is : a.reached.items ≡ reaches streams a.stages.items
  pub above : AreAllAbove a.reached.items a.waits.queues.items

-- it is so if the applier says so
abbrev pub IsTold : List (List Placed) → Applier → Type 0
IsTold streams a = (a.known ≡ false) ⊎ ((a.waits.lost ≡ true) ⊎ IsFollowedTo streams a)

-- it was so before one stream was read on
pub record WasFollowedTo (j : ℕ) (streams : List (List Placed)) (a : Applier) : Type 0 where
  pub old : List (List Placed)
  pub before : List (List Stage)
  pub records : List Placed
  pub stood : List Stage
  pub streams_are : streams ≡ slice_set old j records
  pub stages_are : a.stages.items ≡ slice_set before j stood
  pub reached_is : a.reached.items ≡ reaches old before
  pub above : AreAllAbove a.reached.items a.waits.queues.items

-- it was so before one stream was read on if the applier says so
abbrev pub WasTold : ℕ → List (List Placed) → Applier → Type 0
WasTold j streams a = (a.known ≡ false) ⊎ ((a.waits.lost ≡ true) ⊎ WasFollowedTo j streams a)

-- the same but for one record, which is ready, where these are applied
pub record IsReadyAt (streams : List (List Placed)) (s : Followed) (a : Applier) (reached : List ℕ) (spot : Spot) : Type 0 where
  pub was : Applier
  pub applied : HasApplied streams s was
  pub stages : a.stages ≡ was.stages
  pub order : a.order ≡ was.order
  pub firsts : a.firsts ≡ was.firsts
  pub reached_is : reached ≡ reaches streams a.stages.items
  pub ready : is_ready_in reached streams a.stages.items spot.stream spot.index ≡ true
  pub found : AreFound streams a.stages.items (a.waits.looked.items ++ spot ∷ []) a.waits.queues.items
  pub above : AreAllAbove reached a.waits.queues.items
