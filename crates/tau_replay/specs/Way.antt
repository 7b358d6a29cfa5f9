-- Workers on their way through a log.
use Rattle.std.specs.Prelude.{ℕ, ◌≡◌, List, [], length}
use Rattle.tau_base.specs.declared.limits.TheConstants.{MAX_RECOVERY_WORKERS}
use Rattle.tau_model.specs.Store.{database}
use Rattle.tau_scan.specs.declared.log.Log.{Log}
use Rattle.tau_scan.specs.Taken.{Kept}
use Rattle.tau_replay.specs.declared.turns.Replay.{Replay}
use Rattle.tau_replay.specs.Course.{Course, whole}
use Rattle.tau_replay.specs.Recovering.{IsGoingOn, AreHands, left_over, left_in}

-- sixteen workers are on their way
pub record IsOnCourse (log : Log) (course : Course) (r : Replay) : Type 0 where
  pub order : List Kept
  pub going : IsGoingOn log course r.pools (database r.store) order
  pub hands : AreHands r.pools r.hands.items
  pub sixteen : length r.hands.items ≡ MAX_RECOVERY_WORKERS

-- through the whole log
abbrev pub IsOnWay : Log → Replay → Type 0
IsOnWay log r = IsOnCourse log (whole log) r

-- how much is left to be done
abbrev pub left_of : Replay → ℕ
left_of r = left_over r.pools.items

-- nothing is left
pub record IsOver (log : Log) (course : Course) (r : Replay) : Type 0 where
  pub way : IsOnCourse log course r
  pub none : left_in course.records r.pools.items ≡ []
