-- A recovery that turns of workers led to.
use Rattle.std.specs.Prelude.{ℕ, ◌≡◌, List, [], length, map, replicate, None}
use Rattle.tau_base.specs.declared.limits.TheConstants.{MAX_RECOVERY_WORKERS}
use Rattle.tau_model.specs.Store.{database}
use Rattle.tau_scan.specs.declared.log.Log.{Log}
use Rattle.tau_scan.specs.Taken.{Kept}
use Rattle.tau_pool.specs.declared.item.Stage.{Stage}
use Rattle.tau_pool.specs.declared.item.Stage.TheVariants.{Waiting, Flying, Finished}
use Rattle.tau_pool.specs.Item.{Item}
use Rattle.tau_pool.specs.Pooled.{Pooled, staged}
use Rattle.tau_replay.specs.declared.turns.Replay.{Replay}
use Rattle.tau_replay.specs.declared.view.TheConstants.{HANDS}
use Rattle.tau_replay.specs.Recovering.{IsGoing, AreHands}
use Rattle.tau_replay.specs.Way.{IsOnWay}
use Rattle.tau_replay.specs.Followed.{HasFollowed, Followed}

-- it is on its way, and some list of turns led to it
pub record IsSound (log : Log) (r : Replay) : Type 0 where
  pub way : IsOnWay log r
  pub turns : List ℕ
  pub followed : Followed log turns r

-- what is in flight counts as not started
abbrev pub settled_stage : Stage → Stage
settled_stage Waiting = Waiting
settled_stage Flying = Waiting
settled_stage Finished = Finished

abbrev pub settled_item : Item → Item
settled_item x = staged (settled_stage x.stage) x

abbrev pub settled : Pooled → Pooled
settled p = record { ends = p.ends; rlv = p.rlv; items = map settled_item p.items }

-- Workers in threads are on their way: what each hand has in flight is in flight, each job in one hand. What is finished
-- is what some list of turns of sixteen workers led to: one in which each start stands just before its finish.
pub record AreWorking (log : Log) (r : Replay) : Type 0 where
  pub order : List Kept
  pub going : IsGoing log r.pools (database r.store) order
  pub hands : AreHands r.pools r.hands.items
  pub many : length r.hands.items ≡ HANDS
  pub turns : List ℕ
  pub followed : HasFollowed log turns (settled r.pools) (replicate MAX_RECOVERY_WORKERS None) (database r.store)

-- a log of nothing
abbrev pub no_log : Log
no_log = record { elv = []; declarations = record { tables = []; procs = [] }; streams = [] }
