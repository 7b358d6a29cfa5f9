-- The phases of actions.
use Rattle.tau_txn.specs.declared.action.Action.{Action}
use Rattle.tau_txn.specs.declared.action.Action.TheVariants as action
use Rattle.tau_core.specs.declared.event.Phase.{Phase}
use Rattle.tau_core.specs.declared.event.Phase.TheVariants.{Resting, Locking, Quitting, Ready, Placed, Freeing, Ended}

-- the phase in which an action comes
abbrev pub phase_of : Action → Phase
phase_of (action.Lock x m) = Locking
phase_of (action.Quit x) = Quitting
phase_of (action.Commit size) = Ready
phase_of action.Post = Placed
phase_of (action.Free x write) = Freeing
phase_of (action.Done reply lv) = Ended
phase_of action.LeftOver = Resting
phase_of action.Nothing = Resting
