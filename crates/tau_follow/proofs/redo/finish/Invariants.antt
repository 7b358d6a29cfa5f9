-- The call was given the first values that it reads on the database, which stays.
use Rattle.tau_proc.specs.Progress.{wants_left}
use Rattle.tau_model.specs.Store.{database}
use Rattle.tau_model.proofs.Wants.{Underway}
use Rattle.tau_follow.proofs.redo.finish.Given as goal

abbrev pub invariant-wants : goal.invariant-wants
invariant-wants l = Underway l.procs l.call (database l.store) l.machine

abbrev pub decreases-wants : goal.decreases-wants
decreases-wants l = wants_left l.machine
