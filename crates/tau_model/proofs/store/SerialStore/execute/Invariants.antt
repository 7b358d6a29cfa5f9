-- The call was given the first values that it reads on the database, which stays.
use Rattle.std.proofs.Common.{◌≡◌}
use Rattle.tau_proc.specs.Progress.{wants_left}
use Rattle.tau_model.specs.Store.{database}
use Rattle.tau_model.proofs.Wants.{Underway}
use Rattle.tau_model.proofs.store.SerialStore.execute.Given as goal

abbrev pub invariant-wants : goal.invariant-wants
invariant-wants l = record {
  same : database l.self ≡ database l.fn.self;
  under : Underway l.procs l.call (database l.fn.self) l.self.machine;
}

abbrev pub decreases-wants : goal.decreases-wants
decreases-wants l = wants_left l.self.machine
