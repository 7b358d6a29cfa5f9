-- The call was given the first rows that it reads.
use Rattle.std.proofs.Common.{List}
use Rattle.tau_base.specs.declared.value.Key.{Key}
use Rattle.tau_base.specs.declared.value.Value.{Value}
use Rattle.tau_proc.specs.Progress.{wants_left}
use Rattle.tau_model.specs.Store.{database}
use Rattle.tau_inspect.proofs.HasReads.{HasRead}
use Rattle.tau_inspect.proofs.walk.goes_as_told.Given as goal

abbrev pub invariant-wants : goal.invariant-wants
invariant-wants l = (read : List (Key × Value)) × HasRead l.procs l.call (database l.store) read l.machine

abbrev pub decreases-wants : goal.decreases-wants
decreases-wants l = wants_left l.machine
