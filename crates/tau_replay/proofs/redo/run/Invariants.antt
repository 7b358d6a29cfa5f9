-- The machine was given values of the database.
use Rattle.std.proofs.Common.{List}
use Rattle.tau_base.specs.declared.value.Key.{Key}
use Rattle.tau_base.specs.declared.value.Value.{Value}
use Rattle.tau_proc.specs.Effect.{Agrees}
use Rattle.tau_proc.specs.Progress.{wants_left}
use Rattle.tau_model.specs.Store.{database}
use Rattle.tau_replay.specs.Result.{IsTrying}
use Rattle.tau_replay.proofs.redo.run.Given as goal

abbrev pub invariant-wants : goal.invariant-wants
invariant-wants l = (reads : List (Key × Value)) × IsTrying l.procs l.call reads l.machine × Agrees reads (database l.store)

abbrev pub decreases-wants : goal.decreases-wants
decreases-wants l = wants_left l.machine
