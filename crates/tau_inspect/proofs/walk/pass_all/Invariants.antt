-- What is left is walked if the whole is, and the rows are those of the calls so far.
use Rattle.std.proofs.Common.{◌≡◌, take, drop}
use Rattle.tau_model.specs.Store.{database}
use Rattle.tau_inspect.specs.declared.walk.Walk.{Walk}
use Rattle.tau_inspect.specs.Audit.{acts}
use Rattle.tau_inspect.specs.Cases.{in_case}
use Rattle.tau_inspect.specs.Executed.{rows_after}
use Rattle.tau_inspect.specs.Walks.{IsAt, Walks}
use Rattle.tau_inspect.proofs.walk.pass_all.Given as goal

abbrev pub invariant-loop-i : goal.invariant-loop-i
invariant-loop-i l = record {
  at : IsAt l.all l.case.log.now.elv l.walk;
  goes : (stop : Walk) → Walks (in_case l.case) l.walk (drop l.i (acts (in_case l.case))) stop → Walks (in_case l.case) l.initial.walk (acts (in_case l.case)) stop;
  rows : database l.run.store ≡ rows_after l.case.load.now.declarations.procs l.case.load.now.calls (take l.i l.case.report.now.order);
}
