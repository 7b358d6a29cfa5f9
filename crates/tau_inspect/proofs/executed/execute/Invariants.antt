-- What was executed are the first calls of the order.
use Rattle.std.proofs.Common.{◌≡◌, take, map}
use Rattle.std.specs.List.{All}
use Rattle.tau_model.specs.Store.{database}
use Rattle.tau_inspect.specs.Executed.{acts_of, effects, rows_after}
use Rattle.tau_inspect.specs.KeptDone.{done_in, IsExtent}
use Rattle.tau_inspect.proofs.executed.execute.Given as goal

abbrev pub invariant-loop-i : goal.invariant-loop-i
invariant-loop-i l = record {
  within : All (IsExtent l.all.rows.items) l.all.extents.items;
  done : map (done_in l.all.rows.items) l.all.extents.items ≡ effects (acts_of l.procs l.calls (take l.i l.order));
  rows : database l.all.store ≡ rows_after l.procs l.calls (take l.i l.order);
}
