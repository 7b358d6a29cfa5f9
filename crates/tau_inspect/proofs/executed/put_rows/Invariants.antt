-- The first rows are put.
use Rattle.std.proofs.Common.{◌≡◌, ◌++◌, take}
use Rattle.tau_inspect.proofs.executed.put_rows.Given as goal

abbrev pub invariant-loop-row : goal.invariant-loop-row
invariant-loop-row l = l.rows.items ≡ l.initial.rows.items ++ take l.row-index l.more
