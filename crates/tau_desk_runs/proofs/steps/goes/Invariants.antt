use Rattle.std.proofs.Common.{◌≡◌, Some}
use Rattle.tau_desk_runs.proofs.steps.goes.Given as goal

abbrev pub invariant-loop-line : goal.invariant-loop-line
invariant-loop-line g l = record {
  own : l.head.table_id ≡ l.desk.table.shared.table_id;
  opened : l.head.me.0.opened ≡ Some l.desk.table.shared.key.value;
}
