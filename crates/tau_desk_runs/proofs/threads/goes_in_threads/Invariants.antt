use Rattle.std.proofs.Common.{◌≡◌, Some}
use Rattle.tau_desk_runs.proofs.threads.goes_in_threads.Given as goal

abbrev pub invariant-loop-number : goal.invariant-loop-number
invariant-loop-number g l = record {
  own : l.head.table_id ≡ l.desk.table.shared.table_id;
  opened : l.head.me.0.opened ≡ Some l.desk.table.shared.key.value;
}
