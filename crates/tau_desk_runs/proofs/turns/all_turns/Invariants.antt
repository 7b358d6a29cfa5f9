use Rattle.std.proofs.Common.{◌≡◌}
use Rattle.tau_desk_runs.proofs.turns.all_turns.Given as goal

abbrev pub invariant-loop-line : goal.invariant-loop-line
invariant-loop-line g l = record {
  first_own : l.first.table_id ≡ l.fn.first.table_id;
  first_opened : l.first.me.0.opened ≡ l.fn.first.me.0.opened;
  second_own : l.second.table_id ≡ l.fn.second.table_id;
  second_opened : l.second.me.0.opened ≡ l.fn.second.me.0.opened;
}
