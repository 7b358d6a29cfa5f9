-- The seat stays as it is.
use Rattle.std.proofs.Common.{◌≡◌}
use Rattle.tau_replay.proofs.worker.redo_all.Given as goal

abbrev pub invariant-loop-i : goal.invariant-loop-i
invariant-loop-i g l = record {
  own : l.seat.table_id ≡ l.initial.seat.table_id;
  same : l.seat.me ≡ l.initial.seat.me;
  tasks : l.tasks.items ≡ l.initial.tasks.items;
}
