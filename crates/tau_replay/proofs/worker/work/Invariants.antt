-- The seat steps for the worker's hands.
use Rattle.std.proofs.Common.{◌≡◌, ◌≤◌, replicate}
use Rattle.tau_replay.specs.Working.{IsFor}
use Rattle.tau_replay.specs.declared.view.TheConstants.{RECORDS}
use Rattle.tau_replay.proofs.worker.work.Given as goal

abbrev pub invariant-loop : goal.invariant-loop
invariant-loop g l = record {
  own : l.seat.table_id ≡ l.fn.seat.table_id;
  of_log : l.seat.me.0.log ≡ l.fn.seat.me.0.log;
  stands : IsFor l.first l.many l.seat.me;
  tasks : l.tasks.items ≡ replicate RECORDS l.log;
  busy : l.busy ≤ RECORDS;
  room : l.room ≤ RECORDS;
}
