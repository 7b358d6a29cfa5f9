-- So many hands are split off.
use Rattle.std.proofs.Common.{◌≡◌, ◌+◌, ◌-◌}
use Rattle.tau_replay.specs.Working.{IsSpare}
use Rattle.tau_replay.specs.declared.view.TheConstants.{HANDS}
use Rattle.tau_replay.proofs.threads.split_first.Given as goal

abbrev pub invariant-loop-k : goal.invariant-loop-k
invariant-loop-k l = record {
  own : (l.seat.table_id ≡ l.initial.seat.table_id) × (l.mine.table_id ≡ l.initial.seat.table_id);
  of_log : (l.seat.me.0.log ≡ l.initial.seat.me.0.log) × (l.mine.me.0.log ≡ l.initial.seat.me.0.log);
  mine : IsSpare l.first l.k l.mine.me;
  left : IsSpare (l.first + l.k) (HANDS - (l.first + l.k)) l.seat.me;
}
