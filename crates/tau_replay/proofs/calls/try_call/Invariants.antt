-- The machine was given the values that are noted, and the seat is as before.
use Rattle.std.proofs.Common.{◌≡◌}
use Rattle.tau_proc.specs.Progress.{wants_left}
use Rattle.tau_replay.specs.Result.{IsTrying}
use Rattle.tau_replay.proofs.calls.try_call.Given as goal

abbrev pub invariant-wants : goal.invariant-wants
invariant-wants g l = record {
  own : l.seat.table_id ≡ l.initial.seat.table_id;
  same : l.seat.me ≡ l.initial.seat.me;
  trying : IsTrying l.procs l.initial.scratch.call l.scratch.reads.items l.scratch.machine;
}

abbrev pub decreases-wants : goal.decreases-wants
decreases-wants g l = wants_left l.scratch.machine
