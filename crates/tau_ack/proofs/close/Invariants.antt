use Rattle.std.proofs.Common.{◌≡◌, ◌≤◌, length}
use Rattle.tau_ack.specs.Pending.{in_pass}
use Rattle.tau_ack.proofs.close.Given as goal

abbrev pub invariant-loop-from : goal.invariant-loop-from
invariant-loop-from l = record {
  same : in_pass l.to l.from l.calls.calls ≡ in_pass l.fn.passed l.fn.next l.fn.calls.calls;
  order : l.to ≤ l.from;
  len : length l.calls.calls ≡ length l.fn.calls.calls;
  room : l.calls.room ≡ l.fn.calls.room;
}
