use Rattle.std.proofs.Common.{◌≡◌, ◌≤◌, take, length}
use Rattle.tau_ack.specs.Pending.{NoneCovered, in_pass}
use Rattle.tau_ack.proofs.scan.Given as goal

abbrev pub invariant-loop-next : goal.invariant-loop-next
invariant-loop-next l = record {
  same : in_pass l.passed l.next l.calls.calls ≡ in_pass l.fn.pass.passed l.fn.pass.next l.fn.calls.calls;
  order : l.passed ≤ l.next;
  left : NoneCovered l.fn.pass.plv (take l.passed l.calls.calls);
  vector : l.pass.plv ≡ l.fn.pass.plv;
  len : length l.calls.calls ≡ length l.fn.calls.calls;
  room : l.calls.room ≡ l.fn.calls.room;
}
