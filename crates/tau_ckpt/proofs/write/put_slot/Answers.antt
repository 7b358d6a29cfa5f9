use Rattle.std.proofs.Common.{refl, length}
use Rattle.tau_ckpt.proofs.Gates.{behind_moments, opening_moments, shut_moments}
use Rattle.tau_ckpt.proofs.write.put_slot.Goals as goal

pub returns-in_err-close_gate-clause-moments : goal.returns-in_err-close_gate-clause-moments
returns-in_err-close_gate-clause-moments g c = λ tells unborn slot d is.
    shut_moments g.D.Disk slot d c.args.disk.now c.close_gate.new.disk (c.close_gate.ensures.moments tells unborn slot)

pub returns-in_err-write_durably-clause-moments : goal.returns-in_err-write_durably-clause-moments
returns-in_err-write_durably-clause-moments g c = λ tells unborn slot d is.
    behind_moments g.D.Disk slot d c.args.disk.now c.close_gate.new.disk (c.close_gate.ensures.moments tells unborn slot) (length c.args.bytes.now) c.write_durably.new.disk
    (c.in_ok-close_gate.ensures.closed tells) c.write_durably.ensures.moments

pub returns-in_err-write_durably-2-clause-moments : goal.returns-in_err-write_durably-2-clause-moments
returns-in_err-write_durably-2-clause-moments g c = λ tells unborn slot d is.
    opening_moments g.D.Disk slot d c.args.disk.now c.close_gate.new.disk (c.close_gate.ensures.moments tells unborn slot) (length c.args.bytes.now) c.write_durably.new.disk
    (c.in_ok-close_gate.ensures.closed tells) c.write_durably.ensures.moments c.args.bytes.now 1 c.write_durably-2.new.disk refl is (c.in_ok-write_durably.ensures.written tells) (c.in_ok-write_durably.ensures.durable tells) c.write_durably-2.ensures.moments

pub returns-clause-moments : goal.returns-clause-moments
returns-clause-moments g c = λ tells unborn slot d is.
    opening_moments g.D.Disk slot d c.args.disk.now c.close_gate.new.disk (c.close_gate.ensures.moments tells unborn slot) (length c.args.bytes.now) c.write_durably.new.disk
    (c.in_ok-close_gate.ensures.closed tells) c.write_durably.ensures.moments c.args.bytes.now 1 c.write_durably-2.new.disk refl is (c.in_ok-write_durably.ensures.written tells) (c.in_ok-write_durably.ensures.durable tells) c.write_durably-2.ensures.moments
