use Rattle.std.proofs.Common.{refl, subst}
use Rattle.std.specs.Prelude.{Bool}
use Rattle.tau_ckpt.specs.Writing.{GateIs}
use Rattle.tau_ckpt.proofs.Gates.{closing_moments}
use Rattle.tau_ckpt.proofs.write.close_gate.Goals as goal

pub returns-clause-moments : goal.returns-clause-moments
returns-clause-moments g c = λ tells unborn slot.
    closing_moments g.D.Disk slot 1 c.args.disk.now c.is_closed.new.disk c.write_durably.new.disk (c.requires.quiet tells) unborn
    (subst (λ (b : Bool). GateIs b (g.D.Disk.seen c.args.disk.now)) c.if-branch.false (c.in_ok-is_closed.ensures.gate tells)) refl c.is_closed.ensures.read c.write_durably.ensures.moments
