use Rattle.tau_record.proofs.VectorLaws.{parts_none}
use Rattle.tau_record.proofs.vector.long_parts_of.Goals as goal

pub returns-then-mask-eq0 : goal.returns-then-mask-eq0
returns-then-mask-eq0 c = rw (c.in_ok-whole.ensures, c.if-mask-eq0.true) (parts_none c.args.base.now c.args.bytes.now)
