use Rattle.tau_record.proofs.VectorLaws.{mask_bits, mask_of_lt}
use Rattle.tau_record.proofs.vector.compress_wide.Goals as goal

pub returns-clause-bits : goal.returns-clause-bits
returns-clause-bits c = λ j lt. rw c.mask_above.ensures (mask_bits c.args.anchor.now c.args.dep.now j c.requires.width lt)

pub returns-clause-small : goal.returns-clause-small
returns-clause-small c = rw (c.mask_above.ensures, c.requires.width) (mask_of_lt c.args.anchor.now c.args.dep.now)
