use Rattle.std.proofs.Common.{arith}
use Rattle.tau_record.specs.Format.{One}
use Rattle.tau_record.proofs.VectorLaws.{mask_bits, mask_of_lt, mask_room}
use Rattle.tau_record.proofs.vector.compress.Goals as goal

pub returns-clause-bits : goal.returns-clause-bits
returns-clause-bits c = λ j lt. rw c.mask_above.ensures (mask_bits c.args.anchor.now c.args.dep.now j c.requires.width lt)

pub returns-clause-small : goal.returns-clause-small
returns-clause-small c = rw (c.mask_above.ensures, c.requires.width) (mask_of_lt c.args.anchor.now c.args.dep.now)

pub overflow_cast-result : goal.overflow_cast-result
overflow_cast-result c = omega (arith, c.mask_above.ensures, mask_room One c.args.anchor.now c.args.dep.now 0 (omega (arith, c.requires.width, c.requires.streams)))
