-- A position that is above, or none.
use Rattle.std.proofs.Common.{arith}
use Rattle.tau_base.proofs.Vectors.{at_most_covers, at_most_within}
use Rattle.tau_follow.proofs.waits.first_above.Goals as goal

pub returns-clause-none : goal.returns-clause-none
returns-clause-none c = λ none. at_most_covers c.args.positions.now c.args.dep.now (at_most_within c.args.dep.now c.args.positions.now (λ j lt. c.loop-k.invariant j (omega arith)))
