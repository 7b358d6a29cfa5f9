use Rattle.tau_base.proofs.Vectors.{join_right, join_length}
use Rattle.tau_record.proofs.vector.raise.Goals as goal

pub returns-clause-covers : goal.returns-clause-covers
returns-clause-covers c = rw c.join.ensures (join_right c.args.dep.now c.args.anchor.now)

pub returns-clause-width : goal.returns-clause-width
returns-clause-width c = λ e. rw c.join.ensures (join_length c.args.dep.now c.args.anchor.now e)
