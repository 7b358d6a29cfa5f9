use Rattle.tau_crew.proofs.EndSettles.{same_head_on}
use Rattle.tau_crew.proofs.ending_settle.settle.Goals as goal

pub loop-preserved : goal.loop-preserved
loop-preserved g c = same_head_on _ _ _ c.loop.invariant c.looks.ensures.same

pub returns-then-looks-clause-same : goal.returns-then-looks-clause-same
returns-then-looks-clause-same g c = same_head_on _ _ _ c.loop.invariant c.looks.ensures.same
