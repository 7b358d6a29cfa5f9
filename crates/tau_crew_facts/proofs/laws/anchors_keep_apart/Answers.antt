use Rattle.tau_crew_facts.proofs.Spacing.{spacing_loop}
use Rattle.tau_crew_facts.proofs.laws.anchors_keep_apart.Goals as goal

pub returns : goal.returns
returns c = spacing_loop
