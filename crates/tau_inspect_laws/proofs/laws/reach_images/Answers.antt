-- The law is a lemma.
use Rattle.tau_inspect_laws.proofs.Reaching.{reach_images}
use Rattle.tau_inspect_laws.proofs.laws.reach_images.Goals as goal

pub returns : goal.returns
returns c = reach_images
