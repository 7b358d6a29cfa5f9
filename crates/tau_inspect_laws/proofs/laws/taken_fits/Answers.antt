-- The law is a lemma.
use Rattle.tau_inspect_laws.proofs.Surviving.{taken_fits}
use Rattle.tau_inspect_laws.proofs.laws.taken_fits.Goals as goal

pub returns : goal.returns
returns c = taken_fits
