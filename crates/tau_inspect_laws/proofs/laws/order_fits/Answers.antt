-- The law is a lemma.
use Rattle.tau_inspect_laws.proofs.Ordering.{order_fits}
use Rattle.tau_inspect_laws.proofs.laws.order_fits.Goals as goal

pub returns : goal.returns
returns c = order_fits
