-- The law is a lemma.
use Rattle.tau_inspect_laws.proofs.Verdicts.{own_report_fits}
use Rattle.tau_inspect_laws.proofs.laws.own_report_fits.Goals as goal

pub returns : goal.returns
returns c = own_report_fits
