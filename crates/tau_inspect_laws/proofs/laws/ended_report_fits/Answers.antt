-- The law is a lemma.
use Rattle.tau_inspect_laws.proofs.Facts.{ended_report_fits}
use Rattle.tau_inspect_laws.proofs.laws.ended_report_fits.Goals as goal

pub returns : goal.returns
returns c = ended_report_fits
