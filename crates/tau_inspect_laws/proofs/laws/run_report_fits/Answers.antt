-- The law is a lemma.
use Rattle.tau_inspect_laws.proofs.Facts.{run_report_fits}
use Rattle.tau_inspect_laws.proofs.laws.run_report_fits.Goals as goal

pub returns : goal.returns
returns c = run_report_fits
