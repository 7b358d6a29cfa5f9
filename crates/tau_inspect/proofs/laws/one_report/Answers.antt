-- A text is that of one report.
use Rattle.tau_inspect.proofs.OneReport.{report_one}
use Rattle.tau_inspect.proofs.laws.one_report.Goals as goal

pub returns : goal.returns
returns c = λ tables n calls names few small. report_one tables n calls names few small
