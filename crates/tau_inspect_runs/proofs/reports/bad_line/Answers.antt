-- The workload was read.
use Rattle.tau_inspect.proofs.Named.{names_are_known}
use Rattle.tau_inspect_runs.proofs.reports.bad_line.Goals as goal

pub read_report-requires-clause-names : goal.read_report-requires-clause-names
read_report-requires-clause-names c = names_are_known c.args.workload.now c.in-Ok.load c.in-Ok.ensures.exact
