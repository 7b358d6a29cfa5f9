use Rattle.tau_inspect.proofs.Named.{names_are_known}
use Rattle.tau_commands.proofs.case.read_run.Goals as goal

-- the tables of a workload have names that tell them apart
pub read_report-requires-clause-names : goal.read_report-requires-clause-names
read_report-requires-clause-names c = names_are_known c.requires.meant.0 c.args.load.now c.requires.meant.1
