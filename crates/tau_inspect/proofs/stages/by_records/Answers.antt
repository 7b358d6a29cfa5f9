-- What has passed before the records are checked.
use Rattle.tau_inspect.proofs.Staged.{many, unique_order}
use Rattle.tau_inspect.specs.Cases.{in_case}
use Rattle.tau_inspect.proofs.stages.by_records.Goals as goal

pub check_records-requires-clause-many : goal.check_records-requires-clause-many
check_records-requires-clause-many c = many (in_case c.args.case.now) c.args.done.now c.requires.done

pub check_records-requires-clause-unique : goal.check_records-requires-clause-unique
check_records-requires-clause-unique c = unique_order (in_case c.args.case.now) c.requires.is c.requires.passed.1.0
