-- What has passed before the last check.
use Rattle.tau_inspect.proofs.Staged.{many, recorded_once}
use Rattle.tau_inspect.specs.Cases.{in_case}
use Rattle.tau_inspect.proofs.stages.by_order.Goals as goal

pub is_whole-requires-clause-many : goal.is_whole-requires-clause-many
is_whole-requires-clause-many c = many (in_case c.args.case.now) c.args.done.now c.requires.done

pub check_order-requires-clause-many : goal.check_order-requires-clause-many
check_order-requires-clause-many c = many (in_case c.args.case.now) c.args.done.now c.requires.done

pub check_order-requires-clause-recorded_once : goal.check_order-requires-clause-recorded_once
check_order-requires-clause-recorded_once c = recorded_once (in_case c.args.case.now) c.requires.passed.1.1.1.1.0
