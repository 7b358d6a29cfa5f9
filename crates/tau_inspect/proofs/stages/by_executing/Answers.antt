-- As many calls were executed as the order has.
use Rattle.std.proofs.Common.{ℕ, List, ap, ◌∙◌}
use Rattle.tau_inspect.specs.Executed.{acts_of, effects}
use Rattle.tau_inspect.proofs.Staged.{many}
use Rattle.tau_inspect.specs.Cases.{in_case}
use Rattle.tau_inspect.proofs.stages.by_executing.Goals as goal

pub check_reply-requires-clause-many : goal.check_reply-requires-clause-many
check_reply-requires-clause-many c =
    many (in_case c.args.case.now) c.in_ok-all.all.done
    (c.in_ok-all.ensures.done ∙ ap (λ (l : List ℕ). effects (acts_of c.args.case.now.load.now.declarations.procs c.args.case.now.load.now.calls l)) c.as_slice.ensures)
