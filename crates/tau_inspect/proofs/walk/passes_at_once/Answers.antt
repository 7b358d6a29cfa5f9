-- These are the records, and the walk is at their start.
use Rattle.std.proofs.Common.{ap, subst, ◌∙◌, Option}
use Rattle.std.specs.Prelude.{IfSome}
use Rattle.tau_scan.specs.Taken.{kept_from}
use Rattle.tau_inspect.specs.declared.walk.Walk.{Walk}
use Rattle.tau_inspect.specs.Walks.{IsAt}
use Rattle.tau_inspect.proofs.walk.passes_at_once.Goals as goal

pub passes_from-requires-clause-at : goal.passes_from-requires-clause-at
passes_from-requires-clause-at c = subst (λ (o : Option Walk). IfSome o (IsAt c.as_slice-all.result.now c.args.case.now.log.now.elv)) c.in-Some.is c.in_ok-at_start.ensures

pub passes_from-requires-clause-all : goal.passes_from-requires-clause-all
passes_from-requires-clause-all c = c.as_slice-all.ensures.value ∙ c.in_ok-records.ensures ∙ ap (kept_from 0) c.as_slice.ensures
