-- The rows are others.
use Rattle.std.proofs.Common.{refl, sym, ◌∙◌}
use Rattle.std.proofs.lemmas.Bool.{both_ways}
use Rattle.tau_model.specs.Store.{database}
use Rattle.tau_inspect.specs.Audit.{Case}
use Rattle.tau_inspect.proofs.Staged.{other_rows}
use Rattle.tau_inspect.specs.Cases.{in_case}
use Rattle.tau_inspect.proofs.stages.by_rows.Goals as goal

pub returns-then-not-same_rows : goal.returns-then-not-same_rows
returns-then-not-same_rows c =
    let k : Case = (in_case c.args.case.now) in (
      c.requires.passed,
      (
        other_rows k (database c.args.all.now.store) c.in_ok-tables.tables c.requires.rows c.in_ok-tables.ensures
            (λ e. both_ways c.same_rows.result c.if-not-same_rows.true (c.same_rows.ensures.1 (c.rows.ensures ∙ e ∙ sym c.rows-2.ensures))),
        refl,
      ),
    )
