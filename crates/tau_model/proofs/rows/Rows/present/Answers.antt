-- Nothing is left.
use Rattle.std.proofs.Common.{◌≡◌, ◌++◌, [], sym, ap, ◌∙◌}
use Rattle.std.specs.List.{filter}
use Rattle.std.proofs.lemmas.List.{append-nil}
use Rattle.tau_model.specs.Tables.{is_present}
use Rattle.tau_model.proofs.rows.Rows.present.Goals as goal

pub returns-clause-rows : goal.returns-clause-rows
returns-clause-rows c =
    let end : c.loop-key.rows.items ++ [] ≡ filter is_present c.args.self.now.rows.entries =
    sym (ap (λ l. c.loop-key.rows.items ++ filter is_present l) c.in-None.ensures.steps.0) ∙ c.loop-key.invariant in
    sym (append-nil c.loop-key.rows.items) ∙ end
