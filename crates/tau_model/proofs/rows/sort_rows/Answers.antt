-- The keys by which the rows are sorted are theirs.
use Rattle.std.proofs.Common.{◌≡◌, rules}
use Rattle.std.proofs.lemmas.List.Sorted.{answers_always}
use Rattle.tau_model.specs.Tables.{row_key}
use Rattle.tau_model.proofs.rows.sort_rows.Goals as goal

pub returns-clause-ascending : goal.returns-clause-ascending
returns-clause-ascending c =
    c.sort_unstable_by_key.ensures.sorted row_key (answers_always _ (λ a r. r ≡ row_key a.0.now) _ (λ f a r f' k. search rules))
