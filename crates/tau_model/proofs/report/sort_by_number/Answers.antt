-- The sort is stable, so it gives the ascending order.
use Rattle.std.proofs.Common.{◌≡◌, rules}
use Rattle.std.proofs.lemmas.List.Sorted.{answers_always}
use Rattle.tau_model.specs.Listing.{entry_number}
use Rattle.tau_model.proofs.Sorting.{sorted_ascending}
use Rattle.tau_model.proofs.report.sort_by_number.Goals as goal

pub returns : goal.returns
returns c =
    sorted_ascending entry_number c.args.entries.now.items c.sort_by_key.new.self.items
    (c.in_ok-sort_by_key.ensures.sorted entry_number (answers_always _ (λ a r. r ≡ entry_number a.0.now) _ (λ f a r f' k. search rules))) (c.sort_by_key.ensures.stable entry_number (answers_always _ (λ a r. r ≡ entry_number a.0.now) _ (λ f a r f' k. search rules)))
