-- The sort is stable, so it gives the ascending order.
use Rattle.std.proofs.Common.{◌≡◌, rules}
use Rattle.std.proofs.lemmas.List.Sorted.{answers_always}
use Rattle.tau_model.proofs.Sorting.{sorted_ascending}
use Rattle.tau_pool.specs.Passing.{wait_at}
use Rattle.tau_pool.proofs.waits.sort_waits.Goals as goal

pub returns : goal.returns
returns c =
    sorted_ascending wait_at c.args.waits.now.items c.sort_by_key.new.self.items
    (c.in_ok-sort_by_key.ensures.sorted wait_at (answers_always _ (λ a r. r ≡ wait_at a.0.now) _ (λ f a r f' k. search rules))) (c.sort_by_key.ensures.stable wait_at (answers_always _ (λ a r. r ≡ wait_at a.0.now) _ (λ f a r f' k. search rules)))
