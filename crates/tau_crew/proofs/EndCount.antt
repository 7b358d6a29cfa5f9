-- How many told calls are a worker's.
use Rattle.std.proofs.Common.{ℕ, ◌+◌, ◌≡◌, ◌∙◌, cond, List, length, take, ap}
use Rattle.std.specs.Prelude.{Some, ◌==◌, slice_get}
use Rattle.std.proofs.lemmas.List.Filters.{length-filter_more}
use Rattle.std.proofs.lemmas.Option.{get_or_from_slice_get, slice_get_within}
use Rattle.tau_core.specs.View.{worker_of}
use Rattle.tau_crew.specs.EndLeft.{calls_of}

-- one more was looked at
pub count_more : (workers w : ℕ) (acks : List (ℕ × List ℕ)) (i n : ℕ) (lv : List ℕ) → slice_get acks i ≡ Some (n, lv) →
    length (calls_of workers w (take (i + 1) acks)) ≡ length (calls_of workers w (take i acks)) + cond (worker_of workers n == w) 1 0
count_more workers w acks i n lv is =
    length-filter_more (λ (a : ℕ × List ℕ). worker_of workers a.0 == w) acks i (n, lv) (slice_get_within acks i (n, lv) is)
    ∙ ap (λ (a : ℕ × List ℕ). length (calls_of workers w (take i acks)) + cond (worker_of workers a.0 == w) 1 0) (get_or_from_slice_get acks i (n, lv) (n, lv) is)
