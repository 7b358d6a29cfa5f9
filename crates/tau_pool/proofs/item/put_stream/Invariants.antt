-- The taken records so far, and the vector of the epoch of those that are left.
use Rattle.std.proofs.Common.{ℕ, ◌≡◌, ◌++◌, drop}
use Rattle.std.specs.List.{filter}
use Rattle.tau_scan.specs.Epochs.{vector_by}
use Rattle.tau_pool.specs.Items.{items_in, item_after}
use Rattle.tau_pool.proofs.item.put_stream.Given as goal

abbrev pub invariant-loop-index : goal.invariant-loop-index
invariant-loop-index l = (k : ℕ) × (l.lv ≡ vector_by l.judge k) × (l.items ++ filter (item_after l.from) (items_in (vector_by l.judge) l.stream k l.index (drop l.index l.records)) ≡ l.initial.items ++ filter (item_after l.from) (items_in (vector_by l.judge) l.stream 0 0 l.records))
