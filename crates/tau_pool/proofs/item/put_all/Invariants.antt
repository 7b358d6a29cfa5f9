-- The taken records of the streams so far.
use Rattle.std.proofs.Common.{◌≡◌, ◌++◌, drop}
use Rattle.std.specs.List.{filter}
use Rattle.tau_scan.specs.Epochs.{vector_by}
use Rattle.tau_pool.specs.Items.{items_from, item_after}
use Rattle.tau_pool.proofs.item.put_all.Given as goal

abbrev pub invariant-loop-j : goal.invariant-loop-j
invariant-loop-j l = l.items ++ filter (item_after l.from) (items_from (vector_by l.judge) l.j (drop l.j l.streams)) ≡ filter (item_after l.from) (items_from (vector_by l.judge) 0 l.streams)
