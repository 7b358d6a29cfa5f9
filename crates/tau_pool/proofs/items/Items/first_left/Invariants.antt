-- What is passed over so far is passed.
use Rattle.std.proofs.Common.{◌≡◌, drop}
use Rattle.tau_pool.specs.First.{first_from}
use Rattle.tau_pool.proofs.items.Items.first_left.Given as goal

abbrev pub invariant-loop-place : goal.invariant-loop-place
invariant-loop-place l = first_from l.j l.from (drop l.from l.self) ≡ first_from l.j l.place (drop l.place l.self)
