use Rattle.std.proofs.Common.{◌≡◌, take}
use Rattle.tau_engine.specs.Bench.{sum_of}
use Rattle.tau_engine.proofs.bench.sum_of.Given as goal

abbrev pub invariant-loop-row : goal.invariant-loop-row
invariant-loop-row l = l.sum ≡ sum_of (take l.row-index l.rows)
