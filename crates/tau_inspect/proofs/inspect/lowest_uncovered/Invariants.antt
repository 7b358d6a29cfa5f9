-- The first components are covered.
use Rattle.std.proofs.Common.{◌≡◌, drop}
use Rattle.tau_inspect.specs.Inspection.{lowest_uncovered, uncovered_from}
use Rattle.tau_inspect.proofs.inspect.lowest_uncovered.Given as goal

abbrev pub invariant-loop-j : goal.invariant-loop-j
invariant-loop-j l = lowest_uncovered l.judge l.dep ≡ uncovered_from l.j l.judge (drop l.j l.dep)
