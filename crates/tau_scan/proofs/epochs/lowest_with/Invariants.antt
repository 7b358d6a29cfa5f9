-- No stream so far has a mark with the number.
use Rattle.std.proofs.Common.{◌≡◌, drop}
use Rattle.tau_scan.specs.Reading.{lowest_with}
use Rattle.tau_scan.proofs.epochs.lowest_with.Given as goal

abbrev pub invariant-loop-j : goal.invariant-loop-j
invariant-loop-j l = lowest_with l.number 0 l.streams ≡ lowest_with l.number l.j (drop l.j l.streams)
