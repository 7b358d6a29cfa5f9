-- All are short if those that are left are.
use Rattle.std.proofs.Common.{drop}
use Rattle.std.specs.List.{All}
use Rattle.tau_scan.specs.Found.{IsShort}
use Rattle.tau_scan.specs.Reading.{catalogue_of}
use Rattle.tau_follow.proofs.check.all_short.Given as goal

abbrev pub invariant-loop-j : goal.invariant-loop-j
invariant-loop-j l = All (λ ps. IsShort (catalogue_of ps)) (drop l.j l.streams) → All (λ ps. IsShort (catalogue_of ps)) l.streams
