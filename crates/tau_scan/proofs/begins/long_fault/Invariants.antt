-- No stream so far is too long.
use Rattle.std.proofs.Common.{◌≡◌, drop}
use Rattle.tau_scan.specs.Begins.{long_fault}
use Rattle.tau_scan.proofs.begins.long_fault.Given as goal

abbrev pub invariant-loop-j : goal.invariant-loop-j
invariant-loop-j l = long_fault 0 l.sizes l.streams ≡ long_fault l.j (drop l.j l.sizes) (drop l.j l.streams)
