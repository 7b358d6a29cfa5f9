-- The texts are alike so far.
use Rattle.std.proofs.Common.{◌≡◌, ◌+◌, drop}
use Rattle.tau_scan.specs.Reading.{alike}
use Rattle.tau_scan.proofs.catalogue.alike.Given as goal

abbrev pub invariant-loop-n : goal.invariant-loop-n
invariant-loop-n l = alike l.text l.other ≡ l.n + alike (drop l.n l.text) (drop l.n l.other)
