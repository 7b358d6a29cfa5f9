-- No stream so far has a catalogue.
use Rattle.std.proofs.Common.{◌≡◌, drop}
use Rattle.tau_scan.specs.Begins.{declared_fault}
use Rattle.tau_scan.proofs.begins.declared_fault.Given as goal

abbrev pub invariant-loop-j : goal.invariant-loop-j
invariant-loop-j l = declared_fault l.text 0 l.streams ≡ declared_fault l.text l.j (drop l.j l.streams)
