-- No stream so far has a catalogue.
use Rattle.std.proofs.Common.{◌≡◌, map, drop}
use Rattle.tau_scan.specs.Reading.{catalogue_of, catalogue_from, catalogue_in}
use Rattle.tau_scan.proofs.catalogue.first_with.Given as goal

abbrev pub invariant-loop-j : goal.invariant-loop-j
invariant-loop-j l = catalogue_in l.streams ≡ catalogue_from l.j (drop l.j (map catalogue_of l.streams))
