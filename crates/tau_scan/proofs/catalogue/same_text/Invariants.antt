-- No stream so far has another text.
use Rattle.std.proofs.Common.{◌≡◌, ◌+◌, map, drop}
use Rattle.tau_scan.specs.Reading.{catalogue_of, unless_other}
use Rattle.tau_scan.proofs.catalogue.same_text.Given as goal

abbrev pub invariant-loop-j : goal.invariant-loop-j
invariant-loop-j l = unless_other l.with l.text (l.with + 1) (drop (l.with + 1) (map catalogue_of l.streams)) ≡ unless_other l.with l.text l.j (drop l.j (map catalogue_of l.streams))
