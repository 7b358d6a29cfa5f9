-- The places of the first numbers.
use Rattle.tau_inspect.proofs.Numbering.{PlacesTo}
use Rattle.tau_inspect.proofs.by_number.places.Given as goal

abbrev pub invariant-loop-i : goal.invariant-loop-i
invariant-loop-i l = PlacesTo l.count l.numbers l.i l.places.items
