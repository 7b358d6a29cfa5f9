-- One number more has its place.
use Rattle.tau_inspect.proofs.Numbering.{places_more}
use Rattle.tau_inspect.proofs.by_number.places.Goals as goal

pub loop-i-preserved : goal.loop-i-preserved
loop-i-preserved c = places_more c.args.count c.args.numbers.now c.loop-i.i c.loop-i.places.items c.note_place.new.places.items c.loop-i-test.true c.loop-i.invariant c.note_place.ensures
