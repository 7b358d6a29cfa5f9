-- The least mark is the first with the least number.
use Rattle.std.proofs.Common.{refl, ◌∙◌}
use Rattle.tau_scan.specs.Epochs.{marks_from}
use Rattle.tau_scan.proofs.Known.{below_none, below_other, below_some}
use Rattle.tau_scan.proofs.log.is_below.Goals as goal

pub returns-in-None : goal.returns-in-None
returns-in-None c = below_none c.args.number (marks_from c.args.streams.now) c.args.dep.now c.in-None.ensures

pub returns-in-None-first_vector : goal.returns-in-None-first_vector
returns-in-None-first_vector c = below_other c.args.number (marks_from c.args.streams.now) c.args.dep.now c.in-Some.above c.in-Some.ensures (c.in-None-first_vector.ensures.none refl)

pub returns-in-Some-first_vector : goal.returns-in-Some-first_vector
returns-in-Some-first_vector c =
    c.covers.ensures ∙ below_some c.args.number (marks_from c.args.streams.now) c.args.dep.now c.in-Some.above c.in-Some-first_vector.positions.now c.in-Some.ensures c.in-Some-first_vector.ensures.some
