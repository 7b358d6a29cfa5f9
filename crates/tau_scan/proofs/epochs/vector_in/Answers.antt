-- The next mark has the number, or it has not.
use Rattle.std.proofs.Common.{ℕ, ◌<◌, length, refl, ◌∙◌, arith}
use Rattle.tau_scan.proofs.Streams.{read_as}
use Rattle.tau_scan.proofs.Marks.{vector_here, no_vector_here, no_vector_left}
use Rattle.tau_scan.proofs.epochs.vector_in.Goals as goal

pub returns-in-Some-clause-some : goal.returns-in-Some-clause-some
returns-in-Some-clause-some c =
    let i : ℕ = c.loop-placed.placed-index in
    let lt : i < length c.args.records.now = omega (arith, c.loop-placed-test.true) in
    let here = read_as c.args.records.now i c.placed-item.result c.placed-item.result lt c.placed-item.is refl in
    c.loop-placed.invariant ∙ vector_here c.args.number c.args.records.now i c.placed-item.result c.in-Some.lv.now here c.in-Some.ensures.some

pub loop-placed-preserved : goal.loop-placed-preserved
loop-placed-preserved c =
    let i : ℕ = c.loop-placed.placed-index in
    let lt : i < length c.args.records.now = omega (arith, c.loop-placed-test.true) in
    let here = read_as c.args.records.now i c.placed-item.result c.placed-item.result lt c.placed-item.is refl in
    c.loop-placed.invariant ∙ no_vector_here c.args.number c.args.records.now i c.placed-item.result here (c.in_default.ensures.none refl)

pub returns-clause-none : goal.returns-clause-none
returns-clause-none c e = c.loop-placed.invariant ∙ no_vector_left c.args.number c.args.records.now c.loop-placed.placed-index (omega (arith, c.loop-placed-test.false))
