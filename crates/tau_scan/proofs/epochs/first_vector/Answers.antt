-- The next stream has a mark with the number, or it has none.
use Rattle.std.proofs.Common.{ℕ, ◌<◌, length, refl, ◌∙◌, arith}
use Rattle.tau_scan.proofs.Streams.{read_as}
use Rattle.tau_scan.proofs.Marks.{vector_there, no_vector_there, no_vector_more}
use Rattle.tau_scan.proofs.epochs.first_vector.Goals as goal

pub returns-in-Some-clause-some : goal.returns-in-Some-clause-some
returns-in-Some-clause-some c =
    let i : ℕ = c.loop-records.records-index in
    let lt : i < length c.args.streams.now = omega (arith, c.loop-records-test.true) in
    let here = read_as c.args.streams.now i c.records-item.result c.as_slice.result.now lt c.records-item.is c.as_slice.ensures in
    c.loop-records.invariant ∙ vector_there c.args.number c.args.streams.now i c.as_slice.result.now c.in-Some.lv.now here c.in-Some.ensures.some

pub loop-records-preserved : goal.loop-records-preserved
loop-records-preserved c =
    let i : ℕ = c.loop-records.records-index in
    let lt : i < length c.args.streams.now = omega (arith, c.loop-records-test.true) in
    let here = read_as c.args.streams.now i c.records-item.result c.as_slice.result.now lt c.records-item.is c.as_slice.ensures in
    c.loop-records.invariant ∙ no_vector_there c.args.number c.args.streams.now i c.as_slice.result.now here (c.in_default.ensures.none refl)

pub returns-clause-none : goal.returns-clause-none
returns-clause-none c e = c.loop-records.invariant ∙ no_vector_more c.args.number c.args.streams.now c.loop-records.records-index (omega (arith, c.loop-records-test.false))
