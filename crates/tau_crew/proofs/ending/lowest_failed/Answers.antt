use Rattle.std.proofs.Common.{◌<◌, ◌∙◌, length, refl, sym, arith}
use Rattle.std.proofs.lemmas.Option.{slice_get_read}
use Rattle.tau_crew_facts.specs.Ends.{stops_of}
use Rattle.tau_crew_facts.proofs.Stops.{goes_at, stops_at}
use Rattle.tau_crew.proofs.EndTells.{none_more}
use Rattle.tau_crew.proofs.ending.lowest_failed.Goals as goal

pub returns-then-failed : goal.returns-then-failed
returns-then-failed g c = λ plv.
    let low : c.loop-stream.stream < length c.args.writers.now.items = (let lt = c.loop-stream-test.true in let n = c.len-stream-end.ensures in omega (arith, lt, n)) in
    let is = slice_get_read c.args.writers.now.items (length c.args.writers.now.items) c.loop-stream.stream c.index.result.now refl low c.index.ensures in
    (low, (_, stops_at c.args.writers.now.items plv c.loop-stream.stream c.index.result.now is (sym c.failed.ensures ∙ c.if-failed.true)), c.loop-stream.invariant plv)

pub loop-stream-preserved : goal.loop-stream-preserved
loop-stream-preserved g c = λ plv.
    let low : c.loop-stream.stream < length c.args.writers.now.items = (let lt = c.loop-stream-test.true in let n = c.len-stream-end.ensures in omega (arith, lt, n)) in
    let is = slice_get_read c.args.writers.now.items (length c.args.writers.now.items) c.loop-stream.stream c.index.result.now refl low c.index.ensures in
    none_more (stops_of c.args.writers.now.items plv) c.loop-stream.stream (c.loop-stream.invariant plv) (goes_at c.args.writers.now.items plv c.loop-stream.stream c.index.result.now is (sym c.failed.ensures ∙ c.if-failed.false))

pub returns : goal.returns
returns g c = λ plv j low.
    let past = c.loop-stream-test.false in
    let n = c.len-stream-end.ensures in
    c.loop-stream.invariant plv j (omega (arith, low, past, n))
