use Rattle.std.proofs.Common.{◌<◌, length, refl, arith}
use Rattle.std.proofs.lemmas.Option.{slice_get_read}
use Rattle.tau_crew.proofs.EndLeft.{none_short_more}
use Rattle.tau_crew.proofs.ending_done.none_short.Goals as goal
use Rattle.tau_base.proofs.Lists.{got_within}

pub loop-stream-preserved : goal.loop-stream-preserved
loop-stream-preserved g c =
    let low : c.loop-stream.stream < length c.args.jobs.now.items = (let lt = c.loop-stream-test.true in let n = c.len-stream-end.ensures in omega (arith, lt, n)) in
    none_short_more c.args.jobs.now.items c.loop-stream.stream c.index.result.now (slice_get_read c.args.jobs.now.items (length c.args.jobs.now.items) c.loop-stream.stream c.index.result.now refl low c.index.ensures) c.loop-stream.invariant c.if-index.false

pub returns : goal.returns
returns g c = λ yes j job is.
    let low = got_within c.args.jobs.now.items j job is in
    let past = c.loop-stream-test.false in
    let n = c.len-stream-end.ensures in
    c.loop-stream.invariant j job (omega (arith, low, past, n)) is
