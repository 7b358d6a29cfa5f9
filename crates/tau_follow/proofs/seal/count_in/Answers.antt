-- One record more, and all of them.
use Rattle.std.proofs.Common.{arith}
use Rattle.tau_record.specs.Record.{epoch_after}
use Rattle.tau_scan.specs.Epochs.{vector_by}
use Rattle.tau_follow.proofs.Feeding.{got_at}
use Rattle.tau_follow.proofs.Counting.{count_next, count_end}
use Rattle.tau_follow.proofs.seal.count_in.Goals as goal

pub loop-i-preserved : goal.loop-i-preserved
loop-i-preserved c = λ j.
    (let w = c.loop-i.invariant j in
    let p = c.index-records-i.result in (
      epoch_after w.0 p.entry,
      c.pass.ensures w.0 w.1,
      count_next (vector_by c.args.judge.now) j w.0 c.loop-i.i c.args.records.now p c.loop-i.lv c.is_taken.result c.loop-i.count c.in-Some.sum _ (got_at c.args.records.now c.loop-i.i p c.loop-i-test.true c.index-records-i.is) w.1 c.is_taken.ensures c.in-Some.ensures w.2,
    ))

pub returns : goal.returns
returns c = λ j. (let w = c.loop-i.invariant j in count_end (vector_by c.args.judge.now) j w.0 c.loop-i.i c.args.records.now c.loop-i.count _ (omega (arith, c.loop-i-test.false)) w.2)
