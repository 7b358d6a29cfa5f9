use Rattle.std.proofs.Common.{arith, rules, take}
use Rattle.std.proofs.lemmas.Result.{err_from_is_err_and}
use Rattle.tau_record.specs.Record.{lv_at}
use Rattle.tau_record.proofs.Loop.{lv_go_on, lv_end, lv_bad, lv_done}
use Rattle.tau_record.proofs.record.lv_of.Goals as goal

pub returns-in_err-part : goal.returns-in_err-part
returns-in_err-part c =
    let p = err_from_is_err_and c.from_residual.result c.from_residual.ensures.1 in
    rw (p.1, p.2) (lv_end c.in_err-part.field-0.0 (take c.loop-j.j c.loop-j.lv) c.args.n c.loop-j.j c.loop-j.rest.now (lv_at c.args.n c.args.bytes.now) c.loop-j-test.true c.in_err-part.ensures c.loop-j.invariant.reads)

pub returns-then-part-ge-MAX_LSN : goal.returns-then-part-ge-MAX_LSN
returns-then-part-ge-MAX_LSN c = lv_bad (take c.loop-j.j c.loop-j.lv) c.args.n c.loop-j.j c.in_ok-part.part c.loop-j.rest.now c.in_ok-part.after.now (lv_at c.args.n c.args.bytes.now) c.loop-j-test.true c.in_ok-part.ensures (omega arith) c.loop-j.invariant.reads

pub loop-j-preserved : goal.loop-j-preserved
loop-j-preserved c = record {
  width = search rules;
  reads = rw c.set.ensures (lv_go_on c.loop-j.lv c.args.n c.loop-j.j c.in_ok-part.part c.loop-j.rest.now c.in_ok-part.after.now (lv_at c.args.n c.args.bytes.now) c.loop-j-test.true c.loop-j.invariant.width c.in_ok-part.ensures (omega arith) c.loop-j.invariant.reads);
}

pub returns : goal.returns
returns c = lv_done c.loop-j.lv c.args.n c.loop-j.j c.loop-j.rest.now (lv_at c.args.n c.args.bytes.now) c.loop-j-test.false c.loop-j.invariant.width c.loop-j.invariant.reads
