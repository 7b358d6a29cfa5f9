use Rattle.std.proofs.Common.{take, arith, rules}
use Rattle.std.proofs.lemmas.Result.{err_from_is_err_and}
use Rattle.tau_record.specs.Vector.{parts_at}
use Rattle.std.proofs.Common.{sym}
use Rattle.tau_record.proofs.Loop.{parts_go_on, parts_end, parts_done}
use Rattle.tau_record.proofs.vector.parts_of.Goals as goal

pub returns-in_err-part : goal.returns-in_err-part
returns-in_err-part c =
    let p = err_from_is_err_and c.from_residual.result c.from_residual.ensures.1 in
    rw (p.1, p.2) (parts_end c.in_err-part.field-0.0 c.args.base.now (take c.loop-j.j c.loop-j.dep) c.loop-j.j c.loop-j.left c.loop-j.rest.now (parts_at c.args.base.now c.args.mask c.args.bytes.now) (omega (arith, c.width-j-end.ensures.same, c.loop-j-test.true)) (rw (sym c.get.ensures.same) c.in_err-part.ensures.exact) c.loop-j.invariant.reads)

pub loop-j-preserved : goal.loop-j-preserved
loop-j-preserved c = record {
  width = search rules;
  reads = rw c.set.ensures (parts_go_on c.args.base.now c.loop-j.dep c.loop-j.j c.loop-j.left c.in_ok-part.part c.loop-j.rest.now c.in_ok-part.after.now (parts_at c.args.base.now c.args.mask c.args.bytes.now) (omega (arith, c.width-j-end.ensures.same, c.loop-j-test.true)) c.loop-j.invariant.width (rw (sym c.get.ensures.same) c.in_ok-part.ensures.exact) c.loop-j.invariant.reads);
}

pub returns : goal.returns
returns c = parts_done c.args.base.now c.loop-j.dep c.loop-j.j c.loop-j.left c.loop-j.rest.now (parts_at c.args.base.now c.args.mask c.args.bytes.now) (omega (arith, c.width-j-end.ensures.same, c.loop-j-test.false)) c.loop-j.invariant.width c.loop-j.invariant.reads
