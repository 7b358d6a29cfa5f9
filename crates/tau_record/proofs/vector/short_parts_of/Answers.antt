use Rattle.std.proofs.Common.{arith, rules, sym}
use Rattle.std.proofs.lemmas.Result.{err_from_is_err_and}
use Rattle.tau_record.specs.Vector.{parts_at}
use Rattle.tau_record.proofs.Loop.{parts_add, parts_end, parts_all}
use Rattle.tau_record.proofs.vector.short_parts_of.Goals as goal

pub returns-in_err-part : goal.returns-in_err-part
returns-in_err-part c =
    let p = err_from_is_err_and c.from_residual.result c.from_residual.ensures.1 in
    rw (p.1, p.2) (parts_end c.in_err-part.field-0.0 c.args.base.now c.loop-j.short.items c.loop-j.j c.loop-j.left c.loop-j.rest.now (parts_at c.args.base.now c.args.mask c.args.bytes.now) (omega (arith, c.width-j-end.ensures.same, c.loop-j-test.true)) (rw (sym c.get.ensures.same) c.in_err-part.ensures.exact) c.loop-j.invariant.reads)

pub loop-j-preserved : goal.loop-j-preserved
loop-j-preserved c = record {
  count = search rules;
  reads = rw c.push.ensures.items (parts_add c.args.base.now c.loop-j.short.items c.loop-j.j c.loop-j.left c.in_ok-part.part c.loop-j.rest.now c.in_ok-part.after.now (parts_at c.args.base.now c.args.mask c.args.bytes.now) (omega (arith, c.width-j-end.ensures.same, c.loop-j-test.true)) (rw (sym c.get.ensures.same) c.in_ok-part.ensures.exact) c.loop-j.invariant.reads);
}

pub returns : goal.returns
returns c = parts_all c.args.base.now c.loop-j.short.items c.loop-j.j c.loop-j.left c.loop-j.rest.now (parts_at c.args.base.now c.args.mask c.args.bytes.now) (omega (arith, c.width-j-end.ensures.same, c.loop-j-test.false)) c.loop-j.invariant.reads
