use Rattle.std.proofs.Common.{[], ◌∷◌, ap, arith, length}
use Rattle.std.proofs.lemmas.List.{length-append}
use Rattle.std.proofs.lemmas.Result.{err_from_is_err_and}
use Rattle.tau_record.specs.Item.{args_at}
use Rattle.tau_record.proofs.Loop.{args_go_on, args_end, args_done}
use Rattle.tau_record.proofs.item.args_of.Goals as goal

pub returns-in_err-rest : goal.returns-in_err-rest
returns-in_err-rest c =
    let p = err_from_is_err_and c.from_residual.result c.from_residual.ensures.1 in
    rw (p.1, p.2) (args_end c.in_err-rest.field-0.0 c.loop.args.items c.args.count c.loop.counter c.loop.rest.now (args_at c.args.count c.args.bytes.now) c.loop-test.true c.in_err-rest.ensures c.loop.invariant.reads)

pub loop-preserved : goal.loop-preserved
loop-preserved c =
    let put = c.in_ok-rest.ensures in
    record {
      count = omega (arith, ap length put.2, length-append c.loop.args.items (put.0 ∷ []), c.loop.invariant.count);
      reads = rw put.2 (args_go_on c.loop.args.items c.args.count c.loop.counter c.loop.rest.now put.0 c.in_ok-rest.rest.now (args_at c.args.count c.args.bytes.now) c.loop-test.true put.1 c.loop.invariant.reads);
    }

pub returns : goal.returns
returns c = args_done c.loop.args.items c.args.count c.loop.counter c.loop.rest.now (args_at c.args.count c.args.bytes.now) c.loop-test.false c.loop.invariant.reads
