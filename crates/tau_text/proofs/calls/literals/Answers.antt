use Rattle.std.proofs.Common.{arith}
use Rattle.std.proofs.lemmas.Result.{err_from_is_err_and}
use Rattle.std.proofs.lemmas.Grind.{common_steps}
use Rattle.tau_text.specs.Lines.{words}
use Rattle.tau_text.specs.Forms.{literals}
use Rattle.tau_text.proofs.Literals.{goes_on, no_word, no_literal, is_done}
use Rattle.tau_text.proofs.calls.literals.Goals as goal

pub returns-in_err-word-clause-given : goal.returns-in_err-word-clause-given
returns-in_err-word-clause-given c =
    let p = err_from_is_err_and c.from_residual.result c.from_residual.ensures.1 in
    rw (p.1, p.2) (no_word c.in_err-word.field-0.0 c.loop.args.items c.args.n c.loop.counter (words c.loop.rest.now) (literals c.args.n (words c.args.rest.now)) c.loop-test.true c.in_err-word.ensures c.loop.invariant.so_far)

pub returns-in_err-push_literal-clause-given : goal.returns-in_err-push_literal-clause-given
returns-in_err-push_literal-clause-given c =
    let p = err_from_is_err_and c.from_residual-in_err-push_literal.result c.from_residual-in_err-push_literal.ensures.1 in
    rw (p.1, p.2) (no_literal c.in_err-push_literal.field-0.0 c.loop.args.items c.args.n c.loop.counter (words c.loop.rest.now) c.in_ok-word.word.now (words c.in_ok-word.after.now) (literals c.args.n (words c.args.rest.now)) c.loop-test.true c.in_ok-word.ensures c.in_err-push_literal.ensures c.loop.invariant.so_far)

pub loop-preserved : goal.loop-preserved
loop-preserved c =
    let put = c.in_ok-push_literal.ensures in
    record {
      len = grind (arith, common_steps, put.2);
      so_far = rw put.2 (goes_on c.loop.args.items c.args.n c.loop.counter (words c.loop.rest.now) c.in_ok-word.word.now (words c.in_ok-word.after.now) put.0 (literals c.args.n (words c.args.rest.now)) c.loop-test.true c.in_ok-word.ensures put.1 c.loop.invariant.so_far);
    }

pub returns-clause-given : goal.returns-clause-given
returns-clause-given c = is_done c.loop.args.items c.args.n c.loop.counter (words c.loop.rest.now) (literals c.args.n (words c.args.rest.now)) c.loop-test.false c.loop.invariant.so_far
