-- One call after the other replied so, or one did not.
use Rattle.std.proofs.Common.{ℕ, ◌<◌, ap, arith, rules, length}
use Rattle.std.proofs.lemmas.Option.{slice_get-get_or}
use Rattle.tau_base.specs.Database.{empty_db}
use Rattle.tau_model.specs.History.{Act, Numbered}
use Rattle.tau_inspect.specs.Audit.{Case, acts, FitsReply}
use Rattle.tau_inspect.proofs.Firsts.{fit_none, fit_more, fit_all, unfit_here}
use Rattle.tau_inspect.proofs.Acts.{run_length}
use Rattle.tau_inspect.proofs.Checked.{act_there, here_at}
use Rattle.tau_inspect.specs.Cases.{in_case}
use Rattle.tau_inspect.proofs.checks.check_reply.Goals as goal

pub loop-i-init : goal.loop-i-init
loop-i-init c = fit_none (FitsReply (in_case c.args.case.now))

pub bounds-deref-i : goal.bounds-deref-i
bounds-deref-i c = omega (arith, c.len-i-end.ensures, c.loop-i-test.true, c.requires.many, ap length c.deref.ensures)

pub loop-i-preserved : goal.loop-i-preserved
loop-i-preserved c =
    let k : Case = (in_case c.args.case.now) in let i : ℕ = c.loop-i.i in
    let lt : i < length c.args.case.now.report.now.order = omega (arith, c.len-i-end.ensures, c.loop-i-test.true, c.requires.many) in
    let at = slice_get-get_or c.args.case.now.report.now.order i 0 lt in
    let there = act_there k c.args.done.now i _ c.at-did.result c.requires.done (omega (arith, c.len-i-end.ensures, c.loop-i-test.true)) c.at-did.ensures.is at in
    let here = here_at (acts k) i _ there in
    fit_more (FitsReply k) (acts k) i _ here.0 here.1 c.loop-i.invariant (search rules)

pub returns-then-not-has_replied : goal.returns-then-not-has_replied
returns-then-not-has_replied c =
    let k : Case = (in_case c.args.case.now) in let i : ℕ = c.loop-i.i in
    let lt : i < length c.args.case.now.report.now.order = omega (arith, c.len-i-end.ensures, c.loop-i-test.true, c.requires.many) in
    let at = slice_get-get_or c.args.case.now.report.now.order i 0 lt in
    let there = act_there k c.args.done.now i _ c.at-did.result c.requires.done (omega (arith, c.len-i-end.ensures, c.loop-i-test.true)) c.at-did.ensures.is at in
    let here = here_at (acts k) i _ there in
    unfit_here (FitsReply k) (λ (x : Act Numbered). x.call.number) (acts k) i _ _ here.0 here.1 c.loop-i.invariant (search rules) (search rules)

pub returns : goal.returns
returns c =
    let k : Case = (in_case c.args.case.now) in
    fit_all (FitsReply k) (acts k) c.loop-i.i (omega (arith, c.len-i-end.ensures, c.loop-i-test.false, c.requires.many, run_length c.args.case.now.load.now.declarations.procs c.args.case.now.load.now.calls c.args.case.now.report.now.order empty_db)) c.loop-i.invariant
