-- One call after the other is told so, or one is not.
use Rattle.std.proofs.Common.{ℕ, ◌+◌, ◌<◌, refl, arith, rules, length}
use Rattle.tau_inspect.specs.Audit.{Case, numbers, FitsFate}
use Rattle.tau_inspect.proofs.Firsts.{fit_none, fit_more, fit_all, unfit_here}
use Rattle.tau_inspect.proofs.Checked.{fate_fits, fate_unfit, number_get, range_length}
use Rattle.tau_inspect.specs.Cases.{in_case}
use Rattle.tau_inspect.proofs.checks.check_fate.Goals as goal

pub loop-i-init : goal.loop-i-init
loop-i-init c = fit_none (FitsFate (in_case c.args.case.now))

pub loop-i-preserved : goal.loop-i-preserved
loop-i-preserved c =
    let k : Case = (in_case c.args.case.now) in let i : ℕ = c.loop-i.i in
    let lt : i < length c.args.case.now.report.now.fates = search rules in
    let n = length c.args.case.now.load.now.calls in
    fit_more (FitsFate k) (numbers k) i (i + 1) (omega (arith, lt, c.requires.many, range_length n 1)) (number_get n i (omega (arith, lt, c.requires.many))) c.loop-i.invariant
    (fate_fits k c.args.counts.now c.args.acked.now c.requires.many c.requires.counted c.requires.flagged i c.index-deref-i.result lt (search rules) (search rules))

pub returns-then-not-told_so : goal.returns-then-not-told_so
returns-then-not-told_so c =
    let k : Case = (in_case c.args.case.now) in let i : ℕ = c.loop-i.i in
    let lt : i < length c.args.case.now.report.now.fates = search rules in
    let n = length c.args.case.now.load.now.calls in
    unfit_here (FitsFate k) (λ (x : ℕ). x) (numbers k) i (i + 1) (i + 1) (omega (arith, lt, c.requires.many, range_length n 1)) (number_get n i (omega (arith, lt, c.requires.many))) c.loop-i.invariant
    (fate_unfit k c.args.counts.now c.args.acked.now c.requires.many c.requires.counted c.requires.flagged i c.index-deref-i.result lt (search rules) (search rules)) refl

pub returns : goal.returns
returns c =
    let k : Case = (in_case c.args.case.now) in
    fit_all (FitsFate k) (numbers k) c.loop-i.i (omega (arith, c.loop-i-test.false, c.requires.many, range_length (length c.args.case.now.load.now.calls) 1)) c.loop-i.invariant
