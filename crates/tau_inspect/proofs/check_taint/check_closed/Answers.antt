-- One call after the other depends on none that is not taken, or is not taken itself; or one does and is.
use Rattle.std.proofs.Common.{ℕ, Bool, false, ◌&&◌, ◌≡◌, List, get_or, true, sym, ap, ◌∙◌, arith}
use Rattle.std.specs.Prelude.{slice_index_or}
use Rattle.std.proofs.lemmas.Option.{get_or_from_slice_get}
use Rattle.tau_base.proofs.Lists.{some_at}
use Rattle.tau_base.specs.Database.{empty_db}
use Rattle.tau_model.specs.History.{Act, Numbered}
use Rattle.tau_inspect.specs.Audit.{Case, acts, FitsClosed}
use Rattle.tau_inspect.proofs.Firsts.{fit_none, fit_more, fit_all, unfit_here}
use Rattle.tau_inspect.proofs.Acts.{number_at}
use Rattle.tau_inspect.proofs.Checked.{here_at}
use Rattle.tau_inspect.proofs.Survivals.{act_count, closed_so, open_so}
use Rattle.tau_inspect.specs.Cases.{in_case}
use Rattle.tau_inspect.proofs.check_taint.check_closed.Goals as goal

pub loop-i-init : goal.loop-i-init
loop-i-init c = fit_none (FitsClosed (in_case c.args.case.now))

pub loop-i-preserved : goal.loop-i-preserved
loop-i-preserved c =
    let k : Case = (in_case c.args.case.now) in let i : ℕ = c.loop-i.i in
    let (y, at) = some_at (acts k) i (omega (arith, c.len-i-end.ensures, c.loop-i-test.true, act_count k c.args.done.now c.requires.many)) in
    let here = here_at (acts k) i y at in
    let number : get_or c.deref.result.now i 0 ≡ y.call.number = ap (λ (l : List ℕ). get_or l i 0) c.deref.ensures ∙ get_or_from_slice_get k.report.order i y.call.number 0 (number_at k.load.declarations.procs k.load.calls k.report.order empty_db i y at) in
    let told : (slice_index_or c.args.takes.now y.call.number false && slice_index_or c.args.tainted.now i false) ≡ false =
    ap (λ (b : Bool). b && slice_index_or c.args.tainted.now i false) (ap (λ (n : ℕ). slice_index_or c.args.takes.now n false) (sym number) ∙ sym c.is_flagged.ensures)
    ∙ ap (λ (b : Bool). c.is_flagged.result && b) (sym c.is_flagged-in-loop-i.ensures) ∙ sym c.both.ensures ∙ c.if-both.false in
    fit_more (FitsClosed k) (acts k) i y here.0 here.1 c.loop-i.invariant (closed_so k c.args.takes.now c.args.tainted.now c.requires.there c.requires.flagged c.requires.knows i y at told)

pub returns-then-both : goal.returns-then-both
returns-then-both c =
    let k : Case = (in_case c.args.case.now) in let i : ℕ = c.loop-i.i in
    let (y, at) = some_at (acts k) i (omega (arith, c.len-i-end.ensures, c.loop-i-test.true, act_count k c.args.done.now c.requires.many)) in
    let here = here_at (acts k) i y at in
    let number : get_or c.deref.result.now i 0 ≡ y.call.number = ap (λ (l : List ℕ). get_or l i 0) c.deref.ensures ∙ get_or_from_slice_get k.report.order i y.call.number 0 (number_at k.load.declarations.procs k.load.calls k.report.order empty_db i y at) in
    let told : (slice_index_or c.args.takes.now y.call.number false && slice_index_or c.args.tainted.now i false) ≡ true =
    ap (λ (b : Bool). b && slice_index_or c.args.tainted.now i false) (ap (λ (n : ℕ). slice_index_or c.args.takes.now n false) (sym number) ∙ sym c.is_flagged.ensures)
    ∙ ap (λ (b : Bool). c.is_flagged.result && b) (sym c.is_flagged-in-loop-i.ensures) ∙ sym c.both.ensures ∙ c.if-both.true in
    unfit_here (FitsClosed k) (λ (x : Act Numbered). x.call.number) (acts k) i y _ here.0 here.1 c.loop-i.invariant (open_so k c.args.takes.now c.args.tainted.now c.requires.there c.requires.flagged c.requires.knows i y at told) (sym number)

pub returns : goal.returns
returns c =
    let k : Case = (in_case c.args.case.now) in
    fit_all (FitsClosed k) (acts k) c.loop-i.i (omega (arith, c.len-i-end.ensures, c.loop-i-test.false, act_count k c.args.done.now c.requires.many)) c.loop-i.invariant
