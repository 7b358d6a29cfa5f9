-- One call more is not missing.
use Rattle.std.proofs.Common.{arith, ℕ, Bool, ◌≡◌, ◌&&◌, not, List, take, get_or, sym, ap, ◌∙◌, refl}
use Rattle.std.specs.Prelude.{slice_index_or, false}
use Rattle.std.specs.List.{list_any}
use Rattle.std.proofs.lemmas.List.{take_more, take_all}
use Rattle.tau_model.specs.History.{Act, Numbered, updates}
use Rattle.tau_inspect.specs.Audit.{Case, acts, is_taken}
use Rattle.tau_inspect.specs.Executed.{numbered}
use Rattle.tau_inspect.specs.Taint.{is_missing}
use Rattle.tau_inspect.proofs.Survivals.{act_count, read_there, flag_is}
use Rattle.tau_inspect.proofs.Checked.{here_at}
use Rattle.tau_inspect.proofs.NoneMissing.{any_push}
use Rattle.tau_inspect.specs.Cases.{in_case}
use Rattle.tau_inspect.proofs.check_taint.is_any_missing.Goals as goal

pub loop-i-init : goal.loop-i-init
loop-i-init c = refl

pub loop-i-preserved : goal.loop-i-preserved
loop-i-preserved c =
    let k : Case = (in_case c.args.case.now) in let i : ℕ = c.loop-i.i in let e = c.at-did.result in
    let y : Act Numbered = record { call = numbered c.args.case.now.load.now.calls (get_or c.args.case.now.report.now.order i 0); effect = e } in
    let at = read_there k c.args.done.now c.requires.done c.requires.many i e (omega (arith, c.len-i-end.ensures, c.loop-i-test.true)) c.at-did.ensures.is in
    let here = here_at (acts k) i y at in
    let p : Act Numbered → Bool = is_missing (is_taken k) in
    let flag = flag_is k c.args.takes.now c.requires.there c.requires.flagged i y at in
    let gone : c.is_gone.result ≡ p y = c.is_gone.ensures ∙ ap (λ (b : Bool). updates e && not b) (c.is_flagged.ensures ∙ ap (λ (l : List ℕ). slice_index_or c.args.takes.now (get_or l i 0) false) c.deref.ensures ∙ flag) in
    ap (list_any p) (take_more (acts k) i y here.0) ∙ any_push p (take i (acts k)) (get_or (acts k) i y) c.loop-i.invariant (ap p (sym here.1) ∙ sym gone ∙ c.if-is_gone.false)

pub returns : goal.returns
returns c = λ e.
    let k : Case = (in_case c.args.case.now) in
    ap (list_any (is_missing (is_taken k))) (sym (take_all c.loop-i.i (acts k) (omega (arith, c.len-i-end.ensures, c.loop-i-test.false, act_count k c.args.done.now c.requires.many)))) ∙ c.loop-i.invariant
