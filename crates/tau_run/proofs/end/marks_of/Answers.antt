use Rattle.std.proofs.Common.{ℕ, ◌-◌, ◌∙◌, Bool, true, List, take, sym, ap}
use Rattle.std.specs.Prelude.{slice_set}
use Rattle.tau_run.specs.Fates.{IsNumberOf, marks_in}
use Rattle.tau_run.proofs.Fates.{marks_none, marks_more, told_more, told_number}
use Rattle.tau_run.proofs.end.marks_of.Goals as goal

pub loop-i-init : goal.loop-i-init
loop-i-init c = c.in_ok-marks.ensures.items_if_clones_equal (λ y e. e) ∙ marks_none c.args.calls

pub loop-i-preserved : goal.loop-i-preserved
loop-i-preserved c =
    let acks : List (ℕ × List ℕ) = c.args.acks.now in
    let i : ℕ = c.loop-i.i in
    let n : ℕ = c.number_at.result in
    let (lv, is) = c.number_at.ensures in
    let within : IsNumberOf c.args.calls n = told_number c.args.calls acks i n lv is c.requires in
    ap (λ (l : List Bool). slice_set l (n - 1) true) c.loop-i.invariant ∙ marks_more c.args.calls (take i acks) (n, lv) within ∙ ap (marks_in c.args.calls) (sym (told_more acks i n lv is))
