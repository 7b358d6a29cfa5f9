use Rattle.std.proofs.Common.{ℕ, ◌+◌, ◌-◌, ◌≡◌, ◌∙◌, ◌∷◌, Bool, List, drop, get_or, sym, ap, subst, arith}
use Rattle.std.specs.Prelude.{Some, slice_set}
use Rattle.std.proofs.lemmas.List.{drop_all}
use Rattle.tau_proc.specs.declared.reply.Reply.{Reply}
use Rattle.tau_model.specs.declared.committed.Committed.{Committed}
use Rattle.tau_model.proofs.Places.{drop_before}
use Rattle.tau_report.specs.declared.report.Fate.{Fate}
use Rattle.tau_run.specs.Run.{fate}
use Rattle.tau_run.specs.Fates.{is_told}
use Rattle.tau_run.specs.Fates.{IsNumberOf, fates_in}
use Rattle.tau_run.proofs.Fates.{get_below, fates_none, fates_more}
use Rattle.tau_run.proofs.end.fates_of.Goals as goal

pub loop-i-init : goal.loop-i-init
loop-i-init c =
    let committed : List Committed = c.args.committed.now.items in
    c.in_ok-fates.ensures ∙ fates_none c.args.calls c.args.acks.now ∙ ap (λ (l : List Committed). fates_in c.args.calls l c.args.acks.now) (sym (drop_all c.len-i.result committed (omega (arith, c.len-i.ensures))))

pub loop-i-preserved-in_ok-kept : goal.loop-i-preserved-in_ok-kept
loop-i-preserved-in_ok-kept c =
    let calls : ℕ = c.args.calls in
    let acks : List (ℕ × List ℕ) = c.args.acks.now in
    let committed : List Committed = c.args.committed.now.items in
    let i : ℕ = c.loop-i.i in
    let call : Committed = c.at-call.result in
    let more : drop (i - 1) committed ≡ call ∷ drop i committed = drop_before committed i call (omega arith) (omega arith) c.at-call.ensures.is in
    let within : IsNumberOf calls call.number = subst (λ (x : Committed). IsNumberOf calls x.number) (sym c.at-call.ensures.is) (c.requires.committed (i - 1) call (omega arith)) in
    let mark : c.index.result.now ≡ is_told acks (call.number - 1 + 1) =
    (c.index.ensures ∙ ap (λ (n : ℕ). get_or c.in_ok-marks.marks.items (n - 1) c.index.result.now) c.number.ensures)
    ∙ ap (λ (l : List Bool). get_or l (call.number - 1) c.index.result.now) c.in_ok-marks.ensures
    ∙ get_below (λ k. is_told acks (k + 1)) calls (call.number - 1) c.index.result.now (omega (arith, within.0, within.1)) in
    ap (λ (n : ℕ). slice_set c.loop-i.fates.items (n - 1) c.in_ok-kept.kept) c.number.ensures
    ∙ ap (λ (l : List Fate). slice_set l (call.number - 1) c.in_ok-kept.kept) c.loop-i.invariant
    ∙ fates_more calls call (drop i committed) acks c.in_ok-kept.kept within (c.in_ok-kept.ensures ∙ ap (λ (r : Reply). fate (Some r) c.index.result.now) c.reply.ensures ∙ ap (λ (b : Bool). fate (Some call.reply) b) mark)
    ∙ ap (λ (l : List Committed). fates_in calls l acks) (sym more)

pub loop-i-preserved : goal.loop-i-preserved
loop-i-preserved c =
    let calls : ℕ = c.args.calls in
    let acks : List (ℕ × List ℕ) = c.args.acks.now in
    let committed : List Committed = c.args.committed.now.items in
    let i : ℕ = c.loop-i.i in
    let call : Committed = c.at-call.result in
    let more : drop (i - 1) committed ≡ call ∷ drop i committed = drop_before committed i call (omega arith) (omega arith) c.at-call.ensures.is in
    let within : IsNumberOf calls call.number = subst (λ (x : Committed). IsNumberOf calls x.number) (sym c.at-call.ensures.is) (c.requires.committed (i - 1) call (omega arith)) in
    let mark : c.index.result.now ≡ is_told acks (call.number - 1 + 1) =
    (c.index.ensures ∙ ap (λ (n : ℕ). get_or c.in_ok-marks.marks.items (n - 1) c.index.result.now) c.number.ensures)
    ∙ ap (λ (l : List Bool). get_or l (call.number - 1) c.index.result.now) c.in_ok-marks.ensures
    ∙ get_below (λ k. is_told acks (k + 1)) calls (call.number - 1) c.index.result.now (omega (arith, within.0, within.1)) in
    ap (λ (n : ℕ). slice_set c.loop-i.fates.items (n - 1) c.in_ok-kept.kept) c.number.ensures
    ∙ ap (λ (l : List Fate). slice_set l (call.number - 1) c.in_ok-kept.kept) c.loop-i.invariant
    ∙ fates_more calls call (drop i committed) acks c.in_ok-kept.kept within (c.in_ok-kept.ensures ∙ ap (λ (r : Reply). fate (Some r) c.index.result.now) c.reply.ensures ∙ ap (λ (b : Bool). fate (Some call.reply) b) mark)
    ∙ ap (λ (l : List Committed). fates_in calls l acks) (sym more)
