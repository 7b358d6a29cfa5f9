-- One acknowledged call after the other survives, or one does not.
use Rattle.std.proofs.Common.{ℕ, ◌≡◌, List, length, get_or, sym, ap, ◌∙◌, arith}
use Rattle.std.proofs.lemmas.Bool.{both_ways}
use Rattle.tau_inspect.specs.Audit.{Case, FitsAck}
use Rattle.tau_inspect.proofs.Firsts.{fit_none, fit_more, unfit_here}
use Rattle.tau_inspect.specs.Cases.{in_case}
use Rattle.tau_inspect.proofs.check_taint.check_acks.Goals as goal

pub loop-i-init : goal.loop-i-init
loop-i-init c = fit_none (FitsAck (in_case c.args.case.now))

pub loop-i-preserved : goal.loop-i-preserved
loop-i-preserved c =
    let k : Case = (in_case c.args.case.now) in let i : ℕ = c.loop-i.i in let a : ℕ × List ℕ = c.index-acks-i.result in
    let is : a ≡ get_or k.report.acks i a = c.index-acks-i.is ∙ ap (λ (l : List (ℕ × List ℕ)). get_or l i a) c.requires.acks in
    fit_more (FitsAck k) k.report.acks i a (omega (arith, c.loop-i-test.true, ap length c.requires.acks)) is c.loop-i.invariant
    (λ x m n. c.survives.ensures.0 c.if-not-survives.false x m (n ∙ sym c.number-number.ensures))

pub returns-then-not-survives : goal.returns-then-not-survives
returns-then-not-survives c =
    let k : Case = (in_case c.args.case.now) in let i : ℕ = c.loop-i.i in let a : ℕ × List ℕ = c.index-acks-i.result in
    let is : a ≡ get_or k.report.acks i a = c.index-acks-i.is ∙ ap (λ (l : List (ℕ × List ℕ)). get_or l i a) c.requires.acks in
    unfit_here (FitsAck k) (λ (b : ℕ × List ℕ). b.0) k.report.acks i a c.number-number.result (omega (arith, c.loop-i-test.true, ap length c.requires.acks)) is c.loop-i.invariant
    (λ h. both_ways c.survives.result c.if-not-survives.true (c.survives.ensures.1 (λ x m n. h x m (n ∙ c.number-number.ensures)))) (sym c.number-number.ensures)
