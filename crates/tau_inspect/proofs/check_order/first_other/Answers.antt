-- One number after the other stands so, or one does not.
use Rattle.std.proofs.Common.{ℕ, ◌≡◌, List, length, take, get_or, refl, sym, ap, ◌∙◌, arith}
use Rattle.std.specs.Prelude.{Some, slice_get}
use Rattle.std.proofs.lemmas.Bool.{both_ways}
use Rattle.std.proofs.lemmas.List.{length-take-le}
use Rattle.tau_inspect.proofs.Firsts.{fit_none, fit_more, unfit_here, own_default}
use Rattle.tau_inspect.proofs.check_order.first_other.Goals as goal

pub loop-i-init : goal.loop-i-init
loop-i-init c = fit_none (λ (before : List ℕ) (n : ℕ). slice_get c.args.due.now (length before) ≡ Some n)

pub loop-i-preserved : goal.loop-i-preserved
loop-i-preserved c =
    let order : List ℕ = c.args.order.now in let i : ℕ = c.loop-i.i in let n : ℕ = get_or order i 0 in
    let long : length (take i order) ≡ i = length-take-le i order (omega (arith, c.loop-i-test.true)) in
    fit_more (λ (before : List ℕ) (m : ℕ). slice_get c.args.due.now (length before) ≡ Some m) order i n c.loop-i-test.true (own_default order i 0 c.loop-i-test.true) c.loop-i.invariant
    (ap (slice_get c.args.due.now) long ∙ c.stands.ensures.0 c.if-not-stands.false)

pub returns-then-not-stands : goal.returns-then-not-stands
returns-then-not-stands c =
    let order : List ℕ = c.args.order.now in let i : ℕ = c.loop-i.i in let n : ℕ = get_or order i 0 in
    let long : length (take i order) ≡ i = length-take-le i order (omega (arith, c.loop-i-test.true)) in
    unfit_here (λ (before : List ℕ) (m : ℕ). slice_get c.args.due.now (length before) ≡ Some m) (λ (m : ℕ). m) order i n n c.loop-i-test.true (own_default order i 0 c.loop-i-test.true) c.loop-i.invariant
    (λ h. both_ways c.stands.result c.if-not-stands.true (c.stands.ensures.1 (ap (slice_get c.args.due.now) (sym long) ∙ h))) refl
