-- One more call.
use Rattle.std.proofs.Common.{ℕ, List, ◌+◌, ◌∷◌, [], ◌≡◌, ◌<◌, ◌≤◌, ◌^◌, length, refl, sym, ap, subst, ◌∙◌, arith, rules}
use Rattle.std.proofs.lemmas.List.{length-append}
use Rattle.tau_report.specs.declared.report.Fate.{Fate}
use Rattle.tau_inspect.specs.Bodies.{fate_body}
use Rattle.tau_inspect.specs.ReportFor.{IsFate}
use Rattle.tau_inspect.specs.Sections.{AreFates, NoLine}
use Rattle.tau_inspect.proofs.Leaving.{fates_all, fates_none}
use Rattle.tau_inspect.proofs.ReadSections.{fate_more}
use Rattle.tau_inspect.proofs.sections.read_fates.Goals as goal

pub returns-in-None-clause-few : goal.returns-in-None-clause-few
returns-in-None-clause-few c = omega (arith, c.loop-before.invariant.0, c.loop-before-test.true)

pub returns-in-None-clause-stops : goal.returns-in-None-clause-stops
returns-in-None-clause-stops c =
    let small : c.args.calls < 2 ^ 32 = search rules in
    let few : length c.loop-before.fates ≤ c.args.calls = omega (arith, c.loop-before.invariant.0, c.loop-before-test.true) in
    fates_none c.args.calls small c.args.text.now c.loop-before.fates c.loop-before.rest.now c.loop-before.invariant.1 few
    (subst (λ (k : ℕ). NoLine (fate_body (k + 1)) IsFate c.loop-before.rest.now) (c.from.ensures ∙ sym c.loop-before.invariant.0) (rw c.in-None.is at c.in_ok-next_fate.ensures))

pub loop-before-preserved : goal.loop-before-preserved
loop-before-preserved c =
    let before : ℕ = c.loop-before.before in
    let fates : List Fate = c.loop-before.fates in
    let f = c.in-Some.fate in
    let found = rw c.in-Some.is at c.in_ok-next_fate.ensures in
    subst (λ (l : List Fate). (length l ≡ before + 1) × AreFates c.args.text.now l c.in-Some.following.now) (sym c.in_ok-push-in-Some.ensures.ok) (
      length-append fates (f ∷ []) ∙ ap (λ (n : ℕ). n + 1) c.loop-before.invariant.0,
      fate_more c.args.text.now fates c.loop-before.rest.now (fate_body (c.from.result + 1) f) c.in-Some.following.now f (c.from.result + 1) c.loop-before.invariant.1 found.0 found.1 (omega (arith, c.from.ensures, c.loop-before.invariant.0)) refl,
    )

pub returns-clause-few : goal.returns-clause-few
returns-clause-few c = omega (arith, c.loop-before.invariant.0, c.loop-before.auto.before-end)

pub returns-clause-stops : goal.returns-clause-stops
returns-clause-stops c =
    let small : c.args.calls < 2 ^ 32 = search rules in
    let all : length c.loop-before.fates ≡ c.args.calls = omega (arith, c.loop-before.invariant.0, c.loop-before-test.false, c.loop-before.auto.before-end) in
    fates_all c.args.calls small c.args.text.now c.loop-before.fates c.loop-before.rest.now c.loop-before.invariant.1 (omega (arith, all)) all
