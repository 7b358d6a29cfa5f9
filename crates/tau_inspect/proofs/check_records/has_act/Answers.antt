-- The call of the record's number, where the order has one.
use Rattle.std.proofs.Common.{ℕ, false, refl, ◌≡◌, length, sym, ap, ◌∙◌, arith, rules}
use Rattle.std.specs.Prelude.{Some, slice_get}
use Rattle.std.proofs.lemmas.Option.{slice_get_within}
use Rattle.std.proofs.lemmas.Bool.{both_ways}
use Rattle.tau_inspect.specs.ByNumber.{is_in}
use Rattle.tau_inspect.specs.Audit.{Case}
use Rattle.tau_inspect.specs.Executed.{IsNumberOf}
use Rattle.tau_inspect.proofs.Recorded.{of_all, no_act, reads_only, act_iff, no_writes, some_writes}
use Rattle.tau_inspect.specs.Cases.{in_case}
use Rattle.tau_inspect.proofs.check_records.has_act.Goals as goal

pub returns-in-None : goal.returns-in-None
returns-in-None c =
    let k : Case = (in_case c.args.case.now) in
    (λ t. absurd (both_ways false refl t), λ h. absurd (no_act k c.args.done.now c.requires.done c.requires.many c.requires.there c.requires.unique c.args.one.now (λ le. ap (λ (n : ℕ). is_in n c.args.case.now.report.now.order) (sym c.number.ensures) ∙ c.in-None.ensures.none (length c.args.case.now.load.now.calls) c.args.case.now.report.now.order c.requires.placed (omega (arith, le, c.number.ensures))) h))

pub at-did-requires : goal.at-did-requires
at-did-requires c =
    let at = c.in-Some.ensures.some (length c.args.case.now.load.now.calls) c.args.case.now.report.now.order c.requires.placed in
    omega (arith, slice_get_within c.args.case.now.report.now.order c.in-Some.index c.number.result at, c.requires.many)

pub returns-then-is_empty : goal.returns-then-is_empty
returns-then-is_empty c =
    let k : Case = (in_case c.args.case.now) in
    let at : slice_get c.args.case.now.report.now.order c.in-Some.index ≡ Some c.args.one.now.number = c.in-Some.ensures.some (length c.args.case.now.load.now.calls) c.args.case.now.report.now.order c.requires.placed ∙ ap (λ (n : ℕ). Some n) c.number.ensures in
    (λ t. absurd (both_ways false refl t), λ h. absurd (reads_only k c.args.done.now c.requires.done c.requires.many c.requires.there c.requires.unique c.args.one.now c.in-Some.index c.at-did.result at c.at-did.ensures.at (search (rules, no_writes)) h))

pub overflow_sub-number : goal.overflow_sub-number
overflow_sub-number c =
    let at = c.in-Some.ensures.some (length c.args.case.now.load.now.calls) c.args.case.now.report.now.order c.requires.placed in
    let w = of_all (IsNumberOf c.args.case.now.load.now.calls) c.args.case.now.report.now.order c.in-Some.index c.number.result c.requires.there at in
    omega (arith, w.0, c.number.ensures, c.number-in-Some.ensures)

pub at-requires : goal.at-requires
at-requires c =
    let at = c.in-Some.ensures.some (length c.args.case.now.load.now.calls) c.args.case.now.report.now.order c.requires.placed in
    let w = of_all (IsNumberOf c.args.case.now.load.now.calls) c.args.case.now.report.now.order c.in-Some.index c.number.result c.requires.there at in
    omega (arith, w.0, w.1, c.number.ensures, c.number-in-Some.ensures)

pub returns-else-is_empty : goal.returns-else-is_empty
returns-else-is_empty c =
    let k : Case = (in_case c.args.case.now) in
    let at : slice_get c.args.case.now.report.now.order c.in-Some.index ≡ Some c.args.one.now.number = c.in-Some.ensures.some (length c.args.case.now.load.now.calls) c.args.case.now.report.now.order c.requires.placed ∙ ap (λ (n : ℕ). Some n) c.number.ensures in
    act_iff k c.args.done.now c.requires.done c.requires.many c.requires.there c.requires.unique c.args.one.now c.in-Some.index c.at-did.result at c.at-did.ensures.at c.has_work.result c.at.result.now
    (search (rules, some_writes)) (search rules) (search rules)
