-- The call with the number, where the order has one.
use Rattle.std.proofs.Common.{ℕ, refl, length, arith, rules}
use Rattle.std.proofs.lemmas.Option.{slice_get_within}
use Rattle.tau_model.specs.History.{Act, Numbered}
use Rattle.tau_inspect.specs.Audit.{Case}
use Rattle.tau_inspect.specs.Executed.{numbered}
use Rattle.tau_inspect.proofs.Survivals.{there_is, no_survivor, survive_iff}
use Rattle.tau_inspect.specs.Cases.{in_case}
use Rattle.tau_inspect.proofs.check_taint.survives.Goals as goal

pub returns-in-None : goal.returns-in-None
returns-in-None c =
    let k : Case = (in_case c.args.case.now) in
    ((λ t x m n. absurd (no_survivor k c.args.number c.requires.there (c.in-None.ensures.none (length c.args.case.now.load.now.calls) c.args.case.now.report.now.order c.requires.placed) x m n)), (λ h. refl))

pub at-did-requires : goal.at-did-requires
at-did-requires c =
    let at = c.in-Some.ensures.some (length c.args.case.now.load.now.calls) c.args.case.now.report.now.order c.requires.placed in
    omega (arith, slice_get_within c.args.case.now.report.now.order c.in-Some.index c.args.number at, c.requires.many)

pub returns-in-Some : goal.returns-in-Some
returns-in-Some c =
    let k : Case = (in_case c.args.case.now) in let i : ℕ = c.in-Some.index in
    let at = c.in-Some.ensures.some (length c.args.case.now.load.now.calls) c.args.case.now.report.now.order c.requires.placed in
    let y : Act Numbered = record { call = numbered c.args.case.now.load.now.calls c.args.number; effect = c.at-did.result } in
    let there = there_is k c.args.done.now c.requires.done c.requires.many i c.at-did.result c.args.number c.at-did.ensures.at at in
    survive_iff k c.args.takes.now c.args.tainted.now c.requires.there c.requires.flagged c.requires.knows i y there c.args.number c.requires.unique refl c.survives_so.result (search rules)
