-- The walk shows that each check passes.
use Rattle.std.proofs.Common.{◌≡◌, true, List, length, refl, subst, ◌∙◌}
use Rattle.std.specs.Prelude.{IfSome}
use Rattle.tau_model.specs.Store.{database}
use Rattle.tau_scan.specs.Taken.{Kept}
use Rattle.tau_inspect.specs.declared.verdict.Verdict.TheVariants.{Yes}
use Rattle.tau_inspect.specs.declared.walk.Walk.{Walk}
use Rattle.tau_inspect.specs.Audit.{Case, acts, records, FitRows, IsVerdict}
use Rattle.tau_inspect.specs.Cases.{in_case}
use Rattle.tau_inspect.specs.Executed.{rows_after}
use Rattle.tau_inspect.specs.Walks.{IsAt, IsPassed, Walks}
use Rattle.tau_inspect.proofs.Followed.{passed_whole, walked_yes}
use Rattle.tau_inspect.proofs.Survivals.{ok_then}
use Rattle.tau_inspect.proofs.walk.passes_from.Goals as goal

pub returns : goal.returns
returns c =
    let k : Case = (in_case c.args.case.now) in let begun : Walk = c.args.walk.now in let stop : Walk = c.run_along.new.walk in
    let all : List Kept = c.args.all.now in
    let ran : IsAt all k.log.elv stop × Walks k begun (acts k) stop × (database c.in-Some.store ≡ rows_after k.load.declarations.procs k.load.calls k.report.order) =
    subst (λ o. IfSome o (λ store. IsAt all k.log.elv stop × Walks k begun (acts k) stop × (database store ≡ rows_after k.load.declarations.procs k.load.calls k.report.order))) c.in-Some.is c.in_ok-store.ensures in
    let copied : c.as_slice-2.result.now ≡ begun.nexts.items = c.as_slice-2.ensures.value ∙ c.in_ok-first.ensures ∙ c.as_slice.ensures.value in
    let whole : IsPassed (length (records k)) (length k.log.elv) begun.nexts.items stop.nexts.items =
    passed_whole k all begun stop c.as_slice-2.result.now c.as_slice-3.result.now (length all) c.requires.all copied c.as_slice-3.ensures.value refl c.requires.at (c.is_whole_way.ensures c.if-not-is_whole_way.false) in
    ok_then (λ same. same ≡ true → FitRows k) (λ found. found ≡ true → IsVerdict k Yes) c.has_rows.result c.has_rows.ensures (λ same fit t.
    walked_yes k c.requires.is c.requires.passed begun stop ran.1 (subst (λ (rs : List Kept). IsAt rs k.log.elv begun) c.requires.all c.requires.at) whole (fit t))
