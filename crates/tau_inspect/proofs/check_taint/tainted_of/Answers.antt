-- What the marks tell is dependence.
use Rattle.std.proofs.Common.{Bool, ◌≡◌, List, length, map, ap, ◌∙◌}
use Rattle.std.proofs.lemmas.List.{length-map}
use Rattle.tau_proc.specs.Effect.{Effect}
use Rattle.tau_inspect.specs.Audit.{Case, acts, is_taken}
use Rattle.tau_inspect.specs.Executed.{effects}
use Rattle.tau_inspect.specs.KnowsTaint.{KnowsTaint}
use Rattle.tau_inspect.specs.Taint.{unmarked, is_missing, taints}
use Rattle.tau_inspect.proofs.Survivals.{act_count, knows, taints_length, ok_then}
use Rattle.tau_inspect.specs.Cases.{in_case}
use Rattle.tau_inspect.proofs.check_taint.tainted_of.Goals as goal

pub taints-requires : goal.taints-requires
taints-requires c =
    let k : Case = (in_case c.args.case.now) in
    ap length (c.as_slice.ensures.value ∙ c.in_ok-missing.ensures) ∙ length-map (acts k) (is_missing (is_taken k)) ∙ act_count k c.args.done.now c.requires.many

pub returns : goal.returns
returns c =
    let k : Case = (in_case c.args.case.now) in
    let flags : c.as_slice.result.now ≡ map (is_missing (is_taken k)) (acts k) = c.as_slice.ensures.value ∙ c.in_ok-missing.ensures in
    ok_then (λ t. t.items ≡ taints unmarked c.args.done.now c.as_slice.result.now) (λ t. KnowsTaint k t.items) c.taints.result c.taints.ensures
    (λ t is. knows k c.requires.unique t.items
    (is ∙ ap (λ (l : List Effect). taints unmarked l c.as_slice.result.now) c.requires.done ∙ ap (λ (l : List Bool). taints unmarked (effects (acts k)) l) flags)
    (ap length is ∙ taints_length c.args.done.now unmarked c.as_slice.result.now ∙ c.requires.many))
