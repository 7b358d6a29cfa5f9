-- What has passed before these checks.
use Rattle.std.proofs.Common.{ℕ, Bool, List, length, subst, sym, ◌∙◌}
use Rattle.tau_inspect.specs.ByNumber.{HasFlags}
use Rattle.tau_inspect.specs.Audit.{Case}
use Rattle.tau_inspect.proofs.NoneMissing.{none_missing}
use Rattle.tau_inspect.proofs.Staged.{many, unique_order, takes_flagged}
use Rattle.tau_inspect.specs.Cases.{in_case}
use Rattle.tau_inspect.proofs.stages.by_taken.Goals as goal

pub is_any_missing-requires-clause-many : goal.is_any_missing-requires-clause-many
is_any_missing-requires-clause-many c = many (in_case c.args.case.now) c.args.done.now c.requires.done

pub is_any_missing-requires-clause-flagged : goal.is_any_missing-requires-clause-flagged
is_any_missing-requires-clause-flagged c =
    let k : Case = (in_case c.args.case.now) in
    takes_flagged k c.args.all.now c.as_slice-2.result.now c.as_slice.result.now c.requires.passed.0 c.requires.all (c.as_slice.ensures.value ∙ c.in_ok-numbers.ensures)
    (subst (λ (l : List Bool). HasFlags (length c.args.case.now.load.now.calls) c.as_slice.result.now l) (sym c.as_slice-2.ensures.value) (subst (λ (n : ℕ). HasFlags n c.as_slice.result.now c.in_ok-takes.takes.items) c.len.ensures c.in_ok-takes.ensures))

pub by_order-requires-clause-passed : goal.by_order-requires-clause-passed
by_order-requires-clause-passed c = none_missing (in_case c.args.case.now) (c.is_any_missing.ensures c.if-not-is_any_missing.true) c.requires.passed

pub tainted_of-requires-clause-many : goal.tainted_of-requires-clause-many
tainted_of-requires-clause-many c = many (in_case c.args.case.now) c.args.done.now c.requires.done

pub tainted_of-requires-clause-unique : goal.tainted_of-requires-clause-unique
tainted_of-requires-clause-unique c = unique_order (in_case c.args.case.now) c.requires.is c.requires.passed.1.0

pub tainted_of-requires-clause-flagged : goal.tainted_of-requires-clause-flagged
tainted_of-requires-clause-flagged c =
    let k : Case = (in_case c.args.case.now) in
    takes_flagged k c.args.all.now c.as_slice-3.result.now c.as_slice.result.now c.requires.passed.0 c.requires.all (c.as_slice.ensures.value ∙ c.in_ok-numbers.ensures)
    (subst (λ (l : List Bool). HasFlags (length c.args.case.now.load.now.calls) c.as_slice.result.now l) (sym c.as_slice-3.ensures.value) (subst (λ (n : ℕ). HasFlags n c.as_slice.result.now c.in_ok-takes.takes.items) c.len.ensures c.in_ok-takes.ensures))

pub check_acks-requires-clause-many : goal.check_acks-requires-clause-many
check_acks-requires-clause-many c = many (in_case c.args.case.now) c.args.done.now c.requires.done

pub check_acks-requires-clause-unique : goal.check_acks-requires-clause-unique
check_acks-requires-clause-unique c = unique_order (in_case c.args.case.now) c.requires.is c.requires.passed.1.0

pub check_acks-requires-clause-flagged : goal.check_acks-requires-clause-flagged
check_acks-requires-clause-flagged c =
    let k : Case = (in_case c.args.case.now) in
    takes_flagged k c.args.all.now c.as_slice-4.result.now c.as_slice.result.now c.requires.passed.0 c.requires.all (c.as_slice.ensures.value ∙ c.in_ok-numbers.ensures)
    (subst (λ (l : List Bool). HasFlags (length c.args.case.now.load.now.calls) c.as_slice.result.now l) (sym c.as_slice-4.ensures.value) (subst (λ (n : ℕ). HasFlags n c.as_slice.result.now c.in_ok-takes.takes.items) c.len.ensures c.in_ok-takes.ensures))

pub check_closed-requires-clause-many : goal.check_closed-requires-clause-many
check_closed-requires-clause-many c = many (in_case c.args.case.now) c.args.done.now c.requires.done

pub check_closed-requires-clause-flagged : goal.check_closed-requires-clause-flagged
check_closed-requires-clause-flagged c =
    let k : Case = (in_case c.args.case.now) in
    takes_flagged k c.args.all.now c.as_slice-in-None.result.now c.as_slice.result.now c.requires.passed.0 c.requires.all (c.as_slice.ensures.value ∙ c.in_ok-numbers.ensures)
    (subst (λ (l : List Bool). HasFlags (length c.args.case.now.load.now.calls) c.as_slice.result.now l) (sym c.as_slice-in-None.ensures.value) (subst (λ (n : ℕ). HasFlags n c.as_slice.result.now c.in_ok-takes.takes.items) c.len.ensures c.in_ok-takes.ensures))
