-- The listing gives the reported history.
use Rattle.std.proofs.Common.{ℕ, ◌≡◌, List, length, sym, ap, subst, ◌∙◌}
use Rattle.std.specs.Prelude.{All, Some, slice_get}
use Rattle.tau_model.specs.declared.committed.Committed.{Committed}
use Rattle.tau_model.specs.Committed.{IsWithin, reported_numbers}
use Rattle.tau_inspect.specs.Audit.{Case, due}
use Rattle.tau_inspect.specs.Firsts.{Finds}
use Rattle.tau_inspect.proofs.Due.{due_is}
use Rattle.tau_inspect.proofs.Fitting.{all_within}
use Rattle.tau_inspect.specs.Cases.{in_case}
use Rattle.tau_inspect.proofs.check_order.check_order.Goals as goal

pub reported-requires : goal.reported-requires
reported-requires c = subst (All (IsWithin c.args.case.now.log.now.elv)) (sym c.in_ok-list.ensures) (all_within (in_case c.args.case.now) c.requires.is c.requires.whole)

pub returns : goal.returns
returns c =
    let k : Case = (in_case c.args.case.now) in
    let is : c.as_slice-2.result.now ≡ due k = c.as_slice-2.ensures.value ∙ c.in_ok-due.ensures ∙ ap (λ (l : List Committed). reported_numbers k.log.elv l) c.in_ok-list.ensures ∙ due_is k in
    subst (λ (l : List ℕ). Finds (λ (n : ℕ). n) (λ (before : List ℕ) (n : ℕ). slice_get (due k) (length before) ≡ Some n) l c.first_other.result) c.as_slice.ensures
    (subst (λ (l : List ℕ). Finds (λ (n : ℕ). n) (λ (before : List ℕ) (n : ℕ). slice_get l (length before) ≡ Some n) c.as_slice.result.now c.first_other.result) is c.first_other.ensures)
