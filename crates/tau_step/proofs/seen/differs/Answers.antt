use Rattle.std.proofs.Common.{◌≡◌, ◌↔◌, Bool, true, false, Option, Some, IsTrue, IsFalse, not, refl, sym, ap, ◌∙◌}
use Rattle.tau_base.specs.declared.value.Value.{Value}
use Rattle.tau_step.proofs.seen.differs.Goals as goal

-- a row that does not agree with what was seen
other_row : (b : Bool) (seen : Option Value) (v row : Value) → (IsTrue b ↔ (seen ≡ Some v)) → v ≡ row → IsTrue (not b) → seen ≡ Some row → ⊥
other_row true seen v row agrees same t e = cc
other_row false seen v row agrees same t e = (let bad = agrees.1 (e ∙ ap (λ (x : Value). Some x) (sym same)) in cc)

-- and one that does
same_row : (b : Bool) (seen : Option Value) (v row : Value) → (IsTrue b ↔ (seen ≡ Some v)) → v ≡ row → IsFalse (not b) → seen ≡ Some row
same_row true seen v row agrees same f = agrees.0 refl ∙ ap (λ (x : Value). Some x) same
same_row false seen v row agrees same f = cc

pub returns-in-Read-clause-so : goal.returns-in-Read-clause-so
returns-in-Read-clause-so c = λ t. (c.in-Read.is, λ K h stands. other_row c.agrees.result _ c.value.result _ c.agrees.ensures (c.value.ensures K h stands) t)

pub returns-in-Read-clause-not : goal.returns-in-Read-clause-not
returns-in-Read-clause-not c = λ f mode K h stands. same_row c.agrees.result _ c.value.result _ c.agrees.ensures (c.value.ensures K h stands) f

pub returns-in-Write-clause-so : goal.returns-in-Write-clause-so
returns-in-Write-clause-so c = λ t. absurd (let bad : false ≡ true = t in cc)

pub returns-in-Write-clause-not : goal.returns-in-Write-clause-not
returns-in-Write-clause-not c = λ f mode K h stands. absurd (let bad = sym c.in-Write.is ∙ mode in cc)
