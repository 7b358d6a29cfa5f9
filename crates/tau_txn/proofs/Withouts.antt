-- A key that is taken out of the held ones.
use Rattle.std.proofs.Common.{not, ◌≡◌, inl, inr, List, [], ◌∷◌, filter, refl, ap}
use Rattle.std.proofs.lemmas.Bool.{cases_Bool}
use Rattle.tau_base.specs.declared.value.Key.{Key}
use Rattle.tau_base.specs.declared.value.Mode.{Mode}
use Rattle.tau_base.specs.Database.{same_key}
use Rattle.tau_machine.specs.Hands.{without}

pub without_filter : (x : Key) (held : List (Key × Mode)) → filter (λ (e : Key × Mode). not (same_key x e.0)) held ≡ without x held
without_filter x [] = refl
without_filter x (e ∷ es) = elim (cases_Bool (same_key x e.0)) [
  | inl is ↦ rw is (without_filter x es)
  | inr no' ↦ rw no' (ap (λ (l : List (Key × Mode)). e ∷ l) (without_filter x es))
]
