-- Whether a call of a worker waits.
use Rattle.std.proofs.Common.{◌≤◌, ◌==◌, ◌≡◌, Bool, true, false, List, [], ◌∷◌, length, sym, ap, ◌∙◌, arith}
use Rattle.std.specs.Prelude.{◌↔◌, IsTrue, not}
use Rattle.std.proofs.lemmas.Bool.{ne_eqb}
use Rattle.tau_ack.specs.declared.Waiting.{Waiting}
use Rattle.tau_core.specs.View.{tickets}

pub some_wait : (none : Bool) (calls : List Waiting) → none ≡ (length calls == 0) → IsTrue (not none) ↔ (1 ≤ length (tickets calls))
some_wait none [] e = (λ t. absurd (let bad : false ≡ true = sym (ap not e) ∙ t in cc), λ lt. absurd (omega arith))
some_wait none (c ∷ cs) e = (λ t. omega arith, λ lt. ap not (e ∙ ne_eqb (length (c ∷ cs)) 0 (λ f. absurd (omega arith))))
