-- Registers of which each is absent.
use Rattle.std.proofs.Common.{◌≡◌, ℕ, ◌<◌, List, length, replicate, get_or, sym, ◌∙◌, arith}
use Rattle.std.proofs.lemmas.List.{same_lists, length-replicate, get_or-replicate}
use Rattle.tau_base.specs.declared.value.Value.{Value}
use Rattle.tau_base.specs.declared.value.Value.TheVariants.{Absent}

pub all_absent : (xs : List Value) (n : ℕ) → length xs ≡ n → ((k : ℕ) (d : Value) → k < n → get_or xs k d ≡ Absent) → xs ≡ replicate n Absent
all_absent xs n long at =
    same_lists xs (replicate n Absent) (long ∙ sym (length-replicate n Absent))
    (λ k d h. let below : k < n = omega (arith, h, long) in at k d below ∙ sym (get_or-replicate n k Absent d below))
