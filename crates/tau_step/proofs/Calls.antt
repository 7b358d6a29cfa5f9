-- Calls of a disk in a row, and which of them was to fail.
use Rattle.std.proofs.Common.{ℕ, ◌≡◌, ◌<◌, ◌⊎◌, sym, ◌∙◌, inl, inr, true, false, refl, arith}
use Rattle.std.specs.Prelude.{Bool, nat_lt}
use Rattle.std.proofs.lemmas.Bool.{cases_Bool}
use Rattle.std.proofs.lemmas.Bool.Decides.{nat_tests}
use Rattle.tau_disk.specs.Used.{GoesOn, IsStopped}

module _ {D : Type 0} (tells : Type 0) (number : D → ℕ) (fails : D → ℕ → Bool) (short : D → Bool) where
  pub calls_on : (d e f : D) → GoesOn number fails d e → GoesOn number fails e f → GoesOn number fails d f
  calls_on d e f first second = record {
    same = λ k. second.same k ∙ first.same k;
    later = omega (arith, first.later, second.later);
    clean = λ k low high. elim (cases_Bool (nat_lt (number e) k)) [
      | inl above ↦ sym (first.same k) ∙ second.clean k (grind (arith, nat_tests, above)) high
      | inr below ↦ first.clean k low (grind (arith, nat_tests, below))
    ];
  }

  pub calls_none : (d : D) → GoesOn number fails d d
  calls_none d = record { same = λ k. refl; later = omega arith; clean = λ k low high. absurd (omega (arith, low, high)) }

  pub calls_stopped : (d e f : D) → (tells → GoesOn number fails d e) → IsStopped tells number fails short e f → IsStopped tells number fails short d f
  calls_stopped d e f goes stopped told = after (goes told) (stopped told)
    where
      after : GoesOn number fails d e → (short f ≡ true) ⊎ ((number e < number f) × (fails e (number f) ≡ true) × ((k : ℕ) → number e < k → k < number f → fails e k ≡ false))
          → (short f ≡ true) ⊎ ((number d < number f) × (fails d (number f) ≡ true) × ((k : ℕ) → number d < k → k < number f → fails d k ≡ false))
      after first (inl memory) = inl memory
      after first (inr rest) = inr (
        omega (arith, first.later, rest.0),
        sym (first.same (number f)) ∙ rest.1,
        λ k low high. elim (cases_Bool (nat_lt (number e) k)) [
          | inl above ↦ sym (first.same k) ∙ rest.2 k (grind (arith, nat_tests, above)) high
          | inr below ↦ first.clean k low (grind (arith, nat_tests, below))
        ],
      )
