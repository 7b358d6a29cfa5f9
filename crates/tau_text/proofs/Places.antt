-- Searching for a byte, one place after another.
use Rattle.std.proofs.Common.{◌≡◌, ◌==◌, ◌<◌, ◌+◌, ℕ, true, false, List, length, get_or, inl, inr, sym, subst, arith}
use Rattle.std.proofs.lemmas.Bool.Decides.{leb_tells}
use Rattle.std.proofs.lemmas.List.Sums.{position_or_len_is}
use Rattle.std.specs.List.{position_or_len}
use Rattle.tau_text.specs.Places.{HasNone}

pub none_more : (wanted i : ℕ) (bytes : List ℕ) → HasNone wanted i bytes → (get_or bytes i 0 == wanted) ≡ false → HasNone wanted (i + 1) bytes
none_more wanted i bytes h e k lt = elim (leb_tells i k) [
  | inl le ↦ (let above = le.1 in let q : k ≡ i = omega arith in rw q e)
  | inr g ↦ h k g.1
]

pub found : (wanted i : ℕ) (bytes : List ℕ) → i < length bytes → HasNone wanted i bytes → (get_or bytes i 0 == wanted) ≡ true → position_or_len (λ b. b == wanted) bytes ≡ i
found wanted i bytes lt h e = position_or_len_is (λ b. b == wanted) bytes i 0 (omega arith) h (λ _. e)

-- found at the place after one that was tested
pub found_next : (wanted i j : ℕ) (bytes : List ℕ) → j ≡ i + 1 → j < length bytes → HasNone wanted i bytes → (get_or bytes i 0 == wanted) ≡ false → (get_or bytes j 0 == wanted) ≡ true
    → j ≡ position_or_len (λ b. b == wanted) bytes
found_next wanted i j bytes e lt h other here = sym (found wanted j bytes lt (subst (λ n. HasNone wanted n bytes) (sym e) (none_more wanted i bytes h other)) here)

pub nowhere : (wanted i : ℕ) (bytes : List ℕ) → length bytes ≡ i → HasNone wanted i bytes → position_or_len (λ b. b == wanted) bytes ≡ i
nowhere wanted i bytes e h = position_or_len_is (λ b. b == wanted) bytes i 0 (omega arith) h (λ lt. absurd (omega arith))
