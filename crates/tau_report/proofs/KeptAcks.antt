-- Acknowledged calls as a list keeps them.
use Rattle.std.proofs.Common.{ℕ, suc, zero, refl, ◌+◌, ◌≤◌, ◌<◌, ◌≡◌, ◌∙◌, List, [], ◌∷◌, ◌++◌, length, take, drop, get_or, ap, arith}
use Rattle.std.specs.Prelude.{Some, slice_get}
use Rattle.std.proofs.lemmas.List.{take-append-le, drop-append-le, length-drop, length-append}
use Rattle.std.proofs.Math.Seq.{take-length}
use Rattle.tau_report.specs.KeptAcks.{acks_of, width_of, IsWhole}

-- as many calls as heads
pub acks_long : (heads : List (ℕ × ℕ)) (parts : List ℕ) → length (acks_of heads parts) ≡ length heads
acks_long [] parts = refl
acks_long (head ∷ heads) parts = ap suc (acks_long heads (drop head.1 parts))

-- each has the number of its head
pub acks_number : (heads : List (ℕ × ℕ)) (parts : List ℕ) (i : ℕ) (d : ℕ × ℕ) → i < length heads → (lv : List ℕ) × (slice_get (acks_of heads parts) i ≡ Some ((get_or heads i d).0, lv))
acks_number [] parts i d lt = absurd (omega (arith, lt))
acks_number (first ∷ heads) parts zero d lt = (take first.1 parts, refl)
acks_number (first ∷ heads) parts (suc i) d lt = acks_number heads (drop first.1 parts) i d (omega (arith, lt))

width_more : (heads : List (ℕ × ℕ)) (head : ℕ × ℕ) → width_of (heads ++ head ∷ []) ≡ width_of heads + head.1
width_more [] head = omega arith
width_more (first ∷ heads) head = let more = width_more heads head in omega (arith, more)

module _ (number : ℕ) (lv : List ℕ) where
  -- one more call, whose components come last
  pub acks_whole : (heads : List (ℕ × ℕ)) (parts : List ℕ) → IsWhole heads parts → IsWhole (heads ++ (number, length lv) ∷ []) (parts ++ lv)
  acks_whole heads parts whole =
      let more = width_more heads (number, length lv) in
      let long = length-append parts lv in
      omega (arith, whole, more, long)

  pub acks_more : (heads : List (ℕ × ℕ)) (parts : List ℕ) → IsWhole heads parts → acks_of (heads ++ (number, length lv) ∷ []) (parts ++ lv) ≡ acks_of heads parts ++ (number, lv) ∷ []
  acks_more [] [] whole = ap (λ (l : List ℕ). (number, l) ∷ []) (take-length lv)
  acks_more [] (x ∷ parts) whole = absurd (omega (arith, whole))
  acks_more (head ∷ heads) parts whole =
      let low : head.1 ≤ length parts = omega (arith, whole) in
      let long = length-drop head.1 parts in
      let left : IsWhole heads (drop head.1 parts) = omega (arith, whole, long) in
      ap (λ (l : List ℕ). (head.0, l) ∷ acks_of (heads ++ (number, length lv) ∷ []) (drop head.1 (parts ++ lv))) (take-append-le head.1 parts lv low)
      ∙ ap (λ (l : List ℕ). (head.0, take head.1 parts) ∷ acks_of (heads ++ (number, length lv) ∷ []) l) (drop-append-le head.1 parts lv low)
      ∙ ap (λ (l : List (ℕ × List ℕ)). (head.0, take head.1 parts) ∷ l) (acks_more heads (drop head.1 parts) left)
