-- What a seat has first.
use Rattle.std.proofs.Common.{ℕ, ◌≡◌, List, ◌∷◌, [], ap, Some, None, sym, ◌∙◌}
use Rattle.tau_replay.specs.Rule.{Slot, Boxed, Sat, holding, given, Took}
use Rattle.atomic_table.specs.Table.{rest}

abbrev first_or : Slot → List (ℕ × Slot) → Slot
first_or d [] = d
first_or d (x ∷ xs) = x.1

pub first : {x y : Slot} {xs ys : List (ℕ × Slot)} → (0, x) ∷ xs ≡ (0, y) ∷ ys → x ≡ y
first {x} e = ap (first_or x) e

-- the part that was lifted is the one that the step took
taken_same : (m m' : Sat) (b : Boxed) (t : Took m m') → m'.1 ≡ (0, Some b) ∷ [] → t.part ≡ b
taken_same m m' b t is = let same : Some t.part ≡ Some b = first (sym (ap (λ (z : Sat). z.1) t.now) ∙ is) in cc

pub taken_is : (m m' after : Sat) (b : Boxed) → Took m m' → m'.1 ≡ (0, Some b) ∷ [] → after ≡ (m'.0, (0, None) ∷ []) → after ≡ (holding m.0 b, (0, None) ∷ [])
taken_is m m' after b t is now = now ∙ ap (λ (z : Sat). (z.0, (0, None) ∷ [])) t.now ∙ ap (λ (z : Boxed). (holding m.0 z, (0, None) ∷ [])) (taken_same m m' b t is)

-- what the giver's view is
pub given_is : (m m' after : Sat) (b : Boxed) → m.1 ≡ (0, None) ∷ [] → m' ≡ (m.0, (0, Some b) ∷ rest m.1) → ((z : Boxed) → m'.1 ≡ (0, Some z) ∷ [] → after ≡ (given m'.0 z, [])) → after ≡ (given m.0 b, [])
given_is m m' after b had now gave = gave b (ap (λ (z : Sat). z.1) now ∙ ap (λ r. (0, Some b) ∷ rest r) had) ∙ ap (λ (z : Sat). (given z.0 b, [])) now
