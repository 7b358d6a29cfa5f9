-- Calls that wait for their acknowledgement.
use Rattle.std.specs.Prelude.{ℕ, ◌≡◌, ◌≤◌, length, false, List, [], ◌∷◌, ◌++◌, take, drop}
use Rattle.tau_base.specs.Vectors.{AtMost, covers}
use Rattle.tau_ack.specs.declared.Waiting.{Waiting}

-- the calls in the order in which they were put, and how many more are put without memory
pub record PlainPending : Type 0 where
  pub calls : List Waiting
  pub room : ℕ

-- the vector covers none of these calls
abbrev pub NoneCovered : List ℕ → List Waiting → Type 0
NoneCovered plv [] = Unit {0}
NoneCovered plv (w ∷ ws) = (covers plv w.lv ≡ false) × NoneCovered plv ws

-- the first of these calls that the vector covers is taken out
pub record TakesFirst (plv : List ℕ) (calls : List Waiting) (taken : Waiting) (others : List Waiting) : Type 0 where
  pub front : List Waiting
  pub back : List Waiting
  pub is : calls ≡ front ++ taken ∷ back
  pub left : others ≡ front ++ back
  pub before : NoneCovered plv front
  pub covered : AtMost taken.lv plv

-- a pass has looked at the calls before `next` and left the first `passed` of them; those between are gone
abbrev pub in_pass : ℕ → ℕ → List Waiting → List Waiting
in_pass passed next calls = take passed calls ++ drop next calls

-- these are the numbers of a pass with this vector, which has left no covered call
pub record IsPass (plv : List ℕ) (passed next : ℕ) (calls : List Waiting) : Type 0 where
  pub order : passed ≤ next
  pub inside : next ≤ length calls
  pub left : NoneCovered plv (take passed calls)
