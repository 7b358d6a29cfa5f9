-- What is passed stays passed where records come.
use Rattle.std.proofs.Common.{ℕ, zero, suc, ◌≤◌, ◌<◌, ◌≡◌, inl, inr, List, [], ◌∷◌, ◌++◌, length, set, min, replicate, Some, refl, sym, ap, subst, ◌∙◌, arith, slice_index}
use Rattle.std.specs.Prelude.{slice_get}
use Rattle.std.proofs.Math.Nat.{min-le_left, min-le_right}
use Rattle.std.proofs.lemmas.Bool.{cases_eq}
use Rattle.tau_follow.specs.declared.stage.Stage.{Stage}
use Rattle.tau_follow.specs.Applying.{ArePassed}
use Rattle.tau_follow.proofs.Feeding.{got_set, got_other}

set_low : (xs : List ℕ) (j m : ℕ) → slice_index (set xs j m) j ≤ m
set_low [] j m = omega arith
set_low (x ∷ xs) zero m = omega arith
set_low (x ∷ xs) (suc j) m = set_low xs j m

set_lower : (xs : List ℕ) (j m k : ℕ) → m ≤ slice_index xs j → slice_index (set xs j m) k ≤ slice_index xs k
set_lower [] j m k le = omega arith
set_lower (x ∷ xs) zero m zero le = le
set_lower (x ∷ xs) zero m (suc k) le = omega arith
set_lower (x ∷ xs) (suc j) m zero le = omega arith
set_lower (x ∷ xs) (suc j) m (suc k) le = set_lower xs j m k le

pub zero_there : (n j : ℕ) → slice_index (replicate n 0) j ≡ 0
zero_there zero j = refl
zero_there (suc n) zero = refl
zero_there (suc n) (suc j) = zero_there n j

front_there : (ss more : List Stage) (i : ℕ) (s : Stage) → i < length ss → slice_get (ss ++ more) i ≡ Some s → slice_get ss i ≡ Some s
front_there [] more i s lt e = absurd (omega (arith, lt))
front_there (x ∷ ss) more zero s lt e = e
front_there (x ∷ ss) more (suc i) s lt e = front_there ss more i s (omega (arith, lt)) e

-- of the stream to which records come no more is passed than stood
pub passed_on : (all : List (List Stage)) (firsts : List ℕ) (j many : ℕ) (ss more : List Stage) → slice_get all j ≡ Some ss → many ≡ length ss → ArePassed all firsts → ArePassed (set all j (ss ++ more)) (set firsts j (min (slice_index firsts j) many))
passed_on all firsts j many ss more there many_is passed k i st s at got lt =
    let m : ℕ = min (slice_index firsts j) many in
    let first = min-le_left (slice_index firsts j) many in
    let second = min-le_right (slice_index firsts j) many in
    let low = set_lower firsts j m k first in
    elim (cases_eq k j) [
      | inl same ↦
          let is : ss ++ more ≡ st = got_set all j (ss ++ more) st (ap (slice_get (set all j (ss ++ more))) (sym same) ∙ at) in
          let here = subst (λ (n : ℕ). slice_index (set firsts j m) n ≤ m) (sym same) (set_low firsts j m) in
          passed k i ss s (ap (slice_get all) same ∙ there) (front_there ss more i s (omega (arith, lt, here, second, many_is)) (ap (λ (l : List Stage). slice_get l i) is ∙ got)) (omega (arith, lt, low))
      | inr other ↦ passed k i st s (sym (got_other all j k (ss ++ more) other) ∙ at) got (omega (arith, lt, low))
    ]
