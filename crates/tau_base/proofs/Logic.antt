-- Options, truth values and numbers.
use Rattle.std.proofs.Common.{ℕ, ◌<◌, ◌⊎◌, ◌≤◌, arith, refl, suc, ◌≡◌, zero, Bool, true, ap, false, ◌||◌, sym, ◌∙◌, replicate, ◌&&◌}
use Rattle.std.specs.Prelude.{Some, ◌||◌, slice_index, nat_lt, Result, OnErr, Ok, Err, ◌&&◌, if◌then◌else◌}
use Rattle.std.proofs.lemmas.Bool.Decides.{nat_tests}

pub below_or_not : (x y : ℕ) → (x < y) ⊎ (y ≤ x)
below_or_not x y = grind arith

pub up_to_or_above : (x y : ℕ) → (x ≤ y) ⊎ (y < x)
up_to_or_above x y = grind arith

pub some_is : {D : Type 0} (d e : D) → Some d ≡ Some e → d ≡ e
some_is d e is = cc

pub if_true : {A : Type 0} (b : Bool) (x y : A) → b ≡ true → (if b then x else y) ≡ x
if_true b x y e = ap (λ (c : Bool). if c then x else y) e

pub if_false : {A : Type 0} (b : Bool) (x y : A) → b ≡ false → (if b then x else y) ≡ y
if_false b x y e = ap (λ (c : Bool). if c then x else y) e

pub or_first : (a b : Bool) → (a || b) ≡ false → a ≡ false
or_first true b e = e
or_first false b e = refl

pub or_alone : (a : Bool) → (a || false) ≡ a
or_alone true = refl
or_alone false = refl

pub or_true : (a b : Bool) → b ≡ true → (a || b) ≡ true
or_true true b e = refl
or_true false b e = e

pub or_left : (a b : Bool) → a ≡ true → (a || b) ≡ true
or_left a b e = rw e refl

pub not_both : (b : Bool) → b ≡ false → b ≡ true → ⊥
not_both b e f = (let bad : false ≡ true = sym e ∙ f in cc)

pub replicated : (n x j : ℕ) → j < n → slice_index (replicate n x) j ≡ x
replicated zero x j lt = absurd (omega (arith, lt))
replicated (suc n) x zero lt = refl
replicated (suc n) x (suc j) lt = replicated n x j (omega (arith, lt))

pub zeros : (n j : ℕ) → slice_index (replicate n 0) j ≡ 0
zeros zero j = omega arith
zeros (suc n) zero = refl
zeros (suc n) (suc j) = zeros n j

pub first_not : (a b : Bool) → a ≡ false → (a && b) ≡ false
first_not a b first = ap (λ (x : Bool). x && b) first

pub below_of_true : (a b : ℕ) → nat_lt a b ≡ true → a < b
below_of_true a b e = grind (arith, nat_tests)

pub at_most_of_false : (a b : ℕ) → nat_lt a b ≡ false → b ≤ a
at_most_of_false a b e = grind (arith, nat_tests)

pub on_err : {X E P : Type 0} (r : Result X E) → P → OnErr r P
on_err (Ok x) p = tt
on_err (Err e) p = p

pub and_from : (a b : Bool) → a ≡ true → b ≡ true → (a && b) ≡ true
and_from a b p q = rw (p, q) refl

pub or_yes : (a : Bool) → (a || true) ≡ true
or_yes true = refl
or_yes false = refl
