-- If no call of the order is missing, two checks pass.
use Rattle.std.proofs.Common.{◌≡◌, ◌||◌, Bool, true, false, List, [], ◌∷◌, ◌++◌, inl, inr, refl, subst, not, ◌&&◌}
use Rattle.std.specs.List.{list_any}
use Rattle.std.proofs.lemmas.Bool.{both_ways}
use Rattle.tau_model.specs.History.{Act, Numbered, Member, Before, Depends, at_once, through, updates}
use Rattle.tau_inspect.specs.declared.verdict.Check.TheVariants as check
use Rattle.tau_inspect.specs.Audit.{Case, acts, is_taken, Pass, before, Survives}
use Rattle.tau_inspect.specs.Taint.{is_missing, DependsOnMissing}

not_any : {A : Type 0} (p : A → Bool) (xs : List A) (x : A) → list_any p xs ≡ false → Member x xs → p x ≡ false
not_any p [] x none there = absurd there
not_any {A} p (y ∷ xs) x none (inl same) = subst (λ (a : A). p a ≡ false) same (first (p y) (list_any p xs) none)
  where
    first : (a b : Bool) → (a || b) ≡ false → a ≡ false
    first true b e = absurd (both_ways true e refl)
    first false b e = refl
not_any p (y ∷ xs) x none (inr there) = not_any p xs x (rest (p y) (list_any p xs) none) there
  where
    rest : (a b : Bool) → (a || b) ≡ false → b ≡ false
    rest true b e = absurd (both_ways true e refl)
    rest false b e = e

pub any_push : {A : Type 0} (p : A → Bool) (xs : List A) (x : A) → list_any p xs ≡ false → p x ≡ false → list_any p (xs ++ x ∷ []) ≡ false
any_push p [] x none other = rw other refl
any_push {A} p (y ∷ ys) x none other = both (p y) (list_any p ys) (list_any p (ys ++ x ∷ [])) none (λ q. any_push p ys x q other)
  where
    both : (a b d : Bool) → (a || b) ≡ false → (b ≡ false → d ≡ false) → (a || d) ≡ false
    both true b d e more = e
    both false b d e more = more e

first_there : {A : Type 0} (u t : A) (xs : List A) → Before u t xs → Member u xs
first_there u t [] b = absurd b
first_there u t (x ∷ xs) (inl b) = inl b.0
first_there u t (x ∷ xs) (inr b) = inr (first_there u t xs b)

depends_there : (xs : List (Act Numbered)) (t u : Act Numbered) → Depends xs t u → Member u xs
depends_there xs t u (at_once b c) = first_there u t xs b
depends_there xs t u (through {v = v} p q) = depends_there xs v u q

module _ (c : Case) (none : list_any (is_missing (is_taken c)) (acts c) ≡ false) where
  kept : (x : Act Numbered) → DependsOnMissing (is_taken c) (acts c) x → ⊥
  kept x d = both_ways (is_missing (is_taken c) d.0) (not_any (is_missing (is_taken c)) (acts c) d.0 none (depends_there (acts c) x d.0 d.1)) d.2

  taken_so : (a b : Bool) → (a && not b) ≡ false → a ≡ true → b ≡ true
  taken_so true true e u = refl
  taken_so true false e u = absurd (both_ways true e refl)
  taken_so false b e u = absurd (both_ways false refl u)

  survives : (x : Act Numbered) → Member x (acts c) → Survives c x
  survives x there = record { taken = taken_so (updates x.effect) (is_taken c x.call) (not_any (is_missing (is_taken c)) (acts c) x none there); closed = λ u. kept x }

  pub none_missing : Pass c (before check.Ack) → Pass c (before check.Order)
  none_missing p = (p.0, (p.1.0, (p.1.1.0, (p.1.1.1.0, (p.1.1.1.1.0, ((λ front back a is x there same. survives x there), ((λ front back x is t. kept x), tt)))))))
