-- How often a number stands in a list.
use Rattle.std.proofs.Common.{ℕ, ◌+◌, ◌≤◌, ◌≡◌, inl, inr, List, [], ◌∷◌, ◌++◌, map, refl, sym, ap, ◌∙◌, arith}
use Rattle.tau_model.specs.History.{Member, Before, Reordered}
use Rattle.tau_model.specs.declared.committed.Committed.{Committed}
use Rattle.tau_machine.specs.State.{ticket_of}
use Rattle.tau_machine.specs.Accounts.{one, in_committed}
use Rattle.tau_run.specs.Run.{Distinct}
use Rattle.tau_machine.proofs.Lists.{one_same}
use Rattle.tau_model.proofs.Assembling.{member_mapped}

abbrev pub count : {A : Type 0} → (A → ℕ) → ℕ → List A → ℕ
count num n [] = 0
count num n (x ∷ xs) = one n (num x) + count num n xs

pub count_append : {A : Type 0} (num : A → ℕ) (n : ℕ) (xs ys : List A) → count num n (xs ++ ys) ≡ count num n xs + count num n ys
count_append num n [] ys = omega arith
count_append num n (x ∷ xs) ys = let e = count_append num n xs ys in omega arith

pub count_reordered : {A : Type 0} (num : A → ℕ) (n : ℕ) (xs ys : List A) → Reordered xs ys → count num n ys ≡ count num n xs
count_reordered num n [] ys e = ap (count num n) e
count_reordered num n (x ∷ xs) ys (front, back, e, r) =
    let a = ap (count num n) e in
    let b = count_append num n front (x ∷ back) in
    let c = count_append num n front back in
    let d = count_reordered num n xs (front ++ back) r in
    omega (arith, a, b, c, d)

pub count_member : {A : Type 0} (num : A → ℕ) (n : ℕ) (x : A) (xs : List A) → Member x xs → n ≡ num x → 1 ≤ count num n xs
count_member num n x [] m e = absurd m
count_member num n x (y ∷ xs) (inl is) e = let f = one_same n (num y) (e ∙ ap num (sym is)) in omega (arith, f)
count_member num n x (y ∷ xs) (inr m) e = let f = count_member num n x xs m e in omega (arith, f)

pub count_before : {A : Type 0} (num : A → ℕ) (n : ℕ) (x y : A) (xs : List A) → Before x y xs → n ≡ num x → n ≡ num y → 2 ≤ count num n xs
count_before num n x y [] b e f = absurd b
count_before num n x y (z ∷ xs) (inl b) e f = let p = one_same n (num z) (e ∙ ap num (sym b.0)) in let q = count_member num n y xs b.1 f in omega (arith, p, q)
count_before num n x y (z ∷ xs) (inr b) e f = let q = count_before num n x y xs b e f in omega (arith, q)

pub count_tickets : (n : ℕ) (cs : List Committed) → count (λ k. k.number) n (map ticket_of cs) ≡ in_committed n cs
count_tickets n [] = refl
count_tickets n (c ∷ cs) = let e = count_tickets n cs in omega (arith, e)

-- numbers of which none stands before its like
pub distinct_apart : {A : Type 0} (num : A → ℕ) (xs : List A) → ((x y : A) → Before x y xs → num x ≡ num y → ⊥) → Distinct (map num xs)
distinct_apart num [] apart = tt
distinct_apart num (x ∷ xs) apart = (
  λ m. (let w = member_mapped num (num x) xs m in apart x w.0 (inl (refl, w.1)) (sym w.2)),
  distinct_apart num xs (λ y z b e. apart y z (inr b) e),
)
