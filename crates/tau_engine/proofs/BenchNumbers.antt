-- Numbers that differ, and are those from 1 to some count, are all of these in some order.
use Rattle.std.proofs.Common.{ℕ, zero, suc, ◌≤◌, ◌≡◌, ◌⊎◌, inl, inr, List, [], ◌∷◌, ◌++◌, refl, sym, ap, subst, arith}
use Rattle.tau_model.specs.History.{Member, Reordered}
use Rattle.tau_model.proofs.Orders.{member_put, member_back}
use Rattle.tau_run.specs.Run.{Distinct}
use Rattle.tau_gen.specs.Sums.{numbers}

split : (n : ℕ) (ns : List ℕ) → Member n ns → (front : List ℕ) × (back : List ℕ) × (ns ≡ front ++ n ∷ back)
split n [] m = absurd m
split n (k ∷ ns) (inl is) = ([], ns, ap (λ (x : ℕ). x ∷ ns) is)
split n (k ∷ ns) (inr m) = let (front, back, e) = split n ns m in (k ∷ front, back, ap (λ (xs : List ℕ). k ∷ xs) e)

member_cut : (a x : ℕ) (front back : List ℕ) → Member a (front ++ x ∷ back) → (x ≡ a) ⊎ Member a (front ++ back)
member_cut a x [] back m = m
member_cut a x (y ∷ front) back (inl e) = inr (inl e)
member_cut a x (y ∷ front) back (inr m) = elim (member_cut a x front back m) [ inl e ↦ inl e | inr n ↦ inr (inr n) ]

-- one taken out: the others differ, and from it
taken_out : (x : ℕ) (front back : List ℕ) → Distinct (front ++ x ∷ back) → Distinct (front ++ back) × (Member x (front ++ back) → ⊥)
taken_out x [] back d = (d.1, d.0)
taken_out x (y ∷ front) back d =
    let rest = taken_out x front back d.1 in
    ((λ m. d.0 (member_put x y front back m), rest.0), not_there rest.1)
  where
    not_there : (Member x (front ++ back) → ⊥) → Member x (y ∷ (front ++ back)) → ⊥
    not_there none (inl e) = d.0 (member_back y front (x ∷ back) (inl (sym e)))
    not_there none (inr m) = none m

pub all_numbers : (count : ℕ) (ns : List ℕ) → Distinct ns → ((n : ℕ) → Member n ns → (1 ≤ n) × (n ≤ count)) → ((n : ℕ) → 1 ≤ n → n ≤ count → Member n ns) → Reordered (numbers count) ns
all_numbers zero [] once within cover = refl
all_numbers zero (n ∷ ns) once within cover = absurd (let w = within n (inl refl) in let low = w.0 in let high = w.1 in omega (arith, low, high))
all_numbers (suc count) ns once within cover =
    let (front, back, e) = split (suc count) ns (cover (suc count) (omega arith) (omega arith)) in
    let out = taken_out (suc count) front back (subst (λ (xs : List ℕ). Distinct xs) e once) in
    let inside : (n : ℕ) → Member n (front ++ back) → Member n ns = λ n m. subst (λ (xs : List ℕ). Member n xs) (sym e) (member_put (suc count) n front back m) in (
      front,
      back,
      e,
      all_numbers count (front ++ back) out.0
          (λ n m. (let w = within n (inside n m) in let high = w.1 in (w.0, below n high (λ is. out.1 (subst (λ (k : ℕ). Member k (front ++ back)) is m)))))
          (λ n low high. elim (member_cut n (suc count) front back (subst (λ (xs : List ℕ). Member n xs) e (cover n low (omega (arith, high))))) [
            | inl is ↦ absurd (omega (arith, is, high))
            | inr m ↦ m
          ]),
    )
  where
    below : (n : ℕ) → n ≤ suc count → (n ≡ suc count → ⊥) → n ≤ count
    below n high ne = omega (arith, high, ne)
