-- The committed calls of all workers, worker after worker.
use Rattle.std.proofs.Common.{ℕ, zero, suc, ◌+◌, ◌<◌, ◌≤◌, ◌==◌, ◌≡◌, inl, inr, true, false, List, [], ◌∷◌, ◌++◌, refl, sym, ap, ◌∙◌, arith, eq-eqb, ne_eqb}
use Rattle.std.specs.Prelude.{if◌then◌else◌}
use Rattle.std.specs.List.{filter}
use Rattle.std.proofs.lemmas.List.{append-nil}
use Rattle.std.proofs.lemmas.List.Elements.{filter-append}
use Rattle.tau_model.specs.History.{Act, Member}
use Rattle.tau_model.specs.declared.committed.Committed.{Committed}
use Rattle.tau_machine.specs.Accounts.{one, in_committed}
use Rattle.tau_machine.specs.Hands.{Txn}
use Rattle.tau_machine.specs.Invariant.{Invariant}
use Rattle.tau_machine.specs.Reports.{in_turn}
use Rattle.tau_machine.specs.State.{Core}
use Rattle.tau_core.specs.declared.state.Load.{Load}
use Rattle.tau_core.specs.View.{setting_of, worker_of, committed_by}

all_kept : {A : Type 0} (class : A → ℕ) (w : ℕ) (xs : List A) → ((x : A) → Member x xs → class x ≡ w) → filter (λ x. class x == w) xs ≡ xs
all_kept class w [] h = refl
all_kept {A} class w (x ∷ xs) h =
    let e : (class x == w) ≡ true = eq-eqb (class x) w (h x (inl refl)) in
    rw e (ap (λ (l : List A). x ∷ l) (all_kept class w xs (λ y m. h y (inr m))))

none_kept : {A : Type 0} (class : A → ℕ) (w : ℕ) (xs : List A) → ((x : A) → Member x xs → class x ≡ w → ⊥) → filter (λ x. class x == w) xs ≡ []
none_kept class w [] h = refl
none_kept class w (x ∷ xs) h = (let e : (class x == w) ≡ false = ne_eqb (class x) w (h x (inl refl)) in rw e (none_kept class w xs (λ y m. h y (inr m))))

module _ {A : Type 0} (class : A → ℕ) where
  -- of classes from i on, none of a lower one
  none_lower : (n i : ℕ) (f : ℕ → List A) → ((j : ℕ) (x : A) → Member x (f j) → class x ≡ i + j) → (w : ℕ) → w < i → filter (λ x. class x == w) (in_turn n f) ≡ []
  none_lower zero i f h w lt = refl
  none_lower (suc n) i f h w lt =
      filter-append (λ x. class x == w) (f 0) (in_turn n (λ j. f (suc j)))
      ∙ ap (λ (l : List A). l ++ filter (λ x. class x == w) (in_turn n (λ j. f (suc j)))) (none_kept class w (f 0) (λ x m e. let a : class x ≡ i + 0 = h 0 x m in omega (arith, a, e, lt)))
      ∙ none_lower n (i + 1) (λ j. f (suc j)) (λ j x m. let a : class x ≡ i + suc j = h (suc j) x m in omega (arith, a)) w (omega arith)

  own_class : (n i : ℕ) (f : ℕ → List A) → ((j : ℕ) (x : A) → Member x (f j) → class x ≡ i + j) → (j : ℕ) → j < n → (w : ℕ) → w ≡ i + j → filter (λ x. class x == w) (in_turn n f) ≡ f j
  own_class zero i f h j lt w is = absurd (omega arith)
  own_class (suc n) i f h zero lt w is =
      filter-append (λ x. class x == w) (f 0) (in_turn n (λ j. f (suc j)))
      ∙ ap (λ (l : List A). l ++ filter (λ x. class x == w) (in_turn n (λ j. f (suc j)))) (all_kept class w (f 0) (λ x m. let a : class x ≡ i + 0 = h 0 x m in omega (arith, a, is)))
      ∙ ap (λ (l : List A). f 0 ++ l) (none_lower n (i + 1) (λ j. f (suc j)) (λ j x m. let a : class x ≡ i + suc j = h (suc j) x m in omega (arith, a)) w (omega (arith, is)))
      ∙ append-nil (f 0)
  own_class (suc n) i f h (suc j) lt w is =
      filter-append (λ x. class x == w) (f 0) (in_turn n (λ j. f (suc j)))
      ∙ ap (λ (l : List A). l ++ filter (λ x. class x == w) (in_turn n (λ j. f (suc j)))) (none_kept class w (f 0) (λ x m e. let a : class x ≡ i + 0 = h 0 x m in omega (arith, a, e, is)))
      ∙ own_class n (i + 1) (λ j. f (suc j)) (λ j x m. let a : class x ≡ i + suc j = h (suc j) x m in omega (arith, a)) j (omega arith) w (omega (arith, is))

counted : (c : Committed) (xs : List Committed) → Member c xs → 1 ≤ in_committed c.number xs
counted c [] m = absurd m
counted c (x ∷ xs) (inl e) =
    let same : (c.number == x.number) ≡ true = eq-eqb c.number x.number (ap (λ (y : Committed). y.number) (sym e)) in
    let first : one c.number x.number ≡ 1 = ap (λ b. if b then 1 else 0) same in
    omega (arith, first)
counted c (x ∷ xs) (inr m) = (let r = counted c xs m in omega (arith, r))

-- the calls of all workers, worker after worker, are those of each in its order
pub in_turn_listed : (l : Load) (K : List (Act Txn)) (s : Core) → Invariant (setting_of l) K s → (w : ℕ) → w < l.workers →
    committed_by l.workers w (in_turn l.workers (λ u. (s.workers u).committed)) ≡ (s.workers w).committed
in_turn_listed l K s g w lt =
    own_class (λ (c : Committed). worker_of l.workers c.number) l.workers 0 (λ u. (s.workers u).committed)
    (λ u c m. let a : worker_of l.workers c.number ≡ u = (g.agrees.accounts u).whose c.number (let n = counted c (s.workers u).committed m in omega (arith, n)) in omega (arith, a))
    w lt w (omega arith)
