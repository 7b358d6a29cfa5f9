-- Elements of lists of which one is replaced.
use Rattle.std.proofs.Common.{ℕ, zero, suc, ◌<◌, ◌≡◌, inl, inr, List, [], ◌∷◌, ◌++◌, length, refl, sym, ap, subst, ◌∙◌, Option, arith}
use Rattle.std.specs.Prelude.{Some, None, slice_get, slice_set}
use Rattle.std.proofs.Math.Path.{fun_ext}
use Rattle.std.proofs.lemmas.Bool.{cases_eq}
use Rattle.tau_model.specs.History.{Member}
use Rattle.tau_shard.specs.Shard.{at}
use Rattle.tau_shard.proofs.At.{at_same, at_other}

pub got_same : {A : Type 0} (xs : List A) (i : ℕ) (x : A) → i < length xs → slice_get (slice_set xs i x) i ≡ Some x
got_same [] i x lt = absurd (omega arith)
got_same (y ∷ ys) zero x lt = refl
got_same (y ∷ ys) (suc i) x lt = got_same ys i x (omega arith)

pub got_other : {A : Type 0} (xs : List A) (i j : ℕ) (x : A) → (j ≡ i → ⊥) → slice_get (slice_set xs i x) j ≡ slice_get xs j
got_other [] i j x ne = refl
got_other (y ∷ ys) zero zero x ne = absurd (ne refl)
got_other (y ∷ ys) zero (suc j) x ne = refl
got_other (y ∷ ys) (suc i) zero x ne = refl
got_other (y ∷ ys) (suc i) (suc j) x ne = got_other ys i j x (λ e. ne (ap suc e))

-- what is read of each element, where one is replaced
pub reads_got : {A B : Type 0} (f : ℕ → Option A → B) (xs : List A) (i : ℕ) (x : A) → i < length xs →
    (λ (j : ℕ). f j (slice_get (slice_set xs i x) j)) ≡ at i (f i (Some x)) (λ j. f j (slice_get xs j))
reads_got {A} {B} f xs i x lt = fun_ext (λ j. elim (cases_eq j i) [
  | inl is ↦ subst (λ (k : ℕ). f k (slice_get (slice_set xs i x) k) ≡ at i (f i (Some x)) (λ l. f l (slice_get xs l)) k) (sym is)
      (ap (f i) (got_same xs i x lt) ∙ sym (at_same i (f i (Some x)) (λ l. f l (slice_get xs l))))
  | inr ne ↦ ap (f j) (got_other xs i j x ne) ∙ sym (at_other i (f i (Some x)) (λ l. f l (slice_get xs l)) j ne)
])

-- and where it reads the same there as before
pub reads_same : {A B : Type 0} (f : Option A → B) (xs : List A) (i : ℕ) (x : A) → i < length xs → f (Some x) ≡ f (slice_get xs i) → (j : ℕ) →
    f (slice_get (slice_set xs i x) j) ≡ f (slice_get xs j)
reads_same f xs i x lt e j = elim (cases_eq j i) [
  | inl is ↦ ap (λ k. f (slice_get (slice_set xs i x) k)) is ∙ ap f (got_same xs i x lt) ∙ e ∙ ap (λ k. f (slice_get xs k)) (sym is)
  | inr ne ↦ ap f (got_other xs i j x ne)
]

-- what holds of each element holds where one is replaced by another of which it holds
pub each_got : {A : Type 0} (P : ℕ → A → Type 0) (xs : List A) (i : ℕ) (x : A) → i < length xs → P i x →
    ((j : ℕ) (a : A) → slice_get xs j ≡ Some a → P j a) → (j : ℕ) (a : A) → slice_get (slice_set xs i x) j ≡ Some a → P j a
each_got P xs i x lt new all j a e = elim (cases_eq j i) [
  | inl is ↦
      let same : Some x ≡ Some a = sym (got_same xs i x lt) ∙ ap (slice_get (slice_set xs i x)) (sym is) ∙ e in
      let same_element : x ≡ a = cc in
      subst (λ (k : ℕ). P k a) (sym is) (subst (λ b. P i b) same_element new)
  | inr ne ↦ all j a (sym (got_other xs i j x ne) ∙ e)
]

-- the same where what is read changes there too
pub reads_changed : {A B : Type 0} (f f' : ℕ → Option A → B) (xs : List A) (i : ℕ) (x : A) → i < length xs → ((k : ℕ) → (k ≡ i → ⊥) → (o : Option A) → f' k o ≡ f k o) →
    (λ (j : ℕ). f' j (slice_get (slice_set xs i x) j)) ≡ at i (f' i (Some x)) (λ j. f j (slice_get xs j))
reads_changed {A} {B} f f' xs i x lt others = fun_ext (λ j. elim (cases_eq j i) [
  | inl is ↦ subst (λ (k : ℕ). f' k (slice_get (slice_set xs i x) k) ≡ at i (f' i (Some x)) (λ l. f l (slice_get xs l)) k) (sym is)
      (ap (f' i) (got_same xs i x lt) ∙ sym (at_same i (f' i (Some x)) (λ l. f l (slice_get xs l))))
  | inr ne ↦ ap (f' j) (got_other xs i j x ne) ∙ others j ne (slice_get xs j) ∙ sym (at_other i (f' i (Some x)) (λ l. f l (slice_get xs l)) j ne)
])

-- the others, where what holds of them depends on which one is replaced
pub each_else : {A : Type 0} (P : ℕ → A → Type 0) (xs : List A) (i : ℕ) (x : A) → i < length xs → P i x →
    ((j : ℕ) → (j ≡ i → ⊥) → (a : A) → slice_get xs j ≡ Some a → P j a) → (j : ℕ) (a : A) → slice_get (slice_set xs i x) j ≡ Some a → P j a
each_else P xs i x lt new all j a e = elim (cases_eq j i) [
  | inl is ↦
      let same : Some x ≡ Some a = sym (got_same xs i x lt) ∙ ap (slice_get (slice_set xs i x)) (sym is) ∙ e in
      let same_element : x ≡ a = cc in
      subst (λ (k : ℕ). P k a) (sym is) (subst (λ b. P i b) same_element new)
  | inr ne ↦ all j ne a (sym (got_other xs i j x ne) ∙ e)
]

pub set_got : {A : Type 0} (xs : List A) (i : ℕ) (x : A) → slice_get xs i ≡ Some x → slice_set xs i x ≡ xs
set_got [] i x is = refl
set_got (y ∷ ys) zero x is = (let e : x ≡ y = cc in ap (λ a. a ∷ ys) e)
set_got (y ∷ ys) (suc i) x is = ap (λ l. y ∷ l) (set_got ys i x is)

pub member_snoc : {A : Type 0} (P : A → Type 0) (xs : List A) (y : A) → ((a : A) → Member a xs → P a) → P y → (a : A) → Member a (xs ++ y ∷ []) → P a
member_snoc P [] y all q a (inl e) = subst P e q
member_snoc P [] y all q a (inr m) = absurd m
member_snoc P (x ∷ xs) y all q a (inl e) = all a (inl e)
member_snoc P (x ∷ xs) y all q a (inr m) = member_snoc P xs y (λ b n. all b (inr n)) q a m

pub member_got : {A : Type 0} (xs : List A) (i : ℕ) (x : A) → slice_get xs i ≡ Some x → Member x xs
member_got [] i x is = absurd (let bad : None ≡ Some x = is in cc)
member_got (y ∷ ys) zero x is = (let e : y ≡ x = cc in inl e)
member_got (y ∷ ys) (suc i) x is = inr (member_got ys i x is)
