-- A record at another stage.
use Rattle.std.proofs.Common.{ℕ, zero, suc, ◌≡◌, ◌≢◌, ◌<◌, ◌⊎◌, inl, inr, Bool, true, false, List, [], ◌∷◌, length, refl, sym, ap, subst, ◌∙◌}
use Rattle.std.specs.Prelude.{Some, slice_get, nat_lt, ◌==◌, if◌then◌else◌}
use Rattle.std.proofs.Math.ListN.{set}
use Rattle.std.proofs.lemmas.Bool.{cases_eq}
use Rattle.tau_model.specs.History.{Member}
use Rattle.tau_pool.specs.Item.{Item}
use Rattle.tau_pool.specs.declared.item.Stage.{Stage}
use Rattle.tau_pool.specs.declared.item.Stage.TheVariants.{Finished}
use Rattle.tau_pool.specs.Items.{is_left}
use Rattle.tau_pool.specs.First.{first_from, reach_one}
use Rattle.tau_pool.specs.Passing.{is_passed, Behind, Ordered}
use Rattle.tau_pool.specs.Pooled.{staged}
use Rattle.tau_pool.proofs.Gets.{get_member}
use Rattle.tau_base.proofs.Logic.{some_is}
use Rattle.tau_base.proofs.Lists.{got_within, get_set_same, get_set_other}

-- what is found in the list with the record at another stage
pub found_set : (items : List Item) (i : ℕ) (y : Item) (k : ℕ) (z : Item) → i < length items → slice_get (set items i y) k ≡ Some z → ((k ≡ i) × (y ≡ z)) ⊎ ((k ≢ i) × (slice_get items k ≡ Some z))
found_set items i y k z lt is = elim (cases_eq k i) [
  | inl e ↦ inl (e, some_is y z (sym (get_set_same items i y lt) ∙ subst (λ (n : ℕ). slice_get (set items i y) n ≡ Some z) e is))
  | inr other ↦ inr (other, sym (get_set_other items i k y other) ∙ is)
]

member_set : (zs : List Item) (i : ℕ) (y q : Item) → Member q (set zs i y) → (y ≡ q) ⊎ Member q zs
member_set [] i y q m = absurd m
member_set (z ∷ zs) zero y q (inl e) = inl e
member_set (z ∷ zs) zero y q (inr m) = inr (inr m)
member_set (z ∷ zs) (suc i) y q (inl e) = inr (inl e)
member_set (z ∷ zs) (suc i) y q (inr m) = elim (member_set zs i y q m) [ inl e ↦ inl e | inr n ↦ inr (inr n) ]

pub ordered_set : (s : Stage) (items : List Item) (i : ℕ) (x : Item) → slice_get items i ≡ Some x → Ordered items → Ordered (set items i (staged s x))
ordered_set s [] i x is h = h
ordered_set s (z ∷ zs) zero x is h = ((λ y m. subst (λ (q : Item). Behind q y) (some_is z x is) (h.0 y m)), h.1)
ordered_set s (z ∷ zs) (suc i) x is h = (
  (λ y m. elim (member_set zs i (staged s x) y m) [
    | inl e ↦ subst (λ (q : Item). Behind z q) e (h.0 x (get_member zs i x is))
    | inr n ↦ h.0 y n
  ]),
  ordered_set s zs i x is h.1,
)

pub first_set : (j n : ℕ) (items : List Item) (i : ℕ) (x y : Item) → slice_get items i ≡ Some x → is_passed j y ≡ is_passed j x → first_from j n (set items i y) ≡ first_from j n items
first_set j n [] i x y is same = absurd cc
first_set j n (z ∷ zs) zero x y is same = let e : z ≡ x = some_is z x is in rw (same, e) refl
first_set j n (z ∷ zs) (suc i) x y is same = ap (λ (m : ℕ). if is_passed j z then m else n) (first_set j (suc n) zs i x y is same)

pub reach_set : (s : Stage) (j e : ℕ) (items : List Item) (i : ℕ) (x : Item) (m : ℕ) → slice_get items i ≡ Some x → reach_one j e (slice_get (set items i (staged s x)) m) ≡ reach_one j e (slice_get items m)
reach_set s j e items i x m is = elim (cases_eq m i) [
  | inl same ↦ rw (same, get_set_same items i (staged s x) (got_within items i x is), is) refl
  | inr other ↦ rw (get_set_other items i m (staged s x) other) refl
]

pub same_passed : (j : ℕ) (x : Item) (s : Stage) → is_left s ≡ is_left x.stage → is_passed j (staged s x) ≡ is_passed j x
same_passed j x s same = rw same refl

pub finished_passed : (j : ℕ) (x : Item) → is_passed j x ≡ true → is_passed j (staged Finished x) ≡ true
finished_passed j x is = by_tests (nat_lt x.stream j) (x.stream == j) is
  where
    by_tests : (b c : Bool) → (if b then true else (if c then (if is_left x.stage then false else true) else false)) ≡ true → (if b then true else (if c then true else false)) ≡ true
    by_tests true c is = refl
    by_tests false true is = refl
    by_tests false false is = absurd cc

pub other_passed : (j : ℕ) (x : Item) → (x.stream == j) ≡ false → is_passed j (staged Finished x) ≡ is_passed j x
other_passed j x other = rw other refl
