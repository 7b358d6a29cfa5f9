-- The order of keys, and databases that are held in maps.
use Rattle.std.proofs.Common.{Bool, true, false, cond, ◌≡◌, inl, inr, [], ◌∷◌, refl, sym, subst, ◌∙◌, Option}
use Rattle.std.specs.Prelude.{Some, None, ◌==◌, ◌&&◌}
use Rattle.std.proofs.Math.Path.{fun_ext}
use Rattle.std.specs.Ordering.{is_eq, nat_cmp, int_cmp, int_eq, ordering_then}
use Rattle.std.specs.declared.cmp.Ordering.{Ordering}
use Rattle.std.specs.declared.cmp.Ordering.TheVariants.{Less, Equal, Greater}
use Rattle.std.specs.Cmp.{tied_itself, nat_cmp_total, int_cmp_total}
use Rattle.std.specs.FinMap.{nat_cmp-IsAntisymmetric, int_cmp-IsAntisymmetric}
use Rattle.std.proofs.lemmas.Bool.{cases_Bool, both_ways, and_from, and_parts, eq-eqb, eqb-true}
use Rattle.std.proofs.lemmas.Bool.Decides.{Decides-int_eq}
use Rattle.tau_base.specs.declared.value.Key.{Key}
use Rattle.tau_base.specs.declared.value.Value.{Value}
use Rattle.tau_base.specs.declared.value.Value.TheVariants.{Absent}
use Rattle.tau_base.specs.Database.{same_key, written, db_of}

then_equal : (o p : Ordering) → is_eq (ordering_then o p) ≡ true → (is_eq o ≡ true) × (is_eq p ≡ true)
then_equal Less p e = absurd (both_ways false refl e)
then_equal Equal p e = (refl, e)
then_equal Greater p e = absurd (both_ways false refl e)

equal : (o : Ordering) → is_eq o ≡ true → o ≡ Equal
equal Less e = absurd (both_ways false refl e)
equal Equal e = refl
equal Greater e = absurd (both_ways false refl e)

-- keys that the test calls the same are the same
pub same_key_is : (a b : Key) → same_key a b ≡ true → a ≡ b
same_key_is a b e =
    let parts = then_equal (nat_cmp a.table b.table) (int_cmp a.row b.row) e in
    let tables = nat_cmp-IsAntisymmetric a.table b.table (equal (nat_cmp a.table b.table) parts.0) in
    let rows = int_cmp-IsAntisymmetric a.row b.row (equal (int_cmp a.row b.row) parts.1) in
    λ i. record { table = tables i; row = rows i }

pub same_key_itself : (a : Key) → same_key a a ≡ true
same_key_itself a = rw (tied_itself nat_cmp_total a.table, tied_itself int_cmp_total a.row)

-- two tests that hold of the same keys are one
same_test : (f g : Key → Key → Bool) → ((a b : Key) → f a b ≡ true → a ≡ b) → ((a : Key) → f a a ≡ true) → ((a b : Key) → g a b ≡ true → a ≡ b) → ((a : Key) → g a a ≡ true) →
    (a b : Key) → f a b ≡ g a b
same_test f g f-is f-itself g-is g-itself a b = both (f a b) (g a b) refl refl
  where
    both : (s t : Bool) → f a b ≡ s → g a b ≡ t → f a b ≡ g a b
    both true true p q = p ∙ sym q
    both false false p q = p ∙ sym q
    both true false p q = p ∙ sym (subst (λ (k : Key). g a k ≡ true) (f-is a b p) (g-itself a))
    both false true p q = subst (λ (k : Key). f a k ≡ true) (g-is a b q) (f-itself a) ∙ sym q

pub same_key_sym : (a b : Key) → same_key a b ≡ same_key b a
same_key_sym a b = same_test same_key (λ x y. same_key y x) same_key_is same_key_itself (λ x y e. sym (same_key_is y x e)) same_key_itself a b

-- the derived equality of keys
abbrev pub equal_keys : Key → Key → Bool
equal_keys a b = a.table == b.table && int_eq a.row b.row

equal_keys_is : (a b : Key) → equal_keys a b ≡ true → a ≡ b
equal_keys_is a b e =
    let parts = and_parts (a.table == b.table) (int_eq a.row b.row) e in
    let tables : a.table ≡ b.table = eqb-true a.table b.table parts.0 in
    let rows : a.row ≡ b.row = (Decides-int_eq a.row b.row).0 parts.1 in
    λ i. record { table = tables i; row = rows i }

equal_keys_itself : (a : Key) → equal_keys a a ≡ true
equal_keys_itself a = and_from (a.table == a.table) (int_eq a.row a.row) (eq-eqb a.table a.table refl) ((Decides-int_eq a.row a.row).1 refl)

-- the order ties exactly where the derived equality holds
pub same_key_equal : (a b : Key) → same_key a b ≡ equal_keys a b
same_key_equal a b = same_test same_key equal_keys same_key_is same_key_itself equal_keys_is equal_keys_itself a b

-- a map that has a new value at one key holds the database after that write
pub db_of_set : (old new : Key → Option Value) (key : Key) (v : Value) →
    ((q : Key) → new q ≡ cond (same_key key q) (Some v) (old q)) → db_of new ≡ written ((key, v) ∷ []) (db_of old)
db_of_set old new key v h = fun_ext (λ q. elim (cases_Bool (same_key q key)) [
  | inl e ↦ rw (h q, same_key_sym key q, e)
  | inr e ↦ rw (h q, same_key_sym key q, e)
])

-- a map that has lost one key holds the database after the write of nothing there
pub db_of_removed : (old new : Key → Option Value) (key : Key) →
    ((q : Key) → new q ≡ cond (same_key key q) None (old q)) → db_of new ≡ written ((key, Absent) ∷ []) (db_of old)
db_of_removed old new key h = fun_ext (λ q. elim (cases_Bool (same_key q key)) [
  | inl e ↦ rw (h q, same_key_sym key q, e)
  | inr e ↦ rw (h q, same_key_sym key q, e)
])
