-- The present rows of a map, in order.
use Rattle.std.proofs.Common.{◌+◌, Bool, true, false, ◌≡◌, ◌≢◌, inl, inr, List, [], ◌∷◌, length, get_or, refl, sym, ap, subst, ◌∙◌, arith, Option}
use Rattle.std.specs.Prelude.{Some, None, slice_get}
use Rattle.std.specs.Option.{unwrap_or}
use Rattle.std.specs.Map.{lookup, keys_of}
use Rattle.std.specs.List.{AllByRecursion, IsDistinct, filter}
use Rattle.std.specs.List.Sorted.{IsPermutation, IsSortedByKey, IsStrictlySortedBy}
use Rattle.std.specs.Ordering.{is_eq, is_lt, ordering_reverse}
use Rattle.std.specs.declared.cmp.Ordering.{Ordering}
use Rattle.std.specs.declared.cmp.Ordering.TheVariants.{Less, Equal, Greater}
use Rattle.std.specs.Cmp.{IsEquivalence, IsTotalOrder}
use Rattle.std.proofs.Math.Path.{fun_ext}
use Rattle.std.proofs.lemmas.Bool.{cases_Bool, both_ways}
use Rattle.std.proofs.lemmas.Cmp.{on_total, then_total, nat_cmp_total, int_cmp_total, eq_by_cmp_equiv}
use Rattle.std.proofs.lemmas.List.{get_or-map, length-map}
use Rattle.std.proofs.lemmas.List.Elements.{All-from_recursion}
use Rattle.std.proofs.lemmas.List.Sorted.{All-permutation, Contains-permutation, IsPermutation-map, IsPermutation-sym}
use Rattle.std.proofs.lemmas.Map.Entries.{option_filter, lookup-filter-values, lookup_from_place, place_from_lookup}
use Rattle.std.proofs.lemmas.Map.Keys.{IsDistinct-IsPermutation, apart_from_distinct, sorted_from_all_adjacent}
use Rattle.std.proofs.lemmas.Map.Made.{IsDistinct-keys_filter}
use Rattle.std.proofs.lemmas.Option.{get_or_from_slice_get, slice_get-get_or, slice_get_within}
use Rattle.tau_base.specs.declared.value.Key.{Key}
use Rattle.tau_base.specs.declared.value.Value.{Value}
use Rattle.tau_base.specs.declared.value.Value.TheVariants.{Absent, Int, Text}
use Rattle.tau_base.specs.Database.{Db, key_cmp, same_key, db_of}
use Rattle.tau_base.proofs.Keys.{same_key_is, same_key_sym}
use Rattle.tau_model.specs.Store.{is_key}
use Rattle.tau_model.specs.Tables.{is_present, is_value, row_key, db_of_rows, IsTablesOf}
use Rattle.tau_model.proofs.Places.{same_test}

key_total : IsTotalOrder key_cmp
key_total = then_total (on_total (λ (k : Key). k.table) nat_cmp_total) (on_total (λ (k : Key). k.row) int_cmp_total)

key_laws : IsEquivalence same_key
key_laws = eq_by_cmp_equiv key_total

-- maps find keys by an equivalence
pub is_key_laws : IsEquivalence is_key
is_key_laws = subst (λ (f : Key → Key → Bool). IsEquivalence f) (sym same_test) key_laws

-- which is that they are the same
pub is_key_is : (a b : Key) → is_key a b ≡ true → a ≡ b
is_key_is a b e = same_key_is a b (ap (λ (f : Key → Key → Bool). f a b) (sym same_test) ∙ e)

-- what is not above and not the same is below
below_by : (o : Ordering) → is_lt (ordering_reverse o) ≡ false → is_eq o ≡ false → o ≡ Less
below_by Less p q = refl
below_by Equal p q = absurd (both_ways true q refl)
below_by Greater p q = absurd (both_ways true p refl)

below : (a b : Key) → is_lt (key_cmp b a) ≡ false → same_key a b ≡ false → key_cmp a b ≡ Less
below a b p q = below_by (key_cmp a b) (ap is_lt (sym (key_total.antisymm b a)) ∙ p) q

-- rows that are sorted and each there once ascend
ascending_sorted : (rows : List (Key × Value)) → IsSortedByKey row_key key_cmp rows → IsDistinct same_key (keys_of rows) → IsStrictlySortedBy key_cmp (keys_of rows)
unfolding IsStrictlySortedBy
ascending_sorted [] sorted once = tt
ascending_sorted (r ∷ rs) sorted once =
    sorted_from_all_adjacent key_total (keys_of (r ∷ rs)) r.0 (λ k lt.
    let long : length (keys_of (r ∷ rs)) ≡ length (r ∷ rs) = length-map (r ∷ rs) row_key in
    let here : get_or (keys_of (r ∷ rs)) k r.0 ≡ (get_or (r ∷ rs) k r).0 = get_or-map row_key (r ∷ rs) k r r.0 (omega arith) in
    let next : get_or (keys_of (r ∷ rs)) (k + 1) r.0 ≡ (get_or (r ∷ rs) (k + 1) r).0 = get_or-map row_key (r ∷ rs) (k + 1) r r.0 (omega arith) in
    let apart = apart_from_distinct same_key (keys_of (r ∷ rs)) k (k + 1) r.0 once (omega arith) lt in
    let up : is_lt (key_cmp (get_or (r ∷ rs) (k + 1) r).0 (get_or (r ∷ rs) k r).0) ≡ false = sorted k r (omega arith) (omega arith) in
    let turned : is_lt (key_cmp (get_or (r ∷ rs) (k + 1) r).0 (get_or (keys_of (r ∷ rs)) k r.0)) ≡ false =
    subst (λ (x : Key). is_lt (key_cmp (get_or (r ∷ rs) (k + 1) r).0 x) ≡ false) (sym here) up in
    below (get_or (keys_of (r ∷ rs)) k r.0) (get_or (keys_of (r ∷ rs)) (k + 1) r.0)
    (subst (λ (x : Key). is_lt (key_cmp x (get_or (keys_of (r ∷ rs)) k r.0)) ≡ false) (sym next) turned) apart)

present_is : (v : Value) (k : Key) → is_present (k, v) ≡ true → v ≢ Absent
present_is Absent k e = absurd (both_ways false refl e)
present_is (Int n) k e = λ p. cc
present_is (Text t) k e = λ p. cc

all_present : (rows : List (Key × Value)) → AllByRecursion (λ (r : Key × Value). r.1 ≢ Absent) (filter is_present rows)
all_present [] = tt
all_present (r ∷ rows) = elim (cases_Bool (is_present r)) [
  | inl is ↦ rw is (present_is r.1 r.0 is, all_present rows)
  | inr no' ↦ rw no' (all_present rows)
]

-- rows in another order have what they had
lookup_moved : (xs ys : List (Key × Value)) → IsDistinct same_key (keys_of ys) → IsPermutation xs ys → (q : Key) (v : Value) → lookup (same_key q) xs ≡ Some v → lookup (same_key q) ys ≡ Some v
lookup_moved xs ys once moved q v at =
    let (i, k, here, is) = place_from_lookup (same_key q) xs v at in
    let (j, lt, there) = Contains-permutation xs ys (k, v) moved (i, slice_get_within xs i (k, v) here, get_or_from_slice_get xs i (k, v) (k, v) here) in
    let place : slice_get ys j ≡ Some (k, v) = slice_get-get_or ys j (k, v) lt ∙ ap (λ (r : Key × Value). Some r) there in
    subst (λ (x : Key). lookup (same_key x) ys ≡ Some v) (sym (same_key_is q k is)) (lookup_from_place key_laws ys j k v once place)

lookup_same : (xs ys : List (Key × Value)) → IsDistinct same_key (keys_of xs) → IsDistinct same_key (keys_of ys) → IsPermutation xs ys → (q : Key) →
    lookup (same_key q) ys ≡ lookup (same_key q) xs
lookup_same xs ys once also moved q = by (lookup (same_key q) xs) (lookup (same_key q) ys) refl refl
  where
    by : (o p : Option Value) → lookup (same_key q) xs ≡ o → lookup (same_key q) ys ≡ p → lookup (same_key q) ys ≡ lookup (same_key q) xs
    by (Some v) p e f = lookup_moved xs ys also moved q v e ∙ sym e
    by None (Some v) e f = f ∙ sym (lookup_moved ys xs once (IsPermutation-sym xs ys moved) q v f)
    by None None e f = f ∙ sym e

kept : (o : Option Value) → unwrap_or (option_filter is_value o) Absent ≡ unwrap_or o Absent
kept None = refl
kept (Some Absent) = refl
kept (Some (Int n)) = refl
kept (Some (Text t)) = refl

module _ (entries rows : List (Key × Value)) (once : IsDistinct is_key (keys_of entries)) (moved : IsPermutation (filter is_present entries) rows) where
  once_all : IsDistinct same_key (keys_of entries)
  once_all = subst (λ (t : Key → Key → Bool). IsDistinct t (keys_of entries)) same_test once

  once_present : IsDistinct same_key (keys_of (filter is_present entries))
  once_present = IsDistinct-keys_filter same_key is_present entries once_all

  once_moved : IsDistinct same_key (keys_of rows)
  once_moved = IsDistinct-IsPermutation same_key same_key_sym (keys_of (filter is_present entries)) (keys_of rows)
      (IsPermutation-map row_key (filter is_present entries) rows moved) once_present

  values_moved : db_of_rows rows ≡ db_of (λ k. lookup (is_key k) entries)
  values_moved =
      subst (λ (t : Key → Key → Bool). ◌≡◌ {A = Db} (db_of_rows rows) (db_of (λ k. lookup (t k) entries))) (sym same_test)
      (fun_ext (λ k. ap (λ (o : Option Value). unwrap_or o Absent) (lookup_same (filter is_present entries) rows once_present once_moved moved k ∙ lookup-filter-values key_laws is_value k entries once_all)
      ∙ kept (lookup (same_key k) entries)))

  -- the present rows of a map, once they are sorted, are the tables of the database that it holds
  pub tables_sorted : IsSortedByKey row_key key_cmp rows → IsTablesOf (db_of (λ k. lookup (is_key k) entries)) rows
  tables_sorted sorted = record {
    ascending = ascending_sorted rows sorted once_moved;
    present = All-permutation (λ (r : Key × Value). r.1 ≢ Absent) (filter is_present entries) rows moved
        (All-from_recursion (λ (r : Key × Value). r.1 ≢ Absent) (filter is_present entries) (all_present entries));
    values = values_moved;
  }
