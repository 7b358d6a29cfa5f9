-- The present rows of a map.
use Rattle.std.proofs.Common.{ℕ, ◌+◌, Bool, true, false, ◌≡◌, List, ◌∷◌, ◌++◌, length, take, drop, refl, ap, subst, ◌∙◌, slice_get, Option, arith, length-take}
use Rattle.std.specs.Prelude.{Some, None}
use Rattle.std.specs.List.{IsDistinct}
use Rattle.std.specs.Map.{lookup, keys_of}
use Rattle.std.specs.Option.{unwrap_or}
use Rattle.std.proofs.Math.Path.{fun_ext}
use Rattle.std.proofs.lemmas.List.{take-append-le}
use Rattle.std.proofs.lemmas.Map.Entries.{option_filter, lookup-filter-values}
use Rattle.std.proofs.lemmas.Map.Made.{IsDistinct-keys_filter}
use Rattle.tau_base.specs.declared.value.Key.{Key}
use Rattle.tau_base.specs.declared.value.Value.{Value}
use Rattle.tau_base.specs.declared.value.Value.TheVariants.{Absent, Int, Text}
use Rattle.tau_base.specs.Database.{Db, same_key, db_of}
use Rattle.tau_shard.specs.Read.{is_key}
use Rattle.tau_shard.specs.Present.{is_present, present_rows}
use Rattle.tau_shard.proofs.Drops.{key_laws}
use Rattle.tau_shard.proofs.Sweeps.{drop_next, drop_past}
use Rattle.tau_shard.proofs.Puts.{is_key_same}

-- maps find keys as the order of keys does
same_test : is_key ≡ same_key
same_test = fun_ext (λ a. fun_ext (λ b. is_key_same a b))

module _ (rows : List (Key × Value)) (distinct : IsDistinct is_key (keys_of rows)) where
  kept : (o : Option Value) → unwrap_or (option_filter is_present o) Absent ≡ unwrap_or o Absent
  kept None = refl
  kept (Some Absent) = refl
  kept (Some (Int n)) = refl
  kept (Some (Text t)) = refl

  pub present_database : db_of (λ x. lookup (same_key x) (present_rows rows)) ≡ db_of (λ x. lookup (is_key x) rows)
  present_database =
      subst (λ (t : Key → Key → Bool). ◌≡◌ {A = Db} (db_of (λ x. lookup (t x) (present_rows rows))) (db_of (λ x. lookup (is_key x) rows))) same_test
      (fun_ext (λ x. ap (λ (o : Option Value). unwrap_or o Absent) (lookup-filter-values key_laws is_present x rows distinct) ∙ kept (lookup (is_key x) rows)))

  pub present_once : IsDistinct same_key (keys_of (present_rows rows))
  present_once = subst (λ (t : Key → Key → Bool). IsDistinct t (keys_of (present_rows rows))) same_test (IsDistinct-keys_filter is_key (λ r. is_present r.1) rows distinct)

-- one row after another
module _ (rows : List (Key × Value)) (i : ℕ) where
  pub row_in : (x : Key × Value) → slice_get rows i ≡ Some x → is_present x.1 ≡ true → present_rows (drop i rows) ≡ x ∷ present_rows (drop (i + 1) rows)
  row_in x at is = ap present_rows (drop_next rows i x at) ∙ rw is refl

  pub row_out : (x : Key × Value) → slice_get rows i ≡ Some x → is_present x.1 ≡ false → present_rows (drop i rows) ≡ present_rows (drop (i + 1) rows)
  row_out x at is = ap present_rows (drop_next rows i x at) ∙ rw is refl

  pub row_past : slice_get rows i ≡ None → present_rows (drop i rows) ≡ present_rows (drop (i + 1) rows)
  row_past at = ap present_rows (drop_past rows i at)

-- a list that grows keeps its first part
pub take_more : {A : Type 0} (old xs ys : List A) → take (length old) xs ≡ old → take (length old) (xs ++ ys) ≡ old
take_more old xs ys h =
    let l = length-take (length old) xs in
    let e : length (take (length old) xs) ≡ length old = ap length h in
    take-append-le (length old) xs ys (omega (arith, l, e)) ∙ h
