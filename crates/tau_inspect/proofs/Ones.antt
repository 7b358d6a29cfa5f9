-- A database has one list of tables. (As tau_replay has it.)
use Rattle.std.proofs.Common.{false, ◌≡◌, ◌≢◌, inl, inr, List, [], ◌∷◌, map, refl, sym, ap, subst, ◌∙◌}
use Rattle.std.specs.Option.{unwrap_or}
use Rattle.std.specs.Map.{lookup}
use Rattle.std.specs.List.{AllByRecursion}
use Rattle.std.specs.List.Sorted.{IsStrictlySortedBy}
use Rattle.std.specs.Ordering.{is_eq, ordering_reverse}
use Rattle.std.specs.declared.cmp.Ordering.{Ordering}
use Rattle.std.specs.declared.cmp.Ordering.TheVariants.{Less, Equal, Greater}
use Rattle.std.proofs.lemmas.Bool.{cases_Bool}
use Rattle.std.proofs.lemmas.List.Elements.{recursion_from_All}
use Rattle.tau_base.specs.declared.value.Key.{Key}
use Rattle.tau_base.specs.declared.value.Value.{Value}
use Rattle.tau_base.specs.declared.value.Value.TheVariants.{Absent}
use Rattle.tau_base.specs.Database.{Db, key_cmp, same_key}
use Rattle.tau_base.proofs.Keys.{same_key_is, same_key_itself}
use Rattle.tau_model.specs.Tables.{IsTablesOf}
use Rattle.tau_proc.proofs.Ascending.{key_total}

abbrev Rows : Type 0
Rows = List (Key × Value)

abbrev Below : Key → Rows → Type 0
Below k rows = AllByRecursion (λ (q : Key). key_cmp k q ≡ Less) (map (λ (r : Key × Value). r.0) rows)

abbrev Ascends : Rows → Type 0
Ascends rows = IsStrictlySortedBy key_cmp (map (λ (r : Key × Value). r.0) rows)

abbrev Present : Rows → Type 0
Present rows = AllByRecursion (λ (r : Key × Value). r.1 ≢ Absent) rows

abbrev value_of : Key → Rows → Value
value_of k rows = unwrap_or (lookup (same_key k) rows) Absent

below_trans : (j k : Key) (rows : Rows) → key_cmp j k ≡ Less → Below k rows → Below j rows
below_trans j k [] less below = tt
below_trans j k (r ∷ rows) less below = (key_total.trans j k r.0 less below.0, below_trans j k rows less below.1)

absent_below : (k : Key) (rows : Rows) → Below k rows → value_of k rows ≡ Absent
absent_below k [] below = refl
absent_below k (r ∷ rows) below = let apart : same_key k r.0 ≡ false = ap is_eq below.0 in rw apart (absent_below k rows below.1)

value_first : (r : Key × Value) (rows : Rows) → value_of r.0 (r ∷ rows) ≡ r.1
value_first r rows = rw (same_key_itself r.0) refl

value_later : (k : Key) (r : Key × Value) (rows : Rows) → same_key k r.0 ≡ false → value_of k (r ∷ rows) ≡ value_of k rows
value_later k r rows apart = rw apart refl

-- what the rest says, where the first rows have one key
rest_same : (r o : Key × Value) (rs os : Rows) → r.0 ≡ o.0 → Below r.0 rs → Below o.0 os → ((k : Key) → value_of k (r ∷ rs) ≡ value_of k (o ∷ os)) → (k : Key) → value_of k rs ≡ value_of k os
rest_same r o rs os is below other same k = elim (cases_Bool (same_key k r.0)) [
  | inl here ↦
      let key = same_key_is k r.0 here in
      subst (λ q. value_of q rs ≡ Absent) (sym key) (absent_below r.0 rs below) ∙ sym (subst (λ q. value_of q os ≡ Absent) (sym (key ∙ is)) (absent_below o.0 os other))
  | inr apart ↦ sym (value_later k r rs apart) ∙ same k ∙ value_later k o os (subst (λ q. same_key k q ≡ false) is apart)
]

-- a row below all others is not among them
not_among : (r o : Key × Value) (rs os : Rows) → key_cmp r.0 o.0 ≡ Less → Below o.0 os → r.1 ≢ Absent → ((k : Key) → value_of k (r ∷ rs) ≡ value_of k (o ∷ os)) → ⊥
not_among r o rs os less below present same = present (sym (value_first r rs) ∙ same r.0 ∙ absent_below r.0 (o ∷ os) (less, below_trans r.0 o.0 os less below))

rows_one : (rows other : Rows) → Ascends rows → Ascends other → Present rows → Present other → ((k : Key) → value_of k rows ≡ value_of k other) → rows ≡ other
unfolding IsStrictlySortedBy
rows_one [] [] a b p q same = refl
rows_one [] (o ∷ os) a b p q same = absurd (q.0 (sym (value_first o os) ∙ sym (same o.0)))
rows_one (r ∷ rs) [] a b p q same = absurd (p.0 (sym (value_first r rs) ∙ same r.0))
rows_one (r ∷ rs) (o ∷ os) a b p q same = by_order (λ is. rows_one rs os a.1 b.1 p.1 q.1 (rest_same r o rs os is a.0 b.0 same)) (key_cmp r.0 o.0) refl
  where
    by_order : (r.0 ≡ o.0 → rs ≡ os) → (c : Ordering) → key_cmp r.0 o.0 ≡ c → r ∷ rs ≡ o ∷ os
    by_order more Less e = absurd (not_among r o rs os e b.0 p.0 same)
    by_order more Greater e = absurd (not_among o r os rs (key_total.antisymm o.0 r.0 ∙ ap ordering_reverse e) a.0 q.0 (λ k. sym (same k)))
    by_order more Equal e =
        let is = same_key_is r.0 o.0 (ap is_eq e) in
        let value : r.1 ≡ o.1 = sym (value_first r rs) ∙ same r.0 ∙ subst (λ k. value_of k (o ∷ os) ≡ o.1) (sym is) (value_first o os) in
        λ i. (is i, value i) ∷ more is i

pub tables_one : (db : Db) (rows other : Rows) → IsTablesOf db rows → IsTablesOf db other → rows ≡ other
tables_one db rows other a b =
    rows_one rows other a.ascending b.ascending (recursion_from_All (λ (r : Key × Value). r.1 ≢ Absent) rows a.present) (recursion_from_All (λ (r : Key × Value). r.1 ≢ Absent) other b.present)
    (λ k. ap (λ d. d k) (a.values ∙ sym b.values))
