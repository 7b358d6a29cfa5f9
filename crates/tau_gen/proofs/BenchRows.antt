-- The rows that a sum for each row number makes, and the database that they are the tables of.
use Rattle.std.proofs.Common.{ℕ, zero, suc, ◌+◌, ◌<◌, ◌≤◌, ◌≡◌, ◌≢◌, ◌⊎◌, inl, inr, false, List, ◌++◌, map, refl, sym, ap, subst, ◌∙◌, arith, rules}
use Rattle.std.specs.Prelude.{ℤ, pos, negsuc}
use Rattle.std.specs.Option.{unwrap_or}
use Rattle.std.specs.Map.{lookup}
use Rattle.std.specs.List.{AllByRecursion, range_with_len, flat_map}
use Rattle.std.specs.List.Sorted.{IsStrictlySortedBy}
use Rattle.std.specs.declared.cmp.Ordering.TheVariants.{Less}
use Rattle.std.proofs.Math.Path.{fun_ext}
use Rattle.std.proofs.lemmas.Bool.{cases_Bool, cases_eq}
use Rattle.std.proofs.lemmas.List.Elements.{All-from_recursion}
use Rattle.tau_base.specs.declared.value.Key.{Key}
use Rattle.tau_base.specs.declared.value.Value.{Value}
use Rattle.tau_base.specs.declared.value.Value.TheVariants.{Absent, Int}
use Rattle.tau_base.specs.Database.{Db, key_cmp, same_key}
use Rattle.tau_base.proofs.Keys.{same_key_is, same_key_itself}
use Rattle.tau_model.specs.Tables.{IsTablesOf}
use Rattle.tau_gen.specs.Sums.{row_with}

abbrev Rows : Type 0
Rows = List (Key × Value)

-- ---- the database of sums

abbrev pub shown : ℕ → Value
shown zero = Absent
shown (suc n) = Int (pos (suc n))

abbrev pub at_row : (ℕ → ℕ) → ℤ → Value
at_row sums (pos row) = shown (sums row)
at_row sums (negsuc row) = Absent

abbrev pub in_table : Value → ℕ → Value
in_table v zero = v
in_table v (suc table) = Absent

-- row r of table 0 has the sum of r, where that is not 0
abbrev pub db_with : (ℕ → ℕ) → Db
db_with sums key = in_table (at_row sums key.row) key.table

abbrev pub key_at : ℕ → Key
key_at row = record { table = 0; row = pos row }

-- ---- its rows

abbrev rows_from : (ℕ → ℕ) → ℕ → ℕ → Rows
rows_from sums a n = flat_map (λ row. row_with row (sums row)) (range_with_len a n)

abbrev Below : Key → Rows → Type 0
Below k rows = AllByRecursion (λ (q : Key). key_cmp k q ≡ Less) (map (λ (r : Key × Value). r.0) rows)

key_less : (a b : ℕ) → a < b → key_cmp (key_at a) (key_at b) ≡ Less
key_less a b lt = search rules

below_with : (k row n : ℕ) (rows : Rows) → k < row → Below (key_at k) rows → Below (key_at k) (row_with row n ++ rows)
below_with k row zero rows lt below = below
below_with k row (suc n) rows lt below = (key_less k row lt, below)

below_from : (sums : ℕ → ℕ) (k a n : ℕ) → k < a → Below (key_at k) (rows_from sums a n)
below_from sums k a zero lt = tt
below_from sums k a (suc n) lt = below_with k a (sums a) (rows_from sums (a + 1) n) lt (below_from sums k (a + 1) n (omega (arith, lt)))

ascends_with : (row n : ℕ) (rows : Rows) → Below (key_at row) rows → IsStrictlySortedBy key_cmp (map (λ (r : Key × Value). r.0) rows) → IsStrictlySortedBy key_cmp (map (λ (r : Key × Value). r.0) (row_with row n ++ rows))
unfolding IsStrictlySortedBy
ascends_with row zero rows below rest = rest
ascends_with row (suc n) rows below rest = (below, rest)

ascends : (sums : ℕ → ℕ) (a n : ℕ) → IsStrictlySortedBy key_cmp (map (λ (r : Key × Value). r.0) (rows_from sums a n))
unfolding IsStrictlySortedBy
ascends sums a zero = tt
ascends sums a (suc n) = ascends_with a (sums a) (rows_from sums (a + 1) n) (below_from sums a (a + 1) n (omega arith)) (ascends sums (a + 1) n)

present_with : (row n : ℕ) (rows : Rows) → AllByRecursion (λ (r : Key × Value). r.1 ≢ Absent) rows → AllByRecursion (λ (r : Key × Value). r.1 ≢ Absent) (row_with row n ++ rows)
present_with row zero rows rest = rest
present_with row (suc n) rows rest = (λ p. cc, rest)

present : (sums : ℕ → ℕ) (a n : ℕ) → AllByRecursion (λ (r : Key × Value). r.1 ≢ Absent) (rows_from sums a n)
present sums a zero = tt
present sums a (suc n) = present_with a (sums a) (rows_from sums (a + 1) n) (present sums (a + 1) n)

abbrev value_of : Key → Rows → Value
value_of k rows = unwrap_or (lookup (same_key k) rows) Absent

-- a row that is not asked for is passed over
passed : (k : Key) (row n : ℕ) (rows : Rows) → same_key k (key_at row) ≡ false → value_of k (row_with row n ++ rows) ≡ value_of k rows
passed k row zero rows apart = refl
passed k row (suc n) rows apart = rw apart refl

-- and one that is asked for is found, unless it has no row
found : (row n : ℕ) (rows : Rows) → value_of (key_at row) rows ≡ Absent → value_of (key_at row) (row_with row n ++ rows) ≡ shown n
found row zero rows none = none
found row (suc n) rows none = rw (same_key_itself (key_at row)) refl

-- a key that is none of these rows
nowhere : (sums : ℕ → ℕ) (k : Key) (a n : ℕ) → ((row : ℕ) → a ≤ row → row < a + n → k ≡ key_at row → ⊥) → value_of k (rows_from sums a n) ≡ Absent
nowhere sums k a zero none = refl
nowhere sums k a (suc n) none =
    let rest = nowhere sums k (a + 1) n (λ row low high is. none row (omega (arith, low)) (omega (arith, high)) is) in
    elim (cases_Bool (same_key k (key_at a))) [
      | inl same ↦ absurd (none a (omega arith) (omega arith) (same_key_is k (key_at a) same))
      | inr apart ↦ passed k a (sums a) (rows_from sums (a + 1) n) apart ∙ rest
    ]

abbrev row_in : ℤ → ℕ
row_in (pos row) = row
row_in (negsuc row) = 0

key_is : (a b : ℕ) → key_at a ≡ key_at b → a ≡ b
key_is a b e = ap (λ (k : Key). row_in k.row) e

somewhere : (sums : ℕ → ℕ) (row a n : ℕ) → a ≤ row → row < a + n → value_of (key_at row) (rows_from sums a n) ≡ shown (sums row)
somewhere sums row a zero low high = absurd (omega (arith, low, high))
somewhere sums row a (suc n) low high = elim (cases_eq a row) [
  | inl is ↦ subst (λ (r : ℕ). value_of (key_at r) (rows_from sums a (suc n)) ≡ shown (sums r)) is
      (found a (sums a) (rows_from sums (a + 1) n) (nowhere sums (key_at a) (a + 1) n (λ r below high e. (let f = key_is a r e in omega (arith, below, f)))))
  | inr ne ↦
      let apart : same_key (key_at row) (key_at a) ≡ false = elim (cases_Bool (same_key (key_at row) (key_at a))) [
        | inl same ↦ absurd (ne (sym (key_is row a (same_key_is (key_at row) (key_at a) same))))
        | inr is ↦ is
      ] in
      let later : a + 1 ≤ row = omega (arith, low, ne) in
      passed (key_at row) a (sums a) (rows_from sums (a + 1) n) apart ∙ somewhere sums row (a + 1) n later (omega (arith, high))
]

values : (sums : ℕ → ℕ) (n : ℕ) → ((row : ℕ) → n ≤ row → sums row ≡ 0) → (k : Key) → value_of k (rows_from sums 0 n) ≡ db_with sums k
values sums n none k = by_table k.table refl
  where
    by_row : (row : ℤ) → k.row ≡ row → k.table ≡ 0 → value_of k (rows_from sums 0 n) ≡ at_row sums row
    by_row (pos row) is zero_is =
        let here : k ≡ key_at row = λ i. record { table = zero_is i; row = is i } in
        elim (leb_cases row) [
          | inl lt ↦ ap (λ (q : Key). value_of q (rows_from sums 0 n)) here ∙ somewhere sums row 0 n (omega arith) lt
          | inr ge ↦ ap (λ (q : Key). value_of q (rows_from sums 0 n)) here ∙ nowhere sums (key_at row) 0 n (λ r low high e. (let f = key_is row r e in omega (arith, high, f, ge))) ∙ sym (ap shown (none row ge))
        ]
      where
        leb_cases : (r : ℕ) → (r < 0 + n) ⊎ (n ≤ r)
        leb_cases r = search rules
    by_row (negsuc row) is zero_is = nowhere sums k 0 n (λ r low high e. (let f : negsuc row ≡ pos r = sym is ∙ ap (λ (q : Key). q.row) e in cc))

    by_table : (table : ℕ) → k.table ≡ table → value_of k (rows_from sums 0 n) ≡ in_table (at_row sums k.row) table
    by_table zero is = by_row k.row refl is
    by_table (suc table) is = nowhere sums k 0 n (λ r low high e. (let f : suc table ≡ 0 = sym is ∙ ap (λ (q : Key). q.table) e in cc))

pub tables_with : (sums : ℕ → ℕ) (n : ℕ) → ((row : ℕ) → n ≤ row → sums row ≡ 0) → IsTablesOf (db_with sums) (flat_map (λ row. row_with row (sums row)) (range_with_len 0 n))
tables_with sums n none = record {
  ascending = ascends sums 0 n;
  present = All-from_recursion (λ (r : Key × Value). r.1 ≢ Absent) (rows_from sums 0 n) (present sums 0 n);
  values = fun_ext (λ k. values sums n none k);
}
