-- In whatever order the generated calls are executed, they leave the sums of what they add.
use Rattle.std.proofs.Common.{ℕ, zero, suc, ◌+◌, ◌*◌, ◌%◌, ◌^◌, ◌<◌, ◌≤◌, ◌≡◌, inl, inr, true, false, List, [], ◌∷◌, ◌++◌, map, length, refl, sym, ap, subst, ◌∙◌, arith, rules}
use Rattle.std.specs.Prelude.{ℤ, pos, negsuc, Some}
use Rattle.std.proofs.Math.Path.{fun_ext}
use Rattle.std.proofs.lemmas.Bool.{cases_Bool, cases_eq, eq-eqb, ne_eqb}
use Rattle.std.proofs.lemmas.Nat.{mod_below}
use Rattle.tau_base.specs.declared.limits.TheConstants.{MAX_CALLS}
use Rattle.tau_base.specs.declared.value.Call.{Call}
use Rattle.tau_base.specs.declared.value.Key.{Key}
use Rattle.tau_base.specs.declared.value.Value.{Value}
use Rattle.tau_base.specs.declared.value.Value.TheVariants.{Absent, Int}
use Rattle.tau_base.specs.Database.{Db, empty_db, same_key, written}
use Rattle.tau_base.proofs.Keys.{same_key_is, same_key_itself}
use Rattle.tau_proc.specs.declared.proc.Proc.{Proc}
use Rattle.tau_proc.specs.Effect.{Effect}
use Rattle.tau_proc.specs.Meaning.{meaning, sum_with, in_range}
use Rattle.tau_model.specs.History.{Numbered, Act, Member, Reordered, exec, trace, updates, updating}
use Rattle.tau_model.specs.Tables.{IsTablesOf}
use Rattle.tau_model.proofs.Reorder.{reordered_length}
use Rattle.tau_gen.specs.Generated.{row_of, amount_of, call_of}
use Rattle.tau_gen.specs.Sums.{adds_to, added, rows_of, numbers, AnyOrder}
use Rattle.tau_gen.proofs.BenchRows.{shown, at_row, in_table, db_with, key_at, tables_with}
use Rattle.tau_base.proofs.Lists.{length_mapped}

-- ---- one call

amount_low : (k : ℕ) → amount_of k ≤ 10
amount_low k = let lt = mod_below k 10 (omega arith) in omega (arith, lt)

in_range_of : (x : ℕ) → x < 2 ^ 63 → in_range (pos x) ≡ Some (Int (pos x))
in_range_of x lt = search rules

sum_is : (n a : ℕ) → n + suc a < 2 ^ 63 → sum_with (shown n) (pos (suc a)) ≡ Some (Int (pos (n + suc a)))
sum_is zero a lt = let e : suc a ≡ 0 + suc a = omega arith in ap (λ (x : ℕ). Some (Int (pos x))) e
sum_is (suc n) a lt = in_range_of (suc n + suc a) lt

-- the sums after call k
abbrev pub more : ℕ → ℕ → (ℕ → ℕ) → ℕ → ℕ
more start k sums row = adds_to start row k + sums row

amount_is : (k : ℕ) → amount_of k ≡ suc (k % 10)
amount_is k = omega arith

abbrev key_of : ℕ → ℕ → Key
key_of start k = key_at (row_of start k)

abbrev sum_of : ℕ → ℕ → (ℕ → ℕ) → ℕ
sum_of start k sums = sums (row_of start k) + amount_of k

writes_are : (procs : List Proc) (start k : ℕ) (sums : ℕ → ℕ) → sum_of start k sums < 2 ^ 63 →
    (meaning procs (call_of start k) (db_with sums)).writes ≡ (key_of start k, Int (pos (sum_of start k sums))) ∷ []
writes_are procs start k sums lt =
    let is : sum_with (shown (sums (row_of start k))) (pos (amount_of k)) ≡ Some (Int (pos (sum_of start k sums))) =
    subst (λ (a : ℕ). sum_with (shown (sums (row_of start k))) (pos a) ≡ Some (Int (pos (sums (row_of start k) + a)))) (sym (amount_is k)) (sum_is (sums (row_of start k)) (k % 10) (subst (λ (a : ℕ). sums (row_of start k) + a < 2 ^ 63) (amount_is k) lt)) in
    rw is refl

-- the row that is added to
here : (start k : ℕ) (sums : ℕ → ℕ) → Int (pos (sum_of start k sums)) ≡ shown (more start k sums (row_of start k))
here start k sums =
    let adds : adds_to start (row_of start k) k ≡ amount_of k = rw (eq-eqb (row_of start k) (row_of start k) refl) refl in
    let whole : more start k sums (row_of start k) ≡ suc (k % 10 + sums (row_of start k)) = (let a = amount_is k in omega (arith, adds, a)) in
    let same : sum_of start k sums ≡ suc (k % 10 + sums (row_of start k)) = (let a = amount_is k in omega (arith, a)) in
    ap (λ (x : ℕ). Int (pos x)) same ∙ ap shown (sym whole)

-- and another one
elsewhere : (start k row : ℕ) (sums : ℕ → ℕ) → (row_of start k ≡ row → ⊥) → sums row ≡ more start k sums row
elsewhere start k row sums ne =
    let adds : adds_to start row k ≡ 0 = rw (ne_eqb (row_of start k) row ne) refl in omega (arith, adds)

after_one : (start k : ℕ) (sums : ℕ → ℕ) → written ((key_of start k, Int (pos (sum_of start k sums))) ∷ []) (db_with sums) ≡ db_with (more start k sums)
after_one start k sums = fun_ext (λ x. by_key x)
  where
    by_row : (x : Key) (row : ℤ) (table : ℕ) → x.row ≡ row → x.table ≡ table → (x ≡ key_of start k → ⊥) → in_table (at_row sums row) table ≡ in_table (at_row (more start k sums) row) table
    by_row x (negsuc row) zero r t apart = refl
    by_row x row (suc table) r t apart = refl
    by_row x (pos row) zero r t apart = ap shown (elsewhere start k row sums (λ is. apart (λ i. record { table = t i; row = (r ∙ ap pos (sym is)) i })))

    by_key : (x : Key) → written ((key_of start k, Int (pos (sum_of start k sums))) ∷ []) (db_with sums) x ≡ db_with (more start k sums) x
    by_key x = elim (cases_Bool (same_key x (key_of start k))) [
      | inl same ↦ rw same (here start k sums ∙ sym (ap (db_with (more start k sums)) (same_key_is x (key_of start k) same)))
      | inr apart ↦ rw apart (by_row x x.row x.table refl refl (λ is. (let e : true ≡ false = sym (same_key_itself x) ∙ ap (λ (y : Key). same_key x y) is ∙ apart in cc)))
    ]

-- ---- calls one after another

-- the sums after the calls with these numbers
abbrev all_more : ℕ → List ℕ → (ℕ → ℕ) → ℕ → ℕ
all_more start [] sums = sums
all_more start (n ∷ ns) sums = all_more start ns (more start n sums)

module _ (procs : List Proc) (start : ℕ) {C : Type 0} (number : C → ℕ) (call : C → Call) where
  abbrev does : C → Db → Effect
  does c db = meaning procs (call c) db

  abbrev AreAdds : List C → Type 0
  AreAdds cs = (c : C) → Member c cs → call c ≡ call_of start (number c)

  -- no sum comes to 2^63
  abbrev Few : List C → (ℕ → ℕ) → Type 0
  Few cs sums = (row : ℕ) → sums row + 10 * length cs < 2 ^ 63

  few_now : (c : C) (cs : List C) (sums : ℕ → ℕ) → Few (c ∷ cs) sums → sum_of start (number c) sums < 2 ^ 63
  few_now c cs sums few = let low = amount_low (number c) in let now = few (row_of start (number c)) in omega (arith, low, now)

  adds_low : (k row : ℕ) → adds_to start row k ≤ 10
  adds_low k row = elim (cases_eq (row_of start k) row) [
    | inl is ↦ rw (eq-eqb (row_of start k) row is) (amount_low k)
    | inr ne ↦ rw (ne_eqb (row_of start k) row ne) (omega arith)
  ]

  few_later : (c : C) (cs : List C) (sums : ℕ → ℕ) → Few (c ∷ cs) sums → Few cs (more start (number c) sums)
  few_later c cs sums few row = let low = adds_low (number c) row in let now = few row in omega (arith, low, now)

  wrote : (c : C) (cs : List C) (sums : ℕ → ℕ) → AreAdds (c ∷ cs) → Few (c ∷ cs) sums → (does c (db_with sums)).writes ≡ (key_of start (number c), Int (pos (sum_of start (number c) sums))) ∷ []
  wrote c cs sums adds few =
      ap (λ (x : Call). (meaning procs x (db_with sums)).writes) (adds c (inl refl)) ∙ writes_are procs start (number c) sums (few_now c cs sums few)

  next_db : (c : C) (cs : List C) (sums : ℕ → ℕ) → AreAdds (c ∷ cs) → Few (c ∷ cs) sums → written (does c (db_with sums)).writes (db_with sums) ≡ db_with (more start (number c) sums)
  next_db c cs sums adds few = ap (λ (ws : List (Key × Value)). written ws (db_with sums)) (wrote c cs sums adds few) ∙ after_one start (number c) sums

  pub executed : (cs : List C) (sums : ℕ → ℕ) → AreAdds cs → Few cs sums → exec does cs (db_with sums) ≡ db_with (all_more start (map number cs) sums)
  executed [] sums adds few = refl
  executed (c ∷ cs) sums adds few =
      ap (exec does cs) (next_db c cs sums adds few) ∙ executed cs (more start (number c) sums) (λ d m. adds d (inr m)) (few_later c cs sums few)

  pub each_writes : (cs : List C) (sums : ℕ → ℕ) → AreAdds cs → Few cs sums → (x : Act C) → Member x (trace does cs (db_with sums)) → updates x.effect ≡ true
  each_writes [] sums adds few x m = absurd m
  each_writes (c ∷ cs) sums adds few x (inl is) =
      ap (λ (y : Act C). updates y.effect) (sym is) ∙ ap updating (wrote c cs sums adds few)
  each_writes (c ∷ cs) sums adds few x (inr m) =
      each_writes cs (more start (number c) sums) (λ d n. adds d (inr n)) (few_later c cs sums few) x (subst (λ (db : Db). Member x (trace does cs db)) (next_db c cs sums adds few) m)

-- ---- in any order

abbrev total : (ℕ → ℕ) → List ℕ → ℕ
total f [] = 0
total f (n ∷ ns) = f n + total f ns

total_parts : (f : ℕ → ℕ) (front back : List ℕ) → total f (front ++ back) ≡ total f front + total f back
total_parts f [] back = omega arith
total_parts f (n ∷ front) back = let e = total_parts f front back in omega (arith, e)

pub total_same : (f : ℕ → ℕ) (ns ms : List ℕ) → Reordered ns ms → total f ns ≡ total f ms
total_same f [] ms e = sym (ap (total f) e)
total_same f (n ∷ ns) ms (front, back, e, r) =
    let whole = total_same f ns (front ++ back) r in
    let parts = total_parts f front back in
    let all = total_parts f front (n ∷ back) in
    let is = ap (total f) e in
    omega (arith, whole, parts, all, is)

total_added : (start row count : ℕ) → total (adds_to start row) (numbers count) ≡ added start count row
unfolding added
total_added start row zero = refl
total_added start row (suc count) = ap (λ (n : ℕ). adds_to start row (suc count) + n) (total_added start row count)

more_total : (start : ℕ) (ns : List ℕ) (sums : ℕ → ℕ) (row : ℕ) → all_more start ns sums row ≡ total (adds_to start row) ns + sums row
more_total start [] sums row = omega arith
more_total start (n ∷ ns) sums row = let e = more_total start ns (more start n sums) row in omega (arith, e)

-- ---- all of them

nothing : empty_db ≡ db_with (λ row. 0)
nothing = fun_ext (λ k. by k.row k.table)
  where
    by : (row : ℤ) (table : ℕ) → Absent ≡ in_table (at_row (λ r. 0) row) table
    by row (suc table) = refl
    by (pos row) zero = refl
    by (negsuc row) zero = refl

pub length_numbers : (count : ℕ) → length (numbers count) ≡ count
length_numbers zero = refl
length_numbers (suc count) = ap suc (length_numbers count)

-- nothing is added after the last row
none_added : (start count row : ℕ) → 1000 ≤ row → added start count row ≡ 0
unfolding added
none_added start zero row high = refl
none_added start (suc count) row high =
    let low = mod_below (start + 37 * suc count) 1000 (omega arith) in
    let apart : adds_to start row (suc count) ≡ 0 = rw (ne_eqb (row_of start (suc count)) row (λ is. omega (arith, low, high, is))) refl in
    let rest = none_added start count row high in
    omega (arith, apart, rest)

module _ (procs : List Proc) (start count : ℕ) {C : Type 0} (number : C → ℕ) (call : C → Call) (cs : List C) (few : count ≤ MAX_CALLS) (adds : (c : C) → Member c cs → call c ≡ call_of start (number c)) (once : Reordered (numbers count) (map number cs)) where
  long : length cs ≡ count
  long = sym (length_mapped number cs) ∙ sym (reordered_length (numbers count) (map number cs) once) ∙ length_numbers count

  low : (row : ℕ) → 0 + 10 * length cs < 2 ^ 63
  low row = omega (arith, long, few)

  sums_are : all_more start (map number cs) (λ row. 0) ≡ added start count
  sums_are = fun_ext (λ row. more_total start (map number cs) (λ r. 0) row ∙ (let e = sym (total_same (adds_to start row) (numbers count) (map number cs) once) ∙ total_added start row count in omega (arith, e)))

  pub leaves_rows : IsTablesOf (exec (λ c db. meaning procs (call c) db) cs empty_db) (rows_of start count)
  unfolding rows_of
  leaves_rows =
      subst (λ (db : Db). IsTablesOf db (rows_of start count))
      (sym (ap (exec (λ c db. meaning procs (call c) db) cs) nothing ∙ executed procs start number call cs (λ row. 0) adds low ∙ ap db_with sums_are))
      (tables_with (added start count) 1000 (none_added start count))

  pub all_write : (x : Act C) → Member x (trace (λ c db. meaning procs (call c) db) cs empty_db) → updates x.effect ≡ true
  all_write x m = each_writes procs start number call cs (λ row. 0) adds low x (subst (λ (db : Db). Member x (trace (λ c d. meaning procs (call c) d) cs db)) nothing m)

pub any_order : AnyOrder
any_order start count procs calls few g = (
  leaves_rows procs start count (λ (c : Numbered). c.number) (λ c. c.call) calls few g.each g.once,
  all_write procs start count (λ (c : Numbered). c.number) (λ c. c.call) calls few g.each g.once,
)
