-- The rows of the shards, shard after shard.
use Rattle.std.proofs.Common.{ℕ, zero, suc, ◌+◌, ◌-◌, take, drop, ◌<◌, ◌≤◌, ◌≡◌, Bool, true, false, ◌⊎◌, inl, inr, List, [], ◌∷◌, refl, sym, ap, ◌∙◌, Option, arith}
use Rattle.std.specs.Prelude.{Some, None, ◌==◌, nat_lt, cond, slice_get}
use Rattle.std.specs.Option.{unwrap_or}
use Rattle.std.specs.Map.{lookup}
use Rattle.std.proofs.Math.Path.{fun_ext}
use Rattle.std.proofs.lemmas.Bool.{cases_eq, eq-eqb, ne_eqb, lt-ltb, le-ltb}
use Rattle.tau_base.specs.declared.limits.TheConstants.{SHARDS}
use Rattle.tau_base.specs.declared.value.Key.{Key}
use Rattle.tau_base.specs.declared.value.Value.{Value}
use Rattle.tau_base.specs.declared.value.Value.TheVariants.{Absent}
use Rattle.tau_base.specs.Database.{Db, same_key, written, db_of, empty_db}
use Rattle.tau_base.specs.Shards.{shard_number}
use Rattle.tau_base.proofs.Keys.{same_key_is}
use Rattle.tau_shard.specs.Plain.{PlainShard}
use Rattle.tau_shard.specs.Read.{shard_of}
use Rattle.tau_core.specs.View.{shard_in}
use Rattle.tau_core.specs.Rows.{own_rows, with_shard_rows, rows_of, HasNone}
use Rattle.tau_core.proofs.Shards.{shard_small}
use Rattle.tau_base.proofs.Logic.{below_or_not}
use Rattle.tau_base.proofs.Lists.{drop_at}

-- the rows of the first so many shards
abbrev pub rows_below : ℕ → List PlainShard → Db
rows_below n shards x = cond (nat_lt (shard_number x) n) (rows_of shards x) Absent

pub below_none : (shards : List PlainShard) → ◌≡◌ {A = Db} empty_db (rows_below 0 shards)
below_none shards = fun_ext (λ x. ap (λ (b : Bool). cond b (rows_of shards x) Absent) (sym (le-ltb (shard_number x) 0 (omega arith))))

pub below_all : (shards : List PlainShard) → ◌≡◌ {A = Db} (rows_below SHARDS shards) (rows_of shards)
below_all shards = fun_ext (λ x. ap (λ (b : Bool). cond b (rows_of shards x) Absent) (lt-ltb (shard_number x) SHARDS (shard_small x)))

pub below_free : (n : ℕ) (shards : List PlainShard) → HasNone n (rows_below n shards)
below_free n shards x e = ap (λ (b : Bool). cond b (rows_of shards x) Absent) (le-ltb (shard_number x) n (omega arith))

above : (a b : ℕ) → b ≤ a → (a ≡ b → ⊥) → b + 1 ≤ a
above zero zero le ne = absurd (ne refl)
above zero (suc b) le ne = absurd (omega arith)
above (suc a) zero le ne = omega arith
above (suc a) (suc b) le ne = (let r = above a b (omega arith) (λ e. ne (ap suc e)) in omega arith)

-- for another number the next test tells the same
same_below : (m n : ℕ) → (m ≡ n → ⊥) → nat_lt m n ≡ nat_lt m (n + 1)
same_below m n other = elim (below_or_not m n) [
  | inl lt ↦ lt-ltb m n lt ∙ sym (lt-ltb m (n + 1) (omega (arith, lt)))
  | inr le ↦ le-ltb m n le ∙ sym (le-ltb m (n + 1) (above m n le other))
]

pub below_more : (n : ℕ) (shards : List PlainShard) (s : PlainShard) → slice_get shards n ≡ Some s → ◌≡◌ {A = Db} (with_shard_rows n s (rows_below n shards)) (rows_below (n + 1) shards)
below_more n shards s is = fun_ext (λ x. by_case x (cases_eq (shard_number x) n))
  where
    by_case : (x : Key) → (shard_number x ≡ n) ⊎ (shard_number x ≡ n → ⊥) → with_shard_rows n s (rows_below n shards) x ≡ rows_below (n + 1) shards x
    by_case x (inl e) =
        let low : shard_number x < n + 1 = omega arith in
        let there : rows_of shards x ≡ (shard_of s).rows x = ap (λ (k : ℕ). (shard_in (slice_get shards k)).rows x) e ∙ ap (λ (o : Option PlainShard). (shard_in o).rows x) is in
        ap (λ (b : Bool). cond b ((shard_of s).rows x) (rows_below n shards x)) (eq-eqb (shard_number x) n e) ∙ sym there ∙
        ap (λ (b : Bool). cond b (rows_of shards x) Absent) (sym (lt-ltb (shard_number x) (n + 1) low))
    by_case x (inr ne) = ap (λ (b : Bool). cond b ((shard_of s).rows x) (rows_below n shards x)) (ne_eqb (shard_number x) n ne) ∙ ap (λ (b : Bool). cond b (rows_of shards x) Absent) (same_below (shard_number x) n ne)

-- writes, by what is looked up among them
written_lookup : (ws : List (Key × Value)) (db : Db) (x : Key) → written ws db x ≡ unwrap_or (lookup (same_key x) ws) (db x)
written_lookup [] db x = refl
written_lookup (w ∷ ws) db x = by_test (same_key x w.0) (written_lookup ws db x)
  where
    by_test : (b : Bool) → written ws db x ≡ unwrap_or (lookup (same_key x) ws) (db x) → cond b w.1 (written ws db x) ≡ unwrap_or (cond b (Some w.1) (lookup (same_key x) ws)) (db x)
    by_test true rest = refl
    by_test false rest = rest

module _ (i : ℕ) (x : Key) where
  own_apart : (w : Key × Value) (rest : Option Value) → shard_number x ≡ i → (shard_number w.0 ≡ i → ⊥) → (b : Bool) → same_key x w.0 ≡ b → rest ≡ cond b (Some w.1) rest
  own_apart w rest e ne true same = absurd (ne (ap shard_number (sym (same_key_is x w.0 same)) ∙ e))
  own_apart w rest e ne false same = refl

  own_first : (w : Key × Value) (ws own : List (Key × Value)) → shard_number x ≡ i → lookup (same_key x) own ≡ lookup (same_key x) ws → (shard_number w.0 ≡ i) ⊎ (shard_number w.0 ≡ i → ⊥) →
      lookup (same_key x) (cond (shard_number w.0 == i) (w ∷ own) own) ≡ cond (same_key x w.0) (Some w.1) (lookup (same_key x) ws)
  own_first w ws own e rest (inl there) = ap (λ (b : Bool). lookup (same_key x) (cond b (w ∷ own) own)) (eq-eqb (shard_number w.0) i there) ∙ ap (λ (o : Option Value). cond (same_key x w.0) (Some w.1) o) rest
  own_first w ws own e rest (inr ne) =
      ap (λ (b : Bool). lookup (same_key x) (cond b (w ∷ own) own)) (ne_eqb (shard_number w.0) i ne) ∙ rest ∙ own_apart w (lookup (same_key x) ws) e ne (same_key x w.0) refl

  -- among the rows of the shard, a key of the shard is found as among all of them
  lookup_own : shard_number x ≡ i → (ws : List (Key × Value)) → lookup (same_key x) (own_rows i ws) ≡ lookup (same_key x) ws
  lookup_own e [] = refl
  lookup_own e (w ∷ ws) = own_first w ws (own_rows i ws) e (lookup_own e ws) (cases_eq (shard_number w.0) i)

  other_apart : (w : Key × Value) (rest : Option Value) → (shard_number x ≡ i → ⊥) → shard_number w.0 ≡ i → rest ≡ None → (b : Bool) → same_key x w.0 ≡ b → cond b (Some w.1) rest ≡ None
  other_apart w rest ne own none true same = absurd (ne (ap shard_number (same_key_is x w.0 same) ∙ own))
  other_apart w rest ne own none false same = none

  other_first : (w : Key × Value) (own : List (Key × Value)) → (shard_number x ≡ i → ⊥) → lookup (same_key x) own ≡ None → (shard_number w.0 ≡ i) ⊎ (shard_number w.0 ≡ i → ⊥) →
      lookup (same_key x) (cond (shard_number w.0 == i) (w ∷ own) own) ≡ None
  other_first w own ne rest (inl there) =
      ap (λ (b : Bool). lookup (same_key x) (cond b (w ∷ own) own)) (eq-eqb (shard_number w.0) i there) ∙ other_apart w (lookup (same_key x) own) ne there rest (same_key x w.0) refl
  other_first w own ne rest (inr other) = ap (λ (b : Bool). lookup (same_key x) (cond b (w ∷ own) own)) (ne_eqb (shard_number w.0) i other) ∙ rest

  -- and a key of another shard is not found
  lookup_other : (shard_number x ≡ i → ⊥) → (ws : List (Key × Value)) → lookup (same_key x) (own_rows i ws) ≡ None
  lookup_other ne [] = refl
  lookup_other ne (w ∷ ws) = other_first w (own_rows i ws) ne (lookup_other ne ws) (cases_eq (shard_number w.0) i)

-- a database that has no rows of the shard gets those of the shard
pub own_written : (i : ℕ) (s : PlainShard) (ps : List (Key × Value)) (db : Db) → db_of (λ x. lookup (same_key x) ps) ≡ (shard_of s).rows → HasNone i db →
    ◌≡◌ {A = Db} (written (own_rows i ps) db) (with_shard_rows i s db)
own_written i s ps db is none = fun_ext (λ x. by_case x (cases_eq (shard_number x) i))
  where
    by_case : (x : Key) → (shard_number x ≡ i) ⊎ (shard_number x ≡ i → ⊥) → written (own_rows i ps) db x ≡ with_shard_rows i s db x
    by_case x (inl e) =
        written_lookup (own_rows i ps) db x ∙ ap (λ (o : Option Value). unwrap_or o (db x)) (lookup_own i x e ps) ∙ ap (unwrap_or (lookup (same_key x) ps)) (none x e) ∙
        ap (λ (d : Db). d x) is ∙ ap (λ (b : Bool). cond b ((shard_of s).rows x) (db x)) (sym (eq-eqb (shard_number x) i e))
    by_case x (inr ne) =
        written_lookup (own_rows i ps) db x ∙ ap (λ (o : Option Value). unwrap_or o (db x)) (lookup_other i x ne ps) ∙
        ap (λ (b : Bool). cond b ((shard_of s).rows x) (db x)) (sym (ne_eqb (shard_number x) i ne))

pub take_one : {A : Type 0} (xs : List A) (i : ℕ) (x : A) → slice_get xs i ≡ Some x → take ((i + 1) - i) (drop i xs) ≡ x ∷ []
take_one {A} xs i x e = (let one : (i + 1) - i ≡ 1 = omega arith in ap (λ n. take n (drop i xs)) one ∙ ap (take 1) (drop_at xs i x e))

-- one more row in front
pub own_more : (i : ℕ) (r : Key × Value) (rest : List (Key × Value)) (db : Db) → ◌≡◌ {A = Db} (written (own_rows i (r ∷ rest)) db) (written (own_rows i (r ∷ [])) (written (own_rows i rest) db))
own_more i r rest db = by_test (shard_number r.0 == i)
  where
    by_test : (b : Bool) → ◌≡◌ {A = Db} (written (cond b (r ∷ own_rows i rest) (own_rows i rest)) db) (written (cond b (r ∷ []) []) (written (own_rows i rest) db))
    by_test true = refl
    by_test false = refl

-- a row that belongs to the shard, and one that does not
pub own_one : (i : ℕ) (r : Key × Value) (db : Db) → shard_number r.0 ≡ i → ◌≡◌ {A = Db} (written (r ∷ []) db) (written (own_rows i (r ∷ [])) db)
own_one i r db e = ap (λ (b : Bool). written (cond b (r ∷ []) []) db) (sym (eq-eqb (shard_number r.0) i e))

pub own_none : (i : ℕ) (r : Key × Value) (db : Db) → (shard_number r.0 ≡ i → ⊥) → ◌≡◌ {A = Db} db (written (own_rows i (r ∷ [])) db)
own_none i r db ne = ap (λ (b : Bool). written (cond b (r ∷ []) []) db) (sym (ne_eqb (shard_number r.0) i ne))
