-- Rows in a map that changes at one key.
use Rattle.std.proofs.Common.{ℕ, suc, ◌-◌, ◌<◌, ◌≤◌, Bool, true, false, cond, ◌≡◌, List, [], ◌∷◌, length, drop, drop-cons, arith, refl, sym, ap, ◌∙◌, Option}
use Rattle.std.specs.Prelude.{Some, None, IsOk, OnOk, OnErr, Result, Ok, Err, slice_index_or}
use Rattle.std.proofs.Math.Path.{fun_ext}
use Rattle.std.proofs.lemmas.Bool.{both_ways}
use Rattle.tau_base.specs.declared.value.Key.{Key}
use Rattle.tau_base.specs.declared.value.Value.{Value}
use Rattle.tau_base.specs.declared.value.Value.TheVariants.{Absent, Int, Text}
use Rattle.tau_base.specs.Database.{same_key, written, db_of}
use Rattle.tau_base.proofs.Keys.{same_key_equal, db_of_set, db_of_removed}
use Rattle.tau_model.specs.Store.{is_key}
use Rattle.tau_model.specs.Tables.{is_value}

pub when_ok : {X E P : Type 0} (r : Result X E) → OnOk r P → IsOk r → P
when_ok (Ok x) p is = p
when_ok {X} (Err e) p is = absurd (no_ok e is)
  where
    no_ok : {E : Type 0} (e : E) → IsOk {T = X} (Err e) → ⊥
    no_ok e q = cc

-- maps find keys as the order of keys does
pub same_test : is_key ≡ same_key
same_test = fun_ext (λ a. fun_ext (λ b. sym (same_key_equal a b)))

-- a row that is set in a map is a write
pub rows_set : (old new : Key → Option Value) (key : Key) (v : Value) → ((q : Key) → new q ≡ cond (is_key key q) (Some v) (old q)) → db_of new ≡ written ((key, v) ∷ []) (db_of old)
rows_set old new key v h = db_of_set old new key v (λ q. h q ∙ ap (λ (b : Bool). cond b (Some v) (old q)) (sym (same_key_equal key q)))

-- and one that is taken out is the write of nothing
pub rows_removed : (old new : Key → Option Value) (key : Key) (v : Value) → is_value v ≡ false → ((q : Key) → new q ≡ cond (is_key key q) None (old q)) →
    db_of new ≡ written ((key, v) ∷ []) (db_of old)
rows_removed old new key v none h =
    db_of_removed old new key (λ q. h q ∙ ap (λ (b : Bool). cond b None (old q)) (sym (same_key_equal key q)))
    ∙ ap (λ (w : Value). written ((key, w) ∷ []) (db_of old)) (sym (absent_of v none))
  where
    absent_of : (w : Value) → is_value w ≡ false → w ≡ Absent
    absent_of Absent e = refl
    absent_of (Int n) e = absurd (both_ways true e refl)
    absent_of (Text t) e = absurd (both_ways true e refl)

-- one more at the front of what is left
pub drop_before : {A : Type 0} (xs : List A) (i : ℕ) (x : A) → 0 < i → i ≤ length xs → x ≡ slice_index_or xs (i - 1) x → drop (i - 1) xs ≡ x ∷ drop i xs
drop_before {A} xs i x pos le is =
    let e : i ≡ suc (i - 1) = omega arith in
    drop-cons xs (i - 1) x (omega arith) ∙ ap (λ (y : A). y ∷ drop (suc (i - 1)) xs) (sym is) ∙ ap (λ (k : ℕ). x ∷ drop k xs) (sym e)
