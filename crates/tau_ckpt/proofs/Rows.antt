-- Tables are rows, and what they take.
use Rattle.std.proofs.Common.{◌≡◌, ℕ, zero, suc, ◌+◌, ◌*◌, true, false, List, [], ◌∷◌, ◌++◌, length, map, refl, ap, ◌∙◌, append_assoc, arith, length-append}
use Rattle.std.specs.Prelude.{◌≢◌}
use Rattle.std.specs.Int.{w32, w64, to_be_bytes}
use Rattle.std.specs.List.{All, AllByRecursion, flat_map, list_all}
use Rattle.std.specs.List.Sorted.{IsStrictlySortedBy}
use Rattle.std.specs.FinMap.Entries.{is_sorted, below_all}
use Rattle.std.specs.Ordering.{is_lt}
use Rattle.std.specs.declared.cmp.Ordering.{Ordering}
use Rattle.std.specs.declared.cmp.Ordering.TheVariants.{Less, Equal, Greater}
use Rattle.std.proofs.lemmas.Bool.{and_from, and_parts}
use Rattle.tau_base.specs.Database.{key_cmp}
use Rattle.tau_base.specs.declared.value.Key.{Key}
use Rattle.tau_base.specs.declared.value.Value.{Value}
use Rattle.tau_base.specs.declared.value.Value.TheVariants.{Absent, Int, Text}
use Rattle.tau_model.specs.Tables.{is_present}
use Rattle.tau_record.specs.Item.{write}
use Rattle.tau_ckpt.specs.Slot.{AreTables, Holds, body_text, frame, head_of, head_text, slot_text}
use Rattle.tau_ckpt.specs.declared.checkpoint.Checkpoint.{Checkpoint}
use Rattle.tau_ckpt.specs.declared.front.Head.{Head}
use Rattle.tau_ckpt.proofs.Fields.{spelled}

below_keys : (k : Key) (rows : List (Key × Value)) → AllByRecursion (λ y. key_cmp k y ≡ Less) (map (λ (r : Key × Value). r.0) rows) → below_all key_cmp k rows ≡ true
below_keys k [] h = refl
below_keys k (r ∷ rows) h = and_from (is_lt (key_cmp k r.0)) (below_all key_cmp k rows) (ap is_lt h.0) (below_keys k rows h.1)

pub rows_sorted : (rows : List (Key × Value)) → IsStrictlySortedBy key_cmp (map (λ (r : Key × Value). r.0) rows) → is_sorted key_cmp rows ≡ true
unfolding IsStrictlySortedBy
rows_sorted [] h = refl
rows_sorted (r ∷ rows) h = and_from (below_all key_cmp r.0 rows) (is_sorted key_cmp rows) (below_keys r.0 rows h.0) (rows_sorted rows h.1)

is_there : (r : Key × Value) → r.1 ≢ Absent → is_present r ≡ true
is_there (k, Absent) n = absurd (n refl)
is_there (k, Int z) n = refl
is_there (k, Text t) n = refl

pub rows_present : (rows : List (Key × Value)) → All (λ (r : Key × Value). r.1 ≢ Absent) rows → list_all is_present rows ≡ true
rows_present [] all = refl
rows_present (r ∷ rows) all = and_from (is_present r) (list_all is_present rows) (is_there r (all 0 r (omega arith))) (rows_present rows (λ k d lt. all (suc k) d (omega (arith, lt))))

-- ---- and rows that are spelled are tables

less_is : (o : Ordering) → is_lt o ≡ true → o ≡ Less
less_is Less e = refl
less_is Equal e = absurd (let bad : false ≡ true = e in cc)
less_is Greater e = absurd (let bad : false ≡ true = e in cc)

keys_below : (k : Key) (rows : List (Key × Value)) → below_all key_cmp k rows ≡ true → AllByRecursion (λ y. key_cmp k y ≡ Less) (map (λ (r : Key × Value). r.0) rows)
keys_below k [] h = tt
keys_below k (r ∷ rows) h =
    let p = and_parts (is_lt (key_cmp k r.0)) (below_all key_cmp k rows) h in
    (less_is (key_cmp k r.0) p.0, keys_below k rows p.1)

rows_ascend : (rows : List (Key × Value)) → is_sorted key_cmp rows ≡ true → IsStrictlySortedBy key_cmp (map (λ (r : Key × Value). r.0) rows)
unfolding IsStrictlySortedBy
rows_ascend [] h = tt
rows_ascend (r ∷ rows) h =
    let p = and_parts (below_all key_cmp r.0 rows) (is_sorted key_cmp rows) h in
    (keys_below r.0 rows p.0, rows_ascend rows p.1)

not_absent : (r : Key × Value) → is_present r ≡ true → r.1 ≢ Absent
not_absent (k, Absent) h e = let bad : false ≡ true = h in cc
not_absent (k, Int z) h e = cc
not_absent (k, Text t) h e = cc

none_absent : (rows : List (Key × Value)) → list_all is_present rows ≡ true → All (λ (r : Key × Value). r.1 ≢ Absent) rows
none_absent [] h k d lt = absurd (omega (arith, lt))
none_absent (r ∷ rows) h zero d lt = not_absent r (and_parts (is_present r) (list_all is_present rows) h).0
none_absent (r ∷ rows) h (suc k) d lt = none_absent rows (and_parts (is_present r) (list_all is_present rows) h).1 k d (omega (arith, lt))

pub held_tables : (slot : ℕ) (image : List ℕ) (c : Checkpoint) → Holds slot image c → AreTables c.rows
held_tables slot image c h = record { ascending = rows_ascend c.rows h.fits.are_rows.0; present = none_absent c.rows h.fits.present }

-- ---- sizes

spelled_long : (lv : List ℕ) → length (spelled lv) ≡ 8 * length lv
spelled_long [] = refl
spelled_long (p ∷ lv) = let more = spelled_long lv in omega (arith, more)

pub head_long : (h : Head) → length (head_text h) ≡ 20 + 8 * length h.lv
unfolding head_text
head_long h = omega (arith, spelled_long h.lv, length-append (spelled h.lv) (to_be_bytes w64 h.count))

pub body_long : (c : Checkpoint) → length (body_text c) ≡ 20 + 8 * length c.lv + length (flat_map write c.rows)
body_long c = omega (arith, head_long (head_of c), length-append (head_text (head_of c)) (flat_map write c.rows))

pub slot_made : (slot : ℕ) (c : Checkpoint) (n size : ℕ) (one two made : List ℕ) → n ≡ length c.lv → size ≡ length (body_text c)
    → one ≡ frame n slot size → two ≡ one ++ head_text (head_of c) → made ≡ two ++ flat_map write c.rows → made ≡ slot_text slot c
slot_made slot c n size one two made width long a b d =
    d ∙ ap (λ (l : List ℕ). l ++ flat_map write c.rows) (b ∙ ap (λ (l : List ℕ). l ++ head_text (head_of c)) a)
    ∙ append_assoc (frame n slot size) (head_text (head_of c)) (flat_map write c.rows)
    ∙ (λ i. frame (width i) slot (long i) ++ body_text c)

-- a head that was put field by field
pub head_put : (h : Head) (out one two three four : List ℕ) → one ≡ out ++ to_be_bytes w64 h.number → two ≡ one ++ to_be_bytes w32 h.epoch → three ≡ two ++ spelled h.lv → four ≡ three ++ to_be_bytes w64 h.count
    → four ≡ out ++ head_text h
unfolding head_text
head_put h out one two three four a b c d =
    let n = to_be_bytes w64 h.number in
    let e = to_be_bytes w32 h.epoch in
    let v = spelled h.lv in
    let k = to_be_bytes w64 h.count in
    d ∙ ap (λ (l : List ℕ). l ++ k) (c ∙ ap (λ (l : List ℕ). l ++ v) (b ∙ ap (λ (l : List ℕ). l ++ e) a))
    ∙ append_assoc ((out ++ n) ++ e) v k ∙ append_assoc (out ++ n) e (v ++ k) ∙ append_assoc out n (e ++ (v ++ k))
