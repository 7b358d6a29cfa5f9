-- Rows that are renewed by what was written.
use Rattle.std.proofs.Common.{ℕ, zero, suc, ◌+◌, ◌<◌, ◌≤◌, Bool, true, false, cond, ◌≡◌, ◌≢◌, inl, inr, List, [], ◌∷◌, ◌++◌, length, take, drop, set, get_or, refl, sym, ap, subst, ◌∙◌, arith, Some, None}
use Rattle.std.specs.Prelude.{slice_get, slice_index, slice_index_or}
use Rattle.std.specs.Option.{unwrap_or}
use Rattle.std.specs.Ordering.{is_eq, ordering_index, ordering_reverse}
use Rattle.std.specs.Map.{lookup}
use Rattle.std.specs.List.{AllByRecursion, AllWithin, HoldsAt, insert, remove}
use Rattle.std.specs.List.Sorted.{IsNonDecreasingBy, IsPartitionPoint, IsStrictlySortedBy}
use Rattle.std.specs.declared.cmp.Ordering.{Ordering}
use Rattle.std.specs.declared.cmp.Ordering.TheVariants.{Less, Equal, Greater}
use Rattle.std.proofs.Math.Path.{fun_ext}
use Rattle.std.proofs.lemmas.Bool.{cases_Bool, both_ways}
use Rattle.std.proofs.lemmas.List.Elements.{All-set, All-append, All-cons, All-drop, All-take}
use Rattle.tau_base.specs.Database.{Db, key_cmp, same_key, written}
use Rattle.tau_base.specs.declared.value.Key.{Key}
use Rattle.tau_base.specs.declared.value.Value.{Value}
use Rattle.tau_base.specs.declared.value.Value.TheVariants.{Absent}
use Rattle.std.proofs.lemmas.List.{take_all}
use Rattle.tau_base.proofs.Keys.{same_key_is, same_key_sym}
use Rattle.tau_proc.proofs.Ascending.{key_total}
use Rattle.tau_base.proofs.Lists.{got_more}
use Rattle.tau_model.specs.Tables.{IsTablesOf, row_key}
use Rattle.tau_follow.specs.Renewing.{after, keys_in, IsGap, IsPut, ArePut}

pub after_more : (xs ys : List (Key × Value)) (db : Db) → after (xs ++ ys) db ≡ after ys (after xs db)
after_more [] ys db = refl
after_more (x ∷ xs) ys db = after_more xs ys (written (x ∷ []) db)

-- the keys stay
pub keys_stay : (rows : List (Key × Value)) (place : ℕ) (w : Key × Value) → slice_get (keys_in rows) place ≡ Some w.0 → keys_in (set rows place w) ≡ keys_in rows
keys_stay [] place w e = refl
keys_stay (r ∷ rows) zero w e = (let same : r.0 ≡ w.0 = cc in ap (λ (k : Key). k ∷ keys_in rows) (sym same))
keys_stay (r ∷ rows) (suc place) w e = ap (λ (l : List Key). r.0 ∷ l) (keys_stay rows place w e)

below_at : (k : Key) (keys : List Key) (place : ℕ) (q : Key) → AllByRecursion (λ y. key_cmp k y ≡ Less) keys → slice_get keys place ≡ Some q → key_cmp k q ≡ Less
below_at k [] place q all e = absurd (let bad : None ≡ Some q = e in cc)
below_at k (x ∷ keys) zero q all e = (let same : x ≡ q = cc in subst (λ (y : Key). key_cmp k y ≡ Less) same all.0)
below_at k (x ∷ keys) (suc place) q all e = below_at k keys place q all.1 e

abbrev value_in : List (Key × Value) → Key → Value
value_in rows q = unwrap_or (lookup (same_key q) rows) Absent

-- two keys of which one is below the other are not both the same as a third one
apart : (q k w : Key) → key_cmp k w ≡ Less → same_key q k ≡ true → same_key q w ≡ false
apart q k w less e = elim (cases_Bool (same_key q w)) [
  | inr f ↦ f
  | inl t ↦
      let first : q ≡ k = same_key_is q k e in
      let second : q ≡ w = same_key_is q w t in
      let same : k ≡ w = sym first ∙ second in
      let itself : is_eq (key_cmp k w) ≡ true = subst (λ (x : Key). same_key x w ≡ true) first t in
      absurd (both_ways (is_eq (key_cmp k w)) (ap is_eq less) itself)
]

value_set : (rows : List (Key × Value)) (place : ℕ) (w : Key × Value) (q : Key) → IsStrictlySortedBy key_cmp (keys_in rows) → slice_get (keys_in rows) place ≡ Some w.0 →
    value_in (set rows place w) q ≡ cond (same_key q w.0) w.1 (value_in rows q)
unfolding IsStrictlySortedBy
value_set [] place w q up e = absurd (let bad : None ≡ Some w.0 = e in cc)
value_set (r ∷ rows) zero w q up e =
    let same : r.0 ≡ w.0 = cc in
    elim (cases_Bool (same_key q w.0)) [
      | inl t ↦ rw t refl
      | inr f ↦ (let g : same_key q r.0 ≡ false = ap (same_key q) same ∙ f in rw (f, g) refl)
    ]
value_set (r ∷ rows) (suc place) w q up e = elim (cases_Bool (same_key q r.0)) [
  | inl t ↦ (let f = apart q r.0 w.0 (below_at r.0 (keys_in rows) place w.0 up.0 e) t in rw (t, f) refl)
  | inr f ↦ rw f (value_set rows place w q up.1 e)
]

-- the rows of a database are those of the database after the write once it is put at its place
pub put_one : (db : Db) (rows : List (Key × Value)) (place : ℕ) (w : Key × Value) → IsTablesOf db rows → IsPut (keys_in rows) w place → IsTablesOf (written (w ∷ []) db) (set rows place w)
put_one db rows place w t is = record {
  ascending = subst (λ (l : List Key). IsStrictlySortedBy key_cmp l) (sym (keys_stay rows place w is.0)) t.ascending;
  present = All-set (λ (r : Key × Value). r.1 ≢ Absent) rows place w is.1 t.present;
  values = fun_ext (λ q. value_set rows place w q t.ascending is.0 ∙ ap (λ (f : Db). cond (same_key q w.0) w.1 (f q)) t.values);
}

take_next : (xs : List (Key × Value)) (i : ℕ) (w : Key × Value) → slice_get xs i ≡ Some w → take (suc i) xs ≡ take i xs ++ w ∷ []
take_next [] i w e = absurd (let bad : None ≡ Some w = e in cc)
take_next (x ∷ xs) zero w e = (let same : x ≡ w = cc in ap (λ y. y ∷ []) same)
take_next (x ∷ xs) (suc i) w e = ap (λ l. x ∷ l) (take_next xs i w e)

pub take_one : (xs : List (Key × Value)) (i : ℕ) (w : Key × Value) → slice_get xs i ≡ Some w → take (i + 1) xs ≡ take i xs ++ w ∷ []
take_one xs i w e = let s : i + 1 ≡ suc i = omega arith in ap (λ (k : ℕ). take k xs) s ∙ take_next xs i w e

-- one write more
pub after_one : (db : Db) (writes : List (Key × Value)) (i : ℕ) (w : Key × Value) → slice_get writes i ≡ Some w → after (take (i + 1) writes) db ≡ written (w ∷ []) (after (take i writes) db)
after_one db writes i w e = ap (λ (l : List (Key × Value)). after l db) (take_one writes i w e) ∙ after_more (take i writes) (w ∷ []) db

-- the same of the next of many writes
pub put_next : (db : Db) (rows writes : List (Key × Value)) (i place : ℕ) (w : Key × Value) → slice_get writes i ≡ Some w → IsTablesOf (after (take i writes) db) rows → IsPut (keys_in rows) w place → IsTablesOf (after (take (i + 1) writes) db) (set rows place w)
put_next db rows writes i place w e t is =
    subst (λ (d : Db). IsTablesOf d (set rows place w)) (sym (after_one db writes i w e)) (put_one (after (take i writes) db) rows place w t is)

-- ---- the places

front_long : (xs : List (Key × Value)) (i : ℕ) (w : Key × Value) → slice_get xs i ≡ Some w → length (take i xs) ≡ i
front_long [] i w e = absurd (let bad : None ≡ Some w = e in cc)
front_long (x ∷ xs) zero w e = refl
front_long (x ∷ xs) (suc i) w e = ap suc (front_long xs i w e)

index_front : (xs ys : List ℕ) (k : ℕ) → k < length xs → slice_index (xs ++ ys) k ≡ slice_index xs k
index_front [] ys k lt = absurd (omega (arith, lt))
index_front (x ∷ xs) ys zero lt = refl
index_front (x ∷ xs) ys (suc k) lt = index_front xs ys k (omega (arith, lt))

index_last : (xs : List ℕ) (x : ℕ) → slice_index (xs ++ x ∷ []) (length xs) ≡ x
index_last [] x = refl
index_last (y ∷ xs) x = index_last xs x

within : (xs : List (Key × Value)) (k : ℕ) (w : Key × Value) → slice_get xs k ≡ Some w → k < length xs
within [] k w e = absurd (let bad : None ≡ Some w = e in cc)
within (x ∷ xs) zero w e = omega arith
within (x ∷ xs) (suc k) w e = let lt = within xs k w e in omega (arith, lt)

pub puts_more : (keys : List Key) (writes : List (Key × Value)) (places : List ℕ) (i place : ℕ) (w : Key × Value) → length places ≡ i → slice_get writes i ≡ Some w → ArePut keys (take i writes) places → IsPut keys w place → ArePut keys (take (i + 1) writes) (places ++ place ∷ [])
puts_more keys writes places i place w long e put is k v there =
    let front = front_long writes i w e in
    elim (got_more (take i writes) w v k (ap (λ (l : List (Key × Value)). slice_get l k) (sym (take_one writes i w e)) ∙ there)) [
      | inl got ↦
          let lt = within (take i writes) k v got in
          subst (λ (x : ℕ). IsPut keys v x) (sym (index_front places (place ∷ []) k (omega (arith, lt, front, long)))) (put k v got)
      | inr q ↦
          let at : k ≡ length places = omega (arith, q.0, front, long) in
          let last : slice_index (places ++ place ∷ []) k ≡ place = ap (slice_index (places ++ place ∷ [])) at ∙ index_last places place in
          subst (λ (x : ℕ). IsPut keys v x) (sym last) (subst (λ (z : Key × Value). IsPut keys z place) q.1 is)
    ]

pub puts_all : (keys : List Key) (writes : List (Key × Value)) (places : List ℕ) (i : ℕ) → length writes ≤ i → ArePut keys (take i writes) places → ArePut keys writes places
puts_all keys writes places i le put = subst (λ (l : List (Key × Value)). ArePut keys l places) (take_all i writes le) put

pub after_all : (db : Db) (rows writes : List (Key × Value)) (i : ℕ) → length writes ≤ i → IsTablesOf (after (take i writes) db) rows → IsTablesOf (after writes db) rows
after_all db rows writes i le t = subst (λ (l : List (Key × Value)). IsTablesOf (after l db) rows) (take_all i writes le) t

pub got_at : (xs : List (Key × Value)) (i : ℕ) (x : Key × Value) → i < length xs → x ≡ get_or xs i x → slice_get xs i ≡ Some x
got_at [] i x lt e = absurd (omega (arith, lt))
got_at (y ∷ xs) zero x lt e = ap (λ z. Some z) (sym e)
got_at (y ∷ xs) (suc i) x lt e = got_at xs i x (omega (arith, lt)) e

-- ---- rows that come and go

below_trans : (j k : Key) (keys : List Key) → key_cmp j k ≡ Less → AllByRecursion (λ y. key_cmp k y ≡ Less) keys → AllByRecursion (λ y. key_cmp j y ≡ Less) keys
below_trans j k [] less all = tt
below_trans j k (x ∷ keys) less all = (key_total.trans j k x less all.0, below_trans j k keys less all.1)

absent_below : (k : Key) (rows : List (Key × Value)) → AllByRecursion (λ y. key_cmp k y ≡ Less) (keys_in rows) → value_in rows k ≡ Absent
absent_below k [] below = refl
absent_below k (r ∷ rows) below = let other : same_key k r.0 ≡ false = ap is_eq below.0 in rw other (absent_below k rows below.1)

insert_below : (k : Key) (rows : List (Key × Value)) (place : ℕ) (w : Key × Value) → key_cmp k w.0 ≡ Less → AllByRecursion (λ y. key_cmp k y ≡ Less) (keys_in rows) → AllByRecursion (λ y. key_cmp k y ≡ Less) (keys_in (insert rows place w))
insert_below k [] zero w less all = (less, tt)
insert_below k [] (suc place) w less all = (less, tt)
insert_below k (r ∷ rows) zero w less all = (less, all)
insert_below k (r ∷ rows) (suc place) w less all = (all.0, insert_below k rows place w less all.1)

insert_ascends : (rows : List (Key × Value)) (place : ℕ) (w : Key × Value) → IsStrictlySortedBy key_cmp (keys_in rows) → IsGap (keys_in rows) w.0 place → IsStrictlySortedBy key_cmp (keys_in (insert rows place w))
unfolding IsStrictlySortedBy
insert_ascends [] zero w up gap = (tt, tt)
insert_ascends [] (suc place) w up gap = (tt, tt)
insert_ascends (r ∷ rows) zero w up gap = ((gap, below_trans w.0 r.0 (keys_in rows) gap up.0), up)
insert_ascends (r ∷ rows) (suc place) w up gap = (insert_below r.0 rows place w gap.0 up.0, insert_ascends rows place w up.1 gap.1)

value_first : (rows : List (Key × Value)) (w : Key × Value) (q : Key) → value_in (w ∷ rows) q ≡ cond (same_key q w.0) w.1 (value_in rows q)
value_first rows w q = elim (cases_Bool (same_key q w.0)) [ inl t ↦ rw t refl | inr f ↦ rw f refl ]

value_inserted : (rows : List (Key × Value)) (place : ℕ) (w : Key × Value) (q : Key) → IsGap (keys_in rows) w.0 place → value_in (insert rows place w) q ≡ cond (same_key q w.0) w.1 (value_in rows q)
value_inserted [] zero w q gap = value_first [] w q
value_inserted [] (suc place) w q gap = value_first [] w q
value_inserted (r ∷ rows) zero w q gap = value_first (r ∷ rows) w q
value_inserted (r ∷ rows) (suc place) w q gap = elim (cases_Bool (same_key q r.0)) [
  | inl t ↦ (let f = apart q r.0 w.0 gap.0 t in rw (t, f) refl)
  | inr f ↦ rw f (value_inserted rows place w q gap.1)
]

-- a row comes
pub put_new : (db : Db) (rows : List (Key × Value)) (place : ℕ) (w : Key × Value) → IsTablesOf db rows → IsGap (keys_in rows) w.0 place → w.1 ≢ Absent → IsTablesOf (written (w ∷ []) db) (insert rows place w)
put_new db rows place w t gap some = record {
  ascending = insert_ascends rows place w t.ascending gap;
  present = All-append (λ (r : Key × Value). r.1 ≢ Absent) (take place rows) (w ∷ drop place rows) (All-take (λ (r : Key × Value). r.1 ≢ Absent) place rows t.present) (All-cons (λ (r : Key × Value). r.1 ≢ Absent) w (drop place rows) some (All-drop (λ (r : Key × Value). r.1 ≢ Absent) place rows t.present));
  values = fun_ext (λ q. value_inserted rows place w q gap ∙ ap (λ (f : Db). cond (same_key q w.0) w.1 (f q)) t.values);
}

remove_below : (k : Key) (rows : List (Key × Value)) (place : ℕ) → AllByRecursion (λ y. key_cmp k y ≡ Less) (keys_in rows) → AllByRecursion (λ y. key_cmp k y ≡ Less) (keys_in (remove rows place))
remove_below k [] zero all = tt
remove_below k [] (suc place) all = tt
remove_below k (r ∷ rows) zero all = all.1
remove_below k (r ∷ rows) (suc place) all = (all.0, remove_below k rows place all.1)

remove_ascends : (rows : List (Key × Value)) (place : ℕ) → IsStrictlySortedBy key_cmp (keys_in rows) → IsStrictlySortedBy key_cmp (keys_in (remove rows place))
unfolding IsStrictlySortedBy
remove_ascends [] zero up = tt
remove_ascends [] (suc place) up = tt
remove_ascends (r ∷ rows) zero up = up.1
remove_ascends (r ∷ rows) (suc place) up = (remove_below r.0 rows place up.0, remove_ascends rows place up.1)

value_removed : (rows : List (Key × Value)) (place : ℕ) (k q : Key) → IsStrictlySortedBy key_cmp (keys_in rows) → slice_get (keys_in rows) place ≡ Some k → value_in (remove rows place) q ≡ cond (same_key q k) Absent (value_in rows q)
unfolding IsStrictlySortedBy
value_removed [] place k q up e = absurd (let bad : None ≡ Some k = e in cc)
value_removed (r ∷ rows) zero k q up e =
    let same : r.0 ≡ k = cc in
    elim (cases_Bool (same_key q k)) [
      | inl t ↦
          let here : q ≡ r.0 = same_key_is q k t ∙ sym same in
          let none : value_in rows q ≡ Absent = ap (value_in rows) here ∙ absent_below r.0 rows up.0 in
          none ∙ sym (ap (λ (b : Bool). cond b Absent (value_in (r ∷ rows) q)) t)
      | inr f ↦ (let g : same_key q r.0 ≡ false = ap (same_key q) same ∙ f in rw (f, g) refl)
    ]
value_removed (r ∷ rows) (suc place) k q up e = elim (cases_Bool (same_key q r.0)) [
  | inl t ↦ (let f = apart q r.0 k (below_at r.0 (keys_in rows) place k up.0 e) t in rw (t, f) refl)
  | inr f ↦ rw f (value_removed rows place k q up.1 e)
]

-- a row goes
pub put_none : (db : Db) (rows : List (Key × Value)) (place : ℕ) (k : Key) → IsTablesOf db rows → slice_get (keys_in rows) place ≡ Some k → IsTablesOf (written ((k, Absent) ∷ []) db) (remove rows place)
put_none db rows place k t e = record {
  ascending = remove_ascends rows place t.ascending;
  present = All-append (λ (r : Key × Value). r.1 ≢ Absent) (take place rows) (drop (suc place) rows) (All-take (λ (r : Key × Value). r.1 ≢ Absent) place rows t.present) (All-drop (λ (r : Key × Value). r.1 ≢ Absent) (suc place) rows t.present);
  values = fun_ext (λ q. value_removed rows place k q t.ascending e ∙ ap (λ (f : Db). cond (same_key q k) Absent (f q)) t.values);
}

absent_gap : (rows : List (Key × Value)) (place : ℕ) (k : Key) → IsStrictlySortedBy key_cmp (keys_in rows) → IsGap (keys_in rows) k place → value_in rows k ≡ Absent
unfolding IsStrictlySortedBy
absent_gap [] place k up gap = refl
absent_gap (r ∷ rows) zero k up gap = absent_below k (r ∷ rows) (gap, below_trans k r.0 (keys_in rows) gap up.0)
absent_gap (r ∷ rows) (suc place) k up gap = let other : same_key k r.0 ≡ false = same_key_sym k r.0 ∙ ap is_eq gap.0 in rw other (absent_gap rows place k up.1 gap.1)

-- a row that is not there goes
pub put_nothing : (db : Db) (rows : List (Key × Value)) (place : ℕ) (k : Key) → IsTablesOf db rows → IsGap (keys_in rows) k place → IsTablesOf (written ((k, Absent) ∷ []) db) rows
put_nothing db rows place k t gap = record {
  ascending = t.ascending;
  present = t.present;
  values = fun_ext (λ q. same q ∙ ap (λ (f : Db). cond (same_key q k) Absent (f q)) t.values);
}
  where
    same : (q : Key) → value_in rows q ≡ cond (same_key q k) Absent (value_in rows q)
    same q = elim (cases_Bool (same_key q k)) [
      | inl e ↦ ap (value_in rows) (same_key_is q k e) ∙ absent_gap rows place k t.ascending gap ∙ sym (ap (λ (b : Bool). cond b Absent (value_in rows q)) e)
      | inr f ↦ sym (ap (λ (b : Bool). cond b Absent (value_in rows q)) f)
    ]

-- ---- the search

key_there : (rows : List (Key × Value)) (i : ℕ) (d : Key × Value) → i < length rows → slice_get (keys_in rows) i ≡ Some (slice_index_or rows i d).0
key_there [] i d lt = absurd (omega (arith, lt))
key_there (r ∷ rows) zero d lt = refl
key_there (r ∷ rows) (suc i) d lt = key_there rows i d (omega (arith, lt))

equal_keys_are : (x y : Key) → key_cmp x y ≡ Equal → x ≡ y
equal_keys_are x y e = same_key_is x y (ap is_eq e)

ranks : (x y k : Key) (o : Ordering) → key_cmp x y ≡ Less → key_cmp y k ≡ o → ordering_index (key_cmp x k) ≤ ordering_index o
ranks x y k Less less e = let z = ap ordering_index (key_total.trans x y k less e) in omega (arith, z)
ranks x y k Equal less e = let z = ap ordering_index (subst (λ (q : Key). key_cmp x q ≡ Less) (equal_keys_are y k e) less) in omega (arith, z)
ranks x y k Greater less e = at_most (key_cmp x k)
  where
    at_most : (p : Ordering) → ordering_index p ≤ 2
    at_most Less = omega arith
    at_most Equal = omega arith
    at_most Greater = omega arith

rising : (rows : List (Key × Value)) (k : Key) → IsStrictlySortedBy key_cmp (keys_in rows) → IsNonDecreasingBy (λ (y : Key × Value). ordering_index (key_cmp (row_key y) k)) rows
unfolding IsStrictlySortedBy
rising [] k up i j d le lt = absurd (omega (arith, lt))
rising (r ∷ rows) k up zero zero d le lt = omega arith
rising (r ∷ rows) k up zero (suc j) d le lt = ranks r.0 (slice_index_or rows j d).0 k (key_cmp (slice_index_or rows j d).0 k) (below_at r.0 (keys_in rows) j (slice_index_or rows j d).0 up.0 (key_there rows j d (omega (arith, lt)))) refl
rising (r ∷ rows) k up (suc i) zero d le lt = absurd (omega (arith, le))
rising (r ∷ rows) k up (suc i) (suc j) d le lt = rising rows k up.1 i j d (omega (arith, le)) (omega (arith, lt))

turned : (x y : Key) → key_cmp x y ≡ Greater → key_cmp y x ≡ Less
turned x y e = key_total.antisymm y x ∙ ap ordering_reverse e

gap_at : (rows : List (Key × Value)) (k : Key) (place : ℕ) → place ≤ length rows → AllWithin (λ (y : Key × Value). key_cmp (row_key y) k ≡ Less) rows 0 place → AllWithin (λ (y : Key × Value). key_cmp (row_key y) k ≡ Greater) rows place (length rows) → IsGap (keys_in rows) k place
gap_at [] k place le below above = omega (arith, le)
gap_at (r ∷ rows) k zero le below above = turned r.0 k (above 0 r (omega arith) (omega arith))
gap_at (r ∷ rows) k (suc place) le below above = (
  below 0 r (omega arith) (omega arith),
  gap_at rows k place (omega (arith, le)) (λ i d low lt. below (suc i) d (omega arith) (omega (arith, lt))) (λ i d low lt. above (suc i) d (omega (arith, low)) (omega (arith, lt))),
)

pub gap_found : (rows : List (Key × Value)) (k : Key) (place : ℕ) → place ≤ length rows → IsStrictlySortedBy key_cmp (keys_in rows) →
    (IsNonDecreasingBy (λ (y : Key × Value). ordering_index (key_cmp (row_key y) k)) rows → IsPartitionPoint (λ (y : Key × Value). key_cmp (row_key y) k ≡ Less) (λ (y : Key × Value). key_cmp (row_key y) k ≡ Greater) rows place) → IsGap (keys_in rows) k place
gap_found rows k place le up found = let p = found (rising rows k up) in gap_at rows k place le p.0 p.1

pub key_found : (rows : List (Key × Value)) (k : Key) (place : ℕ) → place < length rows → HoldsAt (λ (y : Key × Value). key_cmp (row_key y) k ≡ Equal) rows place → slice_get (keys_in rows) place ≡ Some k
key_found rows k place lt equal =
    let d : Key × Value = (k, Absent) in
    key_there rows place d lt ∙ ap (λ (q : Key). Some q) (equal_keys_are (slice_index_or rows place d).0 k (equal d))
