-- A map from numbers to vectors, as known epochs.
use Rattle.std.proofs.Common.{ℕ, suc, ◌≤◌, ◌<◌, ◌==◌, inl, inr, Bool, true, false, ◌&&◌, not, ◌≡◌, List, [], ◌∷◌, refl, sym, ap, subst, ◌∙◌, arith, nat_lt, nat_le, cond, Option, Some, None, if◌then◌else◌, is_some}
use Rattle.std.proofs.lemmas.Bool.{cases_Bool, ltb-true, eqb-true, leb-false, eq-eqb}
use Rattle.std.proofs.lemmas.Cmp.{ranked}
use Rattle.std.proofs.lemmas.Map.Keys.{sorted_head, sorted_tail, IsStrictlyIncreasing-from_sorted, ge_from_not_lt}
use Rattle.std.specs.declared.cmp.Ordering.TheVariants.{Less, Equal, Greater}
use Rattle.std.specs.declared.ops.Bound.TheVariants.{Excluded, Unbounded}
use Rattle.std.specs.List.{All, AllByRecursion}
use Rattle.std.specs.List.Sorted.{IsStrictlySortedBy, IsStrictlyIncreasing}
use Rattle.std.specs.Map.{keys_of, lookup}
use Rattle.std.specs.Option.{option_map}
use Rattle.std.specs.Ordering.{nat_cmp, is_eq, is_lt, match_ordering}
use Rattle.std.specs.BTreeMap.{insert_entry, is_at}
use Rattle.std.specs.BTreeMap.Range.{entries_between}
use Rattle.tau_epoch.specs.Epochs.{Mark, lower, least_above, largest, meet, judged_by}
use Rattle.tau_epoch.specs.Known.{as_marks, numbers_of, Ascends, vector_of, put_mark, with_mark}

abbrev Entry : Type 0
Entry = ℕ × List ℕ

abbrev mark : Entry → Mark
mark e = record { number = e.0; lv = e.1 }

-- ---- comparisons of numbers

equal_at : (n k : ℕ) → is_eq (nat_cmp n k) ≡ (n == k)
equal_at n k = elim (cases_Bool (nat_lt n k)) [
  | inl t ↦
      let lt : n < k = ltb-true n k t in
      elim (cases_Bool (n == k)) [
        | inl e ↦ absurd (let same = eqb-true n k e in omega (arith, lt, same))
        | inr f ↦ ap (λ (b : Bool). is_eq (cond b Less (cond (n == k) Equal Greater))) t ∙ sym f
      ]
  | inr f ↦ ap (λ (b : Bool). is_eq (cond b Less (cond (n == k) Equal Greater))) f ∙ by (n == k)
]
  where
    by : (b : Bool) → is_eq (cond b Equal Greater) ≡ b
    by true = refl
    by false = refl

less_at : (k q : ℕ) → (is_lt (nat_cmp k q) && not false) ≡ nat_lt k q
less_at k q = by (nat_lt k q) (k == q)
  where
    by : (a b : Bool) → (is_lt (cond a Less (cond b Equal Greater)) && not false) ≡ a
    by true b = refl
    by false true = refl
    by false false = refl

less_is : (n k : ℕ) → nat_cmp n k ≡ Less → n < k
less_is n k e = ranked n k Less (sym e)

-- ---- a map in order

numbers_are : (es : List Entry) → numbers_of (as_marks es) ≡ keys_of es
numbers_are [] = refl
numbers_are (e ∷ es) = ap (λ (l : List ℕ). e.0 ∷ l) (numbers_are es)

pub ascend : (es : List Entry) → IsStrictlySortedBy nat_cmp (keys_of es) → Ascends (as_marks es)
ascend es s = subst IsStrictlyIncreasing (sym (numbers_are es)) (IsStrictlyIncreasing-from_sorted (keys_of es) s)

-- the numbers rise from above n
abbrev Rises : List Entry → ℕ → Type 0
Rises [] n = Unit {0}
Rises (e ∷ es) n = (n < e.0) × Rises es e.0

rises : (es : List Entry) (n : ℕ) → IsStrictlySortedBy nat_cmp (n ∷ keys_of es) → Rises es n
rises [] n s = tt
rises (e ∷ es) n s =
    let head : AllByRecursion (λ y. nat_cmp n y ≡ Less) (e.0 ∷ keys_of es) = sorted_head nat_cmp n (e.0 ∷ keys_of es) s in
    (less_is n e.0 head.0, rises es e.0 (sorted_tail nat_cmp n (e.0 ∷ keys_of es) s))

rises_lower : (es : List Entry) (m n : ℕ) → m ≤ n → Rises es n → Rises es m
rises_lower [] m n le r = tt
rises_lower (e ∷ es) m n le r = let lt = r.0 in (omega (arith, le, lt), r.1)

-- ---- what a look-up finds

pub lookup_vector : (n : ℕ) (es : List Entry) → lookup (is_at (nat_cmp n)) es ≡ vector_of n (as_marks es)
lookup_vector n [] = refl
lookup_vector n (e ∷ es) =
    ap (λ (b : Bool). cond b (Some e.1) (lookup (is_at (nat_cmp n)) es)) (equal_at n e.0) ∙ ap (λ (o : Option (List ℕ)). cond (n == e.0) (Some e.1) o) (lookup_vector n es)

-- ---- what an insertion makes

abbrev inserted : Bool → Bool → ℕ → List ℕ → Entry → List Entry → List Mark
inserted a b n v e es = as_marks (match_ordering (cond a Less (cond b Equal Greater)) ((n, v) ∷ e ∷ es) ((e.0, v) ∷ es) (e ∷ insert_entry nat_cmp es n v))

abbrev placed : Bool → Mark → Mark → List Mark → List Mark
placed a m o ms = if a then m ∷ o ∷ ms else o ∷ put_mark m ms

insert_step : (n : ℕ) (v : List ℕ) (e : Entry) (es : List Entry) (a b : Bool) → (b ≡ true → ⊥)
    → (b ≡ false → as_marks (insert_entry nat_cmp es n v) ≡ put_mark (record { number = n; lv = v }) (as_marks es))
    → inserted a b n v e es ≡ placed a (record { number = n; lv = v }) (mark e) (as_marks es)
insert_step n v e es true b other rest = refl
insert_step n v e es false true other rest = absurd (other refl)
insert_step n v e es false false other rest = ap (λ (l : List Mark). mark e ∷ l) (rest refl)

pub insert_put : (n : ℕ) (v : List ℕ) (es : List Entry) → vector_of n (as_marks es) ≡ None → as_marks (insert_entry nat_cmp es n v) ≡ put_mark (record { number = n; lv = v }) (as_marks es)
insert_put n v [] none = refl
insert_put n v (e ∷ es) none = insert_step n v e es (nat_lt n e.0) (n == e.0)
    (λ t. let f : Some e.1 ≡ None = sym (ap (λ (b : Bool). if b then Some e.1 else vector_of n (as_marks es)) t) ∙ none in cc f)
    (λ f. insert_put n v es (sym (ap (λ (b : Bool). if b then Some e.1 else vector_of n (as_marks es)) f) ∙ none))

put_step : (m o : Mark) (ms : List Mark) (a b : Bool) → (m.number == o.number) ≡ b → (b ≡ true → ⊥) → (b ≡ false → vector_of m.number (put_mark m ms) ≡ Some m.lv)
    → vector_of m.number (placed a m o ms) ≡ Some m.lv
put_step m o ms true b is other rest = ap (λ (c : Bool). if c then Some m.lv else vector_of m.number (o ∷ ms)) (eq-eqb m.number m.number refl)
put_step m o ms false true is other rest = absurd (other refl)
put_step m o ms false false is other rest = ap (λ (c : Bool). if c then Some o.lv else vector_of m.number (put_mark m ms)) is ∙ rest refl

pub put_vector : (m : Mark) (known : List Mark) → vector_of m.number known ≡ None → vector_of m.number (put_mark m known) ≡ Some m.lv
put_vector m [] none = ap (λ (b : Bool). if b then Some m.lv else None) (eq-eqb m.number m.number refl)
put_vector m (o ∷ ms) none = put_step m o ms (nat_lt m.number o.number) (m.number == o.number) refl
    (λ t. let f : Some o.lv ≡ None = sym (ap (λ (b : Bool). if b then Some o.lv else vector_of m.number ms) t) ∙ none in cc f)
    (λ f. put_vector m ms (sym (ap (λ (b : Bool). if b then Some o.lv else vector_of m.number ms) f) ∙ none))

pub with_new : (m : Mark) (known : List Mark) → vector_of m.number known ≡ None → with_mark m known ≡ put_mark m known
with_new m known none = ap (λ (o : Option (List ℕ)). if is_some o then known else put_mark m known) none

pub with_known : (m : Mark) (v : List ℕ) (known : List Mark) → vector_of m.number known ≡ Some v → with_mark m known ≡ known
with_known m v known is = ap (λ (o : Option (List ℕ)). if is_some o then known else put_mark m known) is

-- ---- the least number above

lower_first : (es : List Entry) (k : ℕ) (a : Entry) → Rises es a.0 → lower (mark a) (least_above k (as_marks es)) ≡ mark a
lower_first [] k a r = refl
lower_first (e ∷ es) k a r = elim (cases_Bool (nat_lt k e.0)) [
  | inl t ↦
      let first : least_above k (as_marks (e ∷ es)) ≡ Some (mark e) =
      ap (λ (b : Bool). if b then Some (lower (mark e) (least_above k (as_marks es))) else least_above k (as_marks es)) t ∙ ap (λ (m : Mark). Some m) (lower_first es k e r.1) in
      ap (lower (mark a)) first ∙ ap (λ (b : Bool). if b then mark a else mark e) (le_true a.0 e.0 r.0)
  | inr f ↦
      let low = r.0 in
      ap (λ (b : Bool). lower (mark a) (if b then Some (lower (mark e) (least_above k (as_marks es))) else least_above k (as_marks es))) f
      ∙ lower_first es k a (rises_lower es a.0 e.0 (omega (arith, low)) r.1)
]
  where
    le_true : (x y : ℕ) → x < y → nat_le x y ≡ true
    le_true x y lt = elim (cases_Bool (nat_le x y)) [
      | inl t ↦ t
      | inr f ↦ absurd (let gt : y < x = leb-false x y f in omega (arith, gt, lt))
    ]

abbrev above : ℕ → List Entry → List Entry
above k es = entries_between nat_cmp (Excluded k) Unbounded es

pub first_above : (k : ℕ) (e : Entry) (t es : List Entry) → IsStrictlySortedBy nat_cmp (keys_of es) → above k es ≡ e ∷ t → Some e.1 ≡ option_map (λ m. m.lv) (least_above k (as_marks es))
first_above k e t [] s is = absurd (cc is)
first_above k e t (a ∷ es) s is = elim (cases_Bool (nat_lt k a.0)) [
  | inl y ↦
      let kept : a ∷ above k es ≡ e ∷ t = sym (ap (λ (b : Bool). cond b (a ∷ above k es) (above k es)) (less_at k a.0 ∙ y)) ∙ is in
      let head : a ≡ e = head_is a e (above k es) t kept in
      let first : least_above k (as_marks (a ∷ es)) ≡ Some (mark a) =
      ap (λ (b : Bool). if b then Some (lower (mark a) (least_above k (as_marks es))) else least_above k (as_marks es)) y ∙ ap (λ (m : Mark). Some m) (lower_first es k a (rises es a.0 s)) in
      ap (λ (x : Entry). Some x.1) (sym head) ∙ sym (ap (option_map (λ (m : Mark). m.lv)) first)
  | inr n ↦
      let rest : above k es ≡ e ∷ t = sym (ap (λ (b : Bool). cond b (a ∷ above k es) (above k es)) (less_at k a.0 ∙ n)) ∙ is in
      first_above k e t es (sorted_tail nat_cmp a.0 (keys_of es) s) rest
      ∙ sym (ap (λ (b : Bool). option_map (λ (m : Mark). m.lv) (if b then Some (lower (mark a) (least_above k (as_marks es))) else least_above k (as_marks es))) n)
]
  where
    head_is : (x y : Entry) (xs ys : List Entry) → x ∷ xs ≡ y ∷ ys → x ≡ y
    head_is x y xs ys h = cc h

pub none_above : (k : ℕ) (es : List Entry) → above k es ≡ [] → least_above k (as_marks es) ≡ None
none_above k [] is = refl
none_above k (a ∷ es) is = elim (cases_Bool (nat_lt k a.0)) [
  | inl y ↦ absurd (let kept : a ∷ above k es ≡ [] = sym (ap (λ (b : Bool). cond b (a ∷ above k es) (above k es)) (less_at k a.0 ∙ y)) ∙ is in cc kept)
  | inr n ↦
      let rest : above k es ≡ [] = sym (ap (λ (b : Bool). cond b (a ∷ above k es) (above k es)) (less_at k a.0 ∙ n)) ∙ is in
      ap (λ (b : Bool). if b then Some (lower (mark a) (least_above k (as_marks es))) else least_above k (as_marks es)) n ∙ none_above k es rest
]

-- ---- the largest number

largest_below : (n : ℕ) (es : List Entry) → All (λ q. is_lt (nat_cmp n q) ≡ false) (keys_of es) → largest (as_marks es) ≤ n
largest_below n [] all = omega arith
largest_below n (e ∷ es) all =
    let head : e.0 ≤ n = ge_from_not_lt n e.0 (all 0 0 (omega arith)) in
    let rest = largest_below n es (λ k d lt. all (suc k) d (omega (arith, lt))) in
    omega (arith, head, rest)

known_below : (n : ℕ) (v : List ℕ) (known : List Mark) → vector_of n known ≡ Some v → n ≤ largest known
known_below n v [] is = absurd (cc is)
known_below n v (m ∷ ms) is = elim (cases_Bool (n == m.number)) [
  | inl t ↦ let same = eqb-true n m.number t in omega (arith, same)
  | inr f ↦ let rest = known_below n v ms (sym (ap (λ (b : Bool). if b then Some m.lv else vector_of n ms) f) ∙ is) in omega (arith, rest)
]

pub largest_is : (n : ℕ) (v : List ℕ) (es : List Entry) → lookup (is_at (nat_cmp n)) es ≡ Some v → All (λ q. is_lt (nat_cmp n q) ≡ false) (keys_of es) → n ≡ largest (as_marks es)
largest_is n v es is all =
    let low = known_below n v (as_marks es) (sym (lookup_vector n es) ∙ is) in
    let high = largest_below n es all in
    omega (arith, low, high)

-- ---- the judging vector

pub judged_some : (elv v : List ℕ) (o : Option Mark) → Some v ≡ option_map (λ m. m.lv) o → meet v elv ≡ judged_by elv o
judged_some elv v None e = absurd (cc e)
judged_some elv v (Some m) e = let same : v ≡ m.lv = cc e in ap (λ (w : List ℕ). meet w elv) same

pub judged_none : (elv : List ℕ) (o : Option Mark) → None ≡ option_map (λ m. m.lv) o → elv ≡ judged_by elv o
judged_none elv None e = refl
judged_none elv (Some m) e = absurd (cc e)
