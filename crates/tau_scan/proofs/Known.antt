-- Marks that are looked up: known epochs as a map tell the same as the marks one after the other.
use Rattle.std.proofs.Common.{ℕ, ◌≤◌, ◌<◌, inl, inr, ◌⊎◌, Bool, true, false, ◌&&◌, ◌≡◌, List, [], ◌∷◌, ◌++◌, refl, sym, ap, subst, ◌∙◌, arith, eq-eqb}
use Rattle.std.specs.Prelude.{Option, Some, None, nat_lt, nat_le, ◌==◌, if◌then◌else◌}
use Rattle.std.specs.Option.{option_map}
use Rattle.std.proofs.lemmas.Bool.{cases_Bool, ltb-true, ltb-false, leb-true, leb-false, eqb-true, and_parts, and_from}
use Rattle.tau_base.specs.Vectors.{AtMost, covers}
use Rattle.tau_base.proofs.Vectors.{covers_at_most, at_most_covers, at_most_trans}
use Rattle.tau_base.proofs.Logic.{some_is}
use Rattle.tau_epoch.specs.Epochs.{Mark, lower, least_above, meet, judged_by, judging}
use Rattle.tau_epoch.specs.Known.{vector_of, put_mark, with_mark}
use Rattle.tau_epoch.proofs.Marks.{put_vector, with_new, with_known}
use Rattle.tau_epoch.proofs.Meets.{meet_left, meet_right, meet_greatest}
use Rattle.tau_scan.specs.Epochs.{with_marks, smaller, least_number, is_below}

unequal : (a b : ℕ) → (a ≡ b → ⊥) → (a == b) ≡ false
unequal a b other = elim (cases_Bool (a == b)) [ inl t ↦ absurd (other (eqb-true a b t)) | inr f ↦ f ]

pub bool_same : (a b : Bool) → (a ≡ true → b ≡ true) → (b ≡ true → a ≡ true) → a ≡ b
bool_same true b f g = sym (f refl)
bool_same false true f g = g refl
bool_same false false f g = refl

-- ---- the vector of a number

at_first : (n : ℕ) (m : Mark) (ms : List Mark) → n ≡ m.number → vector_of n (m ∷ ms) ≡ Some m.lv
at_first n m ms same = ap (λ (b : Bool). if b then Some m.lv else vector_of n ms) (eq-eqb n m.number same)

past_first : (n : ℕ) (m : Mark) (ms : List Mark) → (n ≡ m.number → ⊥) → vector_of n (m ∷ ms) ≡ vector_of n ms
past_first n m ms other = ap (λ (b : Bool). if b then Some m.lv else vector_of n ms) (unequal n m.number other)

-- a number that has a vector is the first one or has it behind it
either : (n : ℕ) (m : Mark) (ms : List Mark) (v : List ℕ) → vector_of n (m ∷ ms) ≡ Some v → (n ≡ m.number) ⊎ (vector_of n ms ≡ Some v)
either n m ms v is = elim (cases_Bool (n == m.number)) [
  | inl t ↦ inl (eqb-true n m.number t)
  | inr f ↦ inr (sym (ap (λ (b : Bool). if b then Some m.lv else vector_of n ms) f) ∙ is)
]

-- the first vector, or the second where there is none
abbrev pub first_of : Option (List ℕ) → Option (List ℕ) → Option (List ℕ)
first_of None o = o
first_of (Some v) o = Some v

first_none : (o : Option (List ℕ)) → first_of o None ≡ o
first_none None = refl
first_none (Some v) = refl

pub vector_append : (n : ℕ) (xs ys : List Mark) → vector_of n (xs ++ ys) ≡ first_of (vector_of n xs) (vector_of n ys)
vector_append n [] ys = refl
vector_append n (x ∷ xs) ys = by_test (n == x.number) (vector_append n xs ys)
  where
    by_test : (b : Bool) → vector_of n (xs ++ ys) ≡ first_of (vector_of n xs) (vector_of n ys) →
        (if b then Some x.lv else vector_of n (xs ++ ys)) ≡ first_of (if b then Some x.lv else vector_of n xs) (vector_of n ys)
    by_test true more = refl
    by_test false more = more

-- ---- known epochs

put_other : (n : ℕ) (m : Mark) (known : List Mark) → (n ≡ m.number → ⊥) → vector_of n (put_mark m known) ≡ vector_of n known
put_other n m [] other = past_first n m [] other
put_other n m (o ∷ ms) other = by_test (nat_lt m.number o.number) (put_other n m ms other)
  where
    by_test : (b : Bool) → vector_of n (put_mark m ms) ≡ vector_of n ms → vector_of n (if b then m ∷ o ∷ ms else o ∷ put_mark m ms) ≡ vector_of n (o ∷ ms)
    by_test true more = past_first n m (o ∷ ms) other
    by_test false more = ap (λ (r : Option (List ℕ)). if n == o.number then Some o.lv else r) more

one_known : (n : ℕ) (m : Mark) (known : List Mark) (r : Option (List ℕ)) → first_of (vector_of n (with_mark m known)) r ≡ first_of (vector_of n known) (if n == m.number then Some m.lv else r)
one_known n m known r = by_vector (vector_of m.number known) refl
  where
    other_number : (n ≡ m.number → ⊥) → vector_of n (with_mark m known) ≡ vector_of n known →
        first_of (vector_of n (with_mark m known)) r ≡ first_of (vector_of n known) (if n == m.number then Some m.lv else r)
    other_number other same =
        ap (λ (o : Option (List ℕ)). first_of o r) same ∙ sym (ap (λ (b : Bool). first_of (vector_of n known) (if b then Some m.lv else r)) (unequal n m.number other))

    same_number : n ≡ m.number → (v : List ℕ) → vector_of n (with_mark m known) ≡ Some v → first_of (vector_of n known) (Some m.lv) ≡ Some v →
        first_of (vector_of n (with_mark m known)) r ≡ first_of (vector_of n known) (if n == m.number then Some m.lv else r)
    same_number same v is there =
        ap (λ (o : Option (List ℕ)). first_of o r) is ∙ sym there ∙ sym (ap (λ (b : Bool). first_of (vector_of n known) (if b then Some m.lv else r)) (eq-eqb n m.number same))

    by_vector : (o : Option (List ℕ)) → vector_of m.number known ≡ o → first_of (vector_of n (with_mark m known)) r ≡ first_of (vector_of n known) (if n == m.number then Some m.lv else r)
    by_vector (Some v) is =
        let stays = with_known m v known is in
        elim (cases_Bool (n == m.number)) [
          | inl t ↦
              let same = eqb-true n m.number t in
              let here : vector_of n known ≡ Some v = ap (λ (k : ℕ). vector_of k known) same ∙ is in
              same_number same v (ap (vector_of n) stays ∙ here) (ap (λ (o : Option (List ℕ)). first_of o (Some m.lv)) here)
          | inr f ↦ other_number (λ e. let t = eq-eqb n m.number e in cc (t, f)) (ap (vector_of n) stays)
        ]
    by_vector None is =
        let new = with_new m known is in
        elim (cases_Bool (n == m.number)) [
          | inl t ↦
              let same = eqb-true n m.number t in
              let here : vector_of n known ≡ None = ap (λ (k : ℕ). vector_of k known) same ∙ is in
              same_number same m.lv (ap (vector_of n) new ∙ ap (λ (k : ℕ). vector_of k (put_mark m known)) same ∙ put_vector m known is) (ap (λ (o : Option (List ℕ)). first_of o (Some m.lv)) here)
          | inr f ↦ let other : n ≡ m.number → ⊥ = λ e. (let t = eq-eqb n m.number e in cc (t, f)) in other_number other (ap (vector_of n) new ∙ put_other n m known other)
        ]

with_marks_vector : (n : ℕ) (known ms : List Mark) → vector_of n (with_marks known ms) ≡ first_of (vector_of n known) (vector_of n ms)
with_marks_vector n known [] = sym (first_none (vector_of n known))
with_marks_vector n known (m ∷ ms) = with_marks_vector n (with_mark m known) ms ∙ one_known n m known (vector_of n ms)

pub known_vector : (n : ℕ) (ms : List Mark) → vector_of n (with_marks [] ms) ≡ vector_of n ms
known_vector n ms = with_marks_vector n [] ms

pub with_marks_append : (known xs ys : List Mark) → with_marks known (xs ++ ys) ≡ with_marks (with_marks known xs) ys
with_marks_append known [] ys = refl
with_marks_append known (x ∷ xs) ys = with_marks_append (with_mark x known) xs ys

-- ---- the least mark above a number

-- what it is among these marks
abbrev IsFound : ℕ → List Mark → Option Mark → Type 0
IsFound k ms None = (n : ℕ) (v : List ℕ) → vector_of n ms ≡ Some v → n ≤ k
IsFound k ms (Some o) = (k < o.number) × (vector_of o.number ms ≡ Some o.lv) × ((n : ℕ) (v : List ℕ) → vector_of n ms ≡ Some v → k < n → o.number ≤ n)

found : (k : ℕ) (ms : List Mark) → IsFound k ms (least_above k ms)
found k [] = λ n v is. absurd cc
found k (m ∷ ms) = by_test (nat_lt k m.number) refl (least_above k ms) (found k ms)
  where
    lowered : k < m.number → (q : Mark) → IsFound k ms (Some q) → (b : Bool) → nat_le m.number q.number ≡ b → IsFound k (m ∷ ms) (Some (if b then m else q))
    lowered high q f true le =
        let low = leb-true m.number q.number le in
        (high, at_first m.number m ms refl, λ n v is lt. elim (either n m ms v is) [ inl e ↦ omega (arith, e) | inr t ↦ let l = f.2 n v t lt in omega (arith, l, low) ])
    lowered high q f false gt =
        let low = leb-false m.number q.number gt in
        (f.0, past_first q.number m ms (λ e. omega (arith, e, low)) ∙ f.1, λ n v is lt. elim (either n m ms v is) [ inl e ↦ omega (arith, e, low) | inr t ↦ f.2 n v t lt ])

    by_test : (b : Bool) → nat_lt k m.number ≡ b → (o : Option Mark) → IsFound k ms o → IsFound k (m ∷ ms) (if b then Some (lower m o) else o)
    by_test true t None f = (
      ltb-true k m.number t,
      at_first m.number m ms refl,
      λ n v is lt. elim (either n m ms v is) [ inl e ↦ omega (arith, e) | inr there ↦ absurd (let low = f n v there in omega (arith, low, lt)) ],
    )
    by_test true t (Some q) f = lowered (ltb-true k m.number t) q f (nat_le m.number q.number) refl
    by_test false t None f = let low = ltb-false k m.number t in λ n v is. elim (either n m ms v is) [ inl e ↦ omega (arith, e, low) | inr there ↦ f n v there ]
    by_test false t (Some q) f =
        let low = ltb-false k m.number t in
        (f.0, past_first q.number m ms (λ e. let h = f.0 in omega (arith, e, low, h)) ∙ f.1, λ n v is lt. elim (either n m ms v is) [ inl e ↦ absurd (omega (arith, e, low, lt)) | inr there ↦ f.2 n v there lt ])

-- marks of which each number has the same vector have the same least one
same_least : (k : ℕ) (xs ys : List Mark) → ((n : ℕ) → vector_of n xs ≡ vector_of n ys) → least_above k xs ≡ least_above k ys
same_least k xs ys same = by_mark (least_above k xs) (least_above k ys) (found k xs) (found k ys)
  where
    alike : (o q : Mark) → o.number ≡ q.number → o.lv ≡ q.lv → Some o ≡ Some q
    alike o q number lv = λ i. Some (record { number = number i; lv = lv i })

    by_mark : (o q : Option Mark) → IsFound k xs o → IsFound k ys q → o ≡ q
    by_mark None None a b = refl
    by_mark None (Some q) a b = absurd (let low = a q.number q.lv (same q.number ∙ b.1) in let high = b.0 in omega (arith, low, high))
    by_mark (Some o) None a b = absurd (let low = b o.number o.lv (sym (same o.number) ∙ a.1) in let high = a.0 in omega (arith, low, high))
    by_mark (Some o) (Some q) a b =
        let low = a.2 q.number q.lv (same q.number ∙ b.1) b.0 in
        let high = b.2 o.number o.lv (sym (same o.number) ∙ a.1) a.0 in
        let number : o.number ≡ q.number = omega (arith, low, high) in
        alike o q number (some_is o.lv q.lv (sym a.1 ∙ ap (λ (n : ℕ). vector_of n xs) number ∙ same q.number ∙ b.1))

-- known epochs judge as the marks do
pub same_judge : (elv : List ℕ) (ms : List Mark) → judging elv (with_marks [] ms) ≡ judging elv ms
same_judge elv ms = λ i k. judged_by elv (same_least k (with_marks [] ms) ms (λ n. known_vector n ms) i)

pub least_vector : (k : ℕ) (ms : List Mark) (o : Mark) → least_above k ms ≡ Some o → vector_of o.number ms ≡ Some o.lv
least_vector k ms o is = (subst (λ (q : Option Mark). IsFound k ms q) is (found k ms)).1

-- ---- the least number above a number

pub least_append : (k : ℕ) (xs ys : List Mark) (o : Option ℕ) → least_number k (xs ++ ys) o ≡ least_number k xs (least_number k ys o)
least_append k [] ys o = refl
least_append k (x ∷ xs) ys o = ap (λ (r : Option ℕ). if nat_lt k x.number then Some (smaller x.number r) else r) (least_append k xs ys o)

pub least_is : (k : ℕ) (ms : List Mark) → least_number k ms None ≡ option_map (λ (m : Mark). m.number) (least_above k ms)
least_is k [] = refl
least_is k (m ∷ ms) = by_test (nat_lt k m.number) (least_above k ms) (least_is k ms)
  where
    smaller_is : (q : Mark) (b : Bool) → (if b then m.number else q.number) ≡ (if b then m else q).number
    smaller_is q true = refl
    smaller_is q false = refl

    by_test : (b : Bool) (o : Option Mark) → least_number k ms None ≡ option_map (λ (m : Mark). m.number) o →
        (if b then Some (smaller m.number (least_number k ms None)) else least_number k ms None) ≡ option_map (λ (m : Mark). m.number) (if b then Some (lower m o) else o)
    by_test true None is = ap (λ (r : Option ℕ). Some (smaller m.number r)) is
    by_test true (Some q) is = ap (λ (r : Option ℕ). Some (smaller m.number r)) is ∙ ap (λ (n : ℕ). Some n) (smaller_is q (nat_le m.number q.number))
    by_test false o is = is

-- what the least mark covers, by its number and the first vector with it
pub below_none : (k : ℕ) (ms : List Mark) (dep : List ℕ) → None ≡ least_number k ms None → true ≡ is_below dep (least_above k ms)
below_none k ms dep none = by_mark (least_above k ms) (none ∙ least_is k ms)
  where
    by_mark : (o : Option Mark) → None ≡ option_map (λ (m : Mark). m.number) o → true ≡ is_below dep o
    by_mark None e = refl
    by_mark (Some m) e = absurd cc

pub below_some : (k : ℕ) (ms : List Mark) (dep : List ℕ) (n : ℕ) (v : List ℕ) → Some n ≡ least_number k ms None → vector_of n ms ≡ Some v → covers v dep ≡ is_below dep (least_above k ms)
below_some k ms dep n v some there = by_mark (least_above k ms) refl (some ∙ least_is k ms)
  where
    by_mark : (o : Option Mark) → least_above k ms ≡ o → Some n ≡ option_map (λ (m : Mark). m.number) o → covers v dep ≡ is_below dep o
    by_mark None is e = absurd cc
    by_mark (Some m) is e =
        let same : n ≡ m.number = some_is n m.number e in
        let found : v ≡ m.lv = some_is v m.lv (sym there ∙ ap (λ (q : ℕ). vector_of q ms) same ∙ least_vector k ms m is) in
        ap (λ (w : List ℕ). covers w dep) found

pub below_other : (k : ℕ) (ms : List Mark) (dep : List ℕ) (n : ℕ) → Some n ≡ least_number k ms None → vector_of n ms ≡ None → true ≡ is_below dep (least_above k ms)
below_other k ms dep n some none = by_mark (least_above k ms) refl (some ∙ least_is k ms)
  where
    by_mark : (o : Option Mark) → least_above k ms ≡ o → Some n ≡ option_map (λ (m : Mark). m.number) o → true ≡ is_below dep o
    by_mark None is e = refl
    by_mark (Some m) is e =
        let same : n ≡ m.number = some_is n m.number e in
        absurd (let f : None ≡ Some m.lv = sym none ∙ ap (λ (q : ℕ). vector_of q ms) same ∙ least_vector k ms m is in cc f)

-- ---- what a judging vector covers

and_true : (b : Bool) → (b && true) ≡ b
and_true true = refl
and_true false = refl

pub judged_covers : (elv dep : List ℕ) (o : Option Mark) → (covers elv dep && is_below dep o) ≡ covers (judged_by elv o) dep
judged_covers elv dep None = and_true (covers elv dep)
judged_covers elv dep (Some m) = bool_same (covers elv dep && covers m.lv dep) (covers (meet m.lv elv) dep)
    (λ e.
    let both = and_parts (covers elv dep) (covers m.lv dep) e in
    at_most_covers (meet m.lv elv) dep (meet_greatest m.lv elv dep (covers_at_most m.lv dep both.1) (covers_at_most elv dep both.0)))
    (λ e.
    let low = covers_at_most (meet m.lv elv) dep e in
    and_from (covers elv dep) (covers m.lv dep) (at_most_covers elv dep (at_most_trans dep (meet m.lv elv) elv low (meet_right m.lv elv))) (at_most_covers m.lv dep (at_most_trans dep (meet m.lv elv) m.lv low (meet_left m.lv elv))))

-- what a judging vector covers the lengths cover
pub judged_low : (elv : List ℕ) (known : List Mark) (k : ℕ) (dep : List ℕ) → covers (judging elv known k) dep ≡ true → AtMost dep elv
judged_low elv known k dep is = by_mark (least_above k known) is
  where
    by_mark : (o : Option Mark) → covers (judged_by elv o) dep ≡ true → AtMost dep elv
    by_mark None is = covers_at_most elv dep is
    by_mark (Some m) is = at_most_trans dep (meet m.lv elv) elv (covers_at_most (meet m.lv elv) dep is) (meet_right m.lv elv)
