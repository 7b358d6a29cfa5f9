-- The steps of a walk along the records.
use Rattle.std.proofs.Common.{ℕ, zero, suc, ◌+◌, ◌≤◌, ◌<◌, ◌≡◌, ◌==◌, Bool, true, false, inl, inr, List, [], ◌∷◌, ◌++◌, length, drop, refl, sym, ap, subst, ◌∙◌, arith, Option, get_or-set_other, get_or-set_same, length-set}
use Rattle.std.specs.Prelude.{Some, None, is_some, slice_get, slice_index, slice_index_or, slice_set}
use Rattle.std.proofs.lemmas.Bool.{cases_Bool, cases_eq, both_ways}
use Rattle.tau_base.specs.Vectors.{covers}
use Rattle.tau_base.proofs.Logic.{some_is}
use Rattle.tau_base.specs.declared.value.Key.{Key}
use Rattle.tau_base.specs.declared.value.Value.{Value}
use Rattle.tau_model.specs.History.{Act, Numbered, updates, updating}
use Rattle.tau_scan.specs.Taken.{Kept}
use Rattle.tau_inspect.specs.declared.walk.Walk.{Walk}
use Rattle.tau_inspect.specs.Audit.{Case, records, due, FitsOrder, FitsReply}
use Rattle.tau_inspect.specs.Firsts.{AllFit}
use Rattle.tau_inspect.specs.Walks.{of_stream, head_of, start_or, head_passes, next_of, Goes, IsAt, IsFor, IsLowest, IsReach, Step, Walks}

past_all : {A : Type 0} (xs : List A) (i : ℕ) → length xs ≤ i → slice_get xs i ≡ None
past_all [] i le = refl
past_all (x ∷ xs) zero le = absurd (omega (arith, le))
past_all (x ∷ xs) (suc i) le = past_all xs i (omega (arith, le))

read_some : {A : Type 0} (xs : List A) (i : ℕ) (x : A) → i < length xs → x ≡ slice_index_or xs i x → slice_get xs i ≡ Some x
read_some [] i x lt e = absurd (omega (arith, lt))
read_some (y ∷ ys) zero x lt e = ap (λ z. Some z) (sym e)
read_some (y ∷ ys) (suc i) x lt e = read_some ys i x (omega (arith, lt)) e

-- no record at this index
pub none_there : (all : List Kept) (index stream : ℕ) → length all ≤ index → head_of all index stream ≡ None
none_there all index stream le = ap (of_stream stream) (past_all all index le)

some_test : (stream : ℕ) (one : Kept) → (one.place.stream == stream) ≡ is_some (of_stream stream (Some one))
some_test stream one = elim (cases_Bool (one.place.stream == stream)) [
  | inl is ↦ rw is refl
  | inr no' ↦ rw no' refl
]

-- whether the record at this index is in the stream
pub one_there : (all : List Kept) (index stream : ℕ) (one : Kept) → index < length all → one ≡ slice_index_or all index one → (one.place.stream == stream) ≡ is_some (head_of all index stream)
one_there all index stream one lt is = some_test stream one ∙ ap (λ (o : Option Kept). is_some (of_stream stream o)) (sym (read_some all index one lt is))

pub none_test : (o : Option Kept) → is_some o ≡ false → o ≡ None
none_test None e = refl
none_test (Some r) e = absurd (both_ways true e refl)

-- one that was found is within
pub found_within : (all : List Kept) (index stream : ℕ) → is_some (head_of all index stream) ≡ true → index < length all
found_within all index stream e = by_long (slice_get all index) refl
  where
    within : {A : Type 0} (xs : List A) (i : ℕ) (x : A) → slice_get xs i ≡ Some x → i < length xs
    within {A} [] i x got = absurd (none got)
      where
        none : ◌≡◌ {A = Option A} None (Some x) → ⊥
        none q = cc
    within (y ∷ ys) zero x got = omega arith
    within (y ∷ ys) (suc i) x got = let lt = within ys i x got in omega (arith, lt)

    by_long : (o : Option Kept) → slice_get all index ≡ o → index < length all
    by_long None is = absurd (both_ways false refl (sym (ap (λ (p : Option Kept). is_some (of_stream stream p)) is) ∙ e))
    by_long (Some r) is = within all index r is

-- it is that record
pub found_is : (all : List Kept) (index stream : ℕ) (one : Kept) → is_some (head_of all index stream) ≡ true → one ≡ slice_index_or all index one → head_of all index stream ≡ Some one
found_is all index stream one e is =
    let at = read_some all index one (found_within all index stream e) is in
    ap (of_stream stream) at ∙ by_test (sym (ap (λ (o : Option Kept). is_some (of_stream stream o)) at) ∙ e)
  where
    by_test : is_some (of_stream stream (Some one)) ≡ true → of_stream stream (Some one) ≡ Some one
    by_test t = rw (some_test stream one ∙ t) refl

pub passes_some : (reach : List ℕ) (o : Option Kept) → head_passes reach o ≡ true → (one : Kept) × (o ≡ Some one) × (covers reach one.place.dep ≡ true)
passes_some reach None e = absurd (both_ways false refl e)
passes_some reach (Some r) e = (r, refl, e)

pub is_lowest : (all : List Kept) (w : Walk) (j : ℕ) → j < length w.nexts.items → ((k : ℕ) → k < j → head_passes w.reach (next_of all w k) ≡ false) → head_passes w.reach (next_of all w j) ≡ true → IsLowest all w j
is_lowest all w j lt lower e = (let found = passes_some w.reach (next_of all w j) e in record { within = lt; one = found.0; next = found.1; covered = found.2; lower = lower })

-- the record at the index of the next one is that one
pub found_one : (all : List Kept) (index stream : ℕ) (r q : Kept) → head_of all index stream ≡ Some r → q ≡ slice_index_or all index q → (index < length all) × (q ≡ r)
found_one all index stream r q e is =
    let test : is_some (head_of all index stream) ≡ true = ap (λ (o : Option Kept). is_some o) e in
    (found_within all index stream test, some_is q r (sym (found_is all index stream q test is) ∙ e))

pub lowest_within : (all : List Kept) (w : Walk) (j : ℕ) → IsLowest all w j → slice_index w.nexts.items j < length all
lowest_within all w j low = found_within all (slice_index w.nexts.items j) j (ap (λ (o : Option Kept). is_some o) low.next)

-- what it is to pass the record of a stream
abbrev pub GoesIn : List Kept → List ℕ → (Kept → Type 0) → ℕ → Walk → Walk → ℕ → Type 0
GoesIn all ends Fits number w new k = (l : IsLowest all w k) → Fits l.one → l.one.number ≡ number → new.nexts.items ≡ slice_set w.nexts.items k (suc (slice_index w.nexts.items k)) →
    new.reach ≡ slice_set w.reach k (start_or (next_of all new k) (slice_index ends k)) → l.one.place.start ≤ start_or (next_of all new k) (slice_index ends k) →
    new.passed ≡ true → new.start ≡ l.one.place.start → Goes all ends Fits number w new

goes_in : (all : List Kept) (ends : List ℕ) (Fits : Kept → Type 0) (number : ℕ) (w new : Walk) → GoesIn all ends Fits number w new new.stream
goes_in all ends Fits number w new l fits named nexts reach rises passed start = record { lowest = l; fits = fits; named = named; nexts = nexts; reach = reach; rises = rises; passed = passed; start = start }

pub goes : (all : List Kept) (ends : List ℕ) (Fits : Kept → Type 0) (number : ℕ) (w new : Walk) (j next : ℕ) (q : Kept) → Fits q → IsLowest all w j → new.stream ≡ j → q ≡ slice_index_or all (slice_index w.nexts.items j) q → q.number ≡ number →
    new.nexts.items ≡ slice_set w.nexts.items j (suc (slice_index w.nexts.items j)) → new.reach ≡ slice_set w.reach j next → next ≡ start_or (head_of all (suc (slice_index w.nexts.items j)) j) (slice_index ends j) →
    q.place.start ≤ next → new.passed ≡ true → new.start ≡ q.place.start → Goes all ends Fits number w new
goes all ends Fits number w new j next q fits low at is named nexts reach next_is rises passed start =
    let same : q ≡ low.one = (found_one all (slice_index w.nexts.items j) j low.one q low.next is).1 in
    let here : slice_index new.nexts.items j ≡ suc (slice_index w.nexts.items j) = ap (λ (l : List ℕ). slice_index l j) nexts ∙ get_or-set_same w.nexts.items j (suc (slice_index w.nexts.items j)) 0 low.within in
    let after : next ≡ start_or (next_of all new j) (slice_index ends j) = next_is ∙ ap (λ (i : ℕ). start_or (head_of all i j) (slice_index ends j)) (sym here) in
    let first : q.place.start ≡ low.one.place.start = ap (λ (z : Kept). z.place.start) same in
    subst (GoesIn all ends Fits number w new) at (goes_in all ends Fits number w new) low (subst Fits same fits) (ap (λ (z : Kept). z.number) (sym same) ∙ named) nexts
    (reach ∙ ap (slice_set w.reach j) after) (omega (arith, rises, after, first)) passed (start ∙ first)

-- the next record of another stream stays
pub other_next : (all : List Kept) (ends : List ℕ) (Fits : Kept → Type 0) (number : ℕ) (w new : Walk) → Goes all ends Fits number w new → (j : ℕ) → (j ≡ new.stream → ⊥) → next_of all new j ≡ next_of all w j
other_next all ends Fits number w new g j other = ap (λ (i : ℕ). head_of all i j)
    (ap (λ (l : List ℕ). slice_index l j) g.nexts ∙ get_or-set_other w.nexts.items new.stream j (suc (slice_index w.nexts.items new.stream)) 0 other)

-- a step leaves a walk with its indices and starts
pub step_at : (all : List Kept) (acks : List (ℕ × List ℕ)) (ends : List ℕ) (Fits : Kept → Type 0) (number : ℕ) (w new : Walk) (b : Bool) → Step all acks ends Fits b number w new → IsAt all ends w → IsAt all ends new
step_at all acks ends Fits number w new true g at =
    let next : ℕ = start_or (next_of all new new.stream) (slice_index ends new.stream) in
    record {
      nexts = ap length g.nexts ∙ length-set w.nexts.items new.stream (suc (slice_index w.nexts.items new.stream)) ∙ at.nexts;
      reach = record {
        long = ap length g.reach ∙ length-set w.reach new.stream next ∙ at.reach.long;
        starts = λ k lt. elim (cases_eq k new.stream) [
          | inl same ↦ subst (λ (j : ℕ). slice_index new.reach j ≡ start_or (next_of all new j) (slice_index ends j)) (sym same)
              (ap (λ (l : List ℕ). slice_index l new.stream) g.reach ∙ get_or-set_same w.reach new.stream next 0 (omega (arith, g.lowest.within, at.nexts, at.reach.long)))
          | inr other ↦
              ap (λ (l : List ℕ). slice_index l k) g.reach ∙ get_or-set_other w.reach new.stream k next 0 other ∙ at.reach.starts k lt
              ∙ ap (λ (o : Option Kept). start_or o (slice_index ends k)) (sym (other_next all ends Fits number w new g k other))
        ];
      };
    }
step_at all acks ends Fits number w new false r at =
    let nexts : new.nexts.items ≡ w.nexts.items = λ i. (r.0.same.0 i).items in
    record {
      nexts = ap length nexts ∙ at.nexts;
      reach = subst (IsReach all ends new.nexts.items) (sym r.0.same.1) (subst (λ (l : List ℕ). IsReach all ends l w.reach) (sym nexts) at.reach);
    }

-- ---- a call that writes, or one that only reads

pub some_writes : (ws : List (Key × Value)) → 0 < length ws → updating ws ≡ true
some_writes [] lt = absurd (omega (arith, lt))
some_writes (w ∷ ws) lt = refl

pub no_writes : (ws : List (Key × Value)) → length ws ≤ 0 → updating ws ≡ false
no_writes [] le = refl
no_writes (w ∷ ws) le = absurd (omega (arith, le))

-- one call more
pub walked : (c : Case) (w new first : Walk) (xs : List (Act Numbered)) (i : ℕ) (x : Act Numbered) → slice_get xs i ≡ Some x → Step (records c) c.report.acks c.log.elv (IsFor c x.call.number x.effect.writes) (updates x.effect) x.call.number w new → FitsReply c [] x →
    ((stop : Walk) → Walks c w (drop i xs) stop → Walks c first xs stop) → (stop : Walk) → Walks c new (drop (i + 1) xs) stop → Walks c first xs stop
walked c w new first xs i x at step said before stop after =
    let more : i + 1 ≡ suc i = omega arith in
    before stop (subst (λ (ys : List (Act Numbered)). Walks c w ys stop) (sym (drop_at xs i x at)) (new, step, said, subst (λ (k : ℕ). Walks c new (drop k xs) stop) more after))
  where
    drop_at : (ys : List (Act Numbered)) (j : ℕ) (y : Act Numbered) → slice_get ys j ≡ Some y → drop j ys ≡ y ∷ drop (suc j) ys
    drop_at [] j y got = absurd (none got)
      where
        none : ◌≡◌ {A = Option (Act Numbered)} None (Some y) → ⊥
        none q = cc
    drop_at (z ∷ zs) zero y got = ap (λ (v : Act Numbered). v ∷ zs) (some_is z y got)
    drop_at (z ∷ zs) (suc j) y got = drop_at zs j y got

pub drop_end : {A : Type 0} (xs : List A) (i : ℕ) → length xs ≤ i → drop i xs ≡ []
drop_end [] zero le = refl
drop_end [] (suc i) le = refl
drop_end (x ∷ xs) zero le = absurd (omega (arith, le))
drop_end (x ∷ xs) (suc i) le = drop_end xs i (omega (arith, le))

-- an order that is the reported history fits at each place
pub order_fits : (c : Case) → due c ≡ c.report.order → AllFit (FitsOrder c) c.report.order
order_fits c is front back n there = ap (λ (l : List ℕ). slice_get l (length front)) (is ∙ there) ∙ at_front front back n
  where
    at_front : (xs ys : List ℕ) (k : ℕ) → slice_get (xs ++ k ∷ ys) (length xs) ≡ Some k
    at_front [] ys k = refl
    at_front (x ∷ xs) ys k = at_front xs ys k
