-- How many records recovery takes.
use Rattle.std.proofs.Common.{ℕ, zero, suc, ◌+◌, ◌≤◌, ◌≡◌, Bool, true, false, inl, inr, List, [], ◌∷◌, ◌++◌, length, drop, Some, refl, sym, ap, ◌∙◌, arith}
use Rattle.std.specs.Prelude.{slice_get, if◌then◌else◌}
use Rattle.std.specs.List.{filter}
use Rattle.std.proofs.lemmas.List.{length-append}
use Rattle.std.proofs.lemmas.Bool.{cases_Bool}
use Rattle.tau_base.specs.Vectors.{covers}
use Rattle.tau_record.specs.declared.entry.Entry.{Entry}
use Rattle.tau_record.specs.declared.entry.Entry.TheVariants.{Written, Command, Anchor, Catalogue, Epoch}
use Rattle.tau_record.specs.declared.entry.Placed.{Placed}
use Rattle.tau_record.specs.Record.{epoch_after}
use Rattle.tau_scan.specs.Taken.{Kept, is_taken_by, kept_as, taken_in}
use Rattle.tau_base.proofs.Lists.{drop_at}

one_taken : (lv : List ℕ) (j : ℕ) (p : Placed) (e : Entry) → length (filter (λ (r : Kept). covers lv r.place.dep) (kept_as j p e)) ≡ (if is_taken_by lv e then 1 else 0)
one_taken lv j p (Written number anchor dep writes) = elim (cases_Bool (covers lv dep)) [ inl t ↦ rw t refl | inr f ↦ rw f refl ]
one_taken lv j p (Command number anchor dep call) = elim (cases_Bool (covers lv dep)) [ inl t ↦ rw t refl | inr f ↦ rw f refl ]
one_taken lv j p (Anchor v) = refl
one_taken lv j p (Catalogue text) = refl
one_taken lv j p (Epoch number v) = refl

pub drop_end : {A : Type 0} (xs : List A) (i : ℕ) → length xs ≤ i → drop i xs ≡ []
drop_end [] zero le = refl
drop_end [] (suc i) le = refl
drop_end (x ∷ xs) zero le = absurd (omega (arith, le))
drop_end (x ∷ xs) (suc i) le = drop_end xs i (omega (arith, le))

sum_is : (b : Bool) (count sum n : ℕ) → sum ≡ (if b then count + 1 else count) → n ≡ (if b then 1 else 0) → sum ≡ count + n
sum_is true count sum n e g = omega (arith, e, g)
sum_is false count sum n e g = omega (arith, e, g)

pub count_next : (judge : ℕ → List ℕ) (j k i : ℕ) (ps : List Placed) (p : Placed) (lv : List ℕ) (b : Bool) (count sum all : ℕ) → slice_get ps i ≡ Some p → lv ≡ judge k → b ≡ is_taken_by lv p.entry → sum ≡ (if b then count + 1 else count) →
    count + length (taken_in judge j k (drop i ps)) ≡ all → sum + length (taken_in judge j (epoch_after k p.entry) (drop (i + 1) ps)) ≡ all
count_next judge j k i ps p lv b count sum all at is taken sum_of whole =
    let first : List Kept = filter (λ (r : Kept). covers (judge k) r.place.dep) (kept_as j p p.entry) in
    let n : suc i ≡ i + 1 = omega arith in
    let rest : List Kept = taken_in judge j (epoch_after k p.entry) (drop (i + 1) ps) in
    let cut : taken_in judge j k (drop i ps) ≡ first ++ rest = ap (taken_in judge j k) (drop_at ps i p at) ∙ ap (λ (m : ℕ). first ++ taken_in judge j (epoch_after k p.entry) (drop m ps)) n in
    let long = ap length cut ∙ length-append first rest in
    let one : length first ≡ (if b then 1 else 0) = one_taken (judge k) j p p.entry ∙ ap (λ (v : List ℕ). if is_taken_by v p.entry then 1 else 0) (sym is) ∙ ap (λ (x : Bool). if x then 1 else 0) (sym taken) in
    let sum_at = sum_is b count sum (length first) sum_of one in
    omega (arith, long, sum_at, whole)

pub count_end : (judge : ℕ → List ℕ) (j k i : ℕ) (ps : List Placed) (count all : ℕ) → length ps ≤ i → count + length (taken_in judge j k (drop i ps)) ≡ all → count ≡ all
count_end judge j k i ps count all le e = let none = ap (λ (l : List Placed). length (taken_in judge j k l)) (drop_end ps i le) in omega (arith, e, none)
