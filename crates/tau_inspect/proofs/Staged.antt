-- What the checks that have passed are worth to those that follow.
use Rattle.std.proofs.Common.{ℕ, zero, suc, ◌<◌, ◌≤◌, ◌≡◌, Bool, true, false, inl, inr, List, [], ◌∷◌, ◌++◌, length, map, take, drop, refl, sym, ap, subst, ◌∙◌, arith, Option}
use Rattle.std.specs.Prelude.{Some, None, slice_get}
use Rattle.std.specs.List.{filter}
use Rattle.std.proofs.lemmas.Bool.{both_ways}
use Rattle.std.proofs.lemmas.List.{length-map}
use Rattle.tau_base.specs.Database.{Db, empty_db}
use Rattle.tau_base.specs.Vectors.{covers}
use Rattle.tau_base.specs.declared.value.Key.{Key}
use Rattle.tau_base.specs.declared.value.Value.{Value}
use Rattle.tau_base.proofs.Logic.{below_or_not, some_is}
use Rattle.tau_proc.specs.Effect.{Effect}
use Rattle.tau_model.specs.History.{Act, Numbered}
use Rattle.tau_model.specs.Tables.{IsTablesOf}
use Rattle.tau_report.specs.declared.report.Fate.{Fate}
use Rattle.tau_report.specs.declared.report.Fate.TheVariants.{Acked, Unsure, Unrun}
use Rattle.tau_scan.specs.Epochs.{marks_of}
use Rattle.tau_scan.specs.Taken.{Kept, taken}
use Rattle.tau_scan.proofs.Listed.{taken_plain}
use Rattle.tau_inspect.specs.declared.verdict.Check.TheVariants as check
use Rattle.tau_inspect.specs.Executed.{effects, rows_after}
use Rattle.tau_inspect.specs.ByNumber.{is_in, IsUnique, HasFlags}
use Rattle.tau_inspect.specs.ReportFor.{IsCall}
use Rattle.tau_inspect.specs.Cases.{IsCase}
use Rattle.tau_inspect.specs.Audit.{Case, acts, numbers, records, times_due, fate_of, FitsFate, FitsRecord, FitRows, Passes}
use Rattle.tau_inspect.proofs.Acts.{run_length, unique_counts, member_range, in_get}
use Rattle.tau_inspect.proofs.Firsts.{fits_member}
use Rattle.tau_inspect.proofs.Recorded.{of_all, recorded}
use Rattle.tau_inspect.proofs.Ones.{tables_one}

pub many : (c : Case) (done : List Effect) → done ≡ effects (acts c) → length done ≡ length c.report.order
many c done is = ap length is ∙ length-map (acts c) (λ (x : Act Numbered). x.effect) ∙ run_length c.load.declarations.procs c.load.calls c.report.order empty_db

due_once : (f : Fate) → times_due f ≤ 1
due_once (Acked r) = omega arith
due_once (Unsure r) = omega arith
due_once Unrun = omega arith

-- the order has each number once
pub unique_order : (c : Case) → IsCase c → Passes c check.Fate → IsUnique c.report.order
unique_order c is told = unique_counts c.report.order (λ k i at.
    let small = of_all (IsCall (length c.load.calls)) c.report.order i k is.report.order at in
    let fits = (fits_member (FitsFate c) (numbers c) k told (member_range (length c.load.calls) 1 k small.0 (omega (arith, small.1)))).1 in
    let le = due_once (fate_of c k) in
    omega (arith, fits.order, le))

-- ---- the records have each number once

number_get : (rs : List Kept) (j k : ℕ) → slice_get (map (λ (q : Kept). q.number) rs) j ≡ Some k → (r : Kept) × (slice_get rs j ≡ Some r) × (r.number ≡ k)
number_get [] j k e = absurd (none e)
  where
    none : ◌≡◌ {A = Option ℕ} None (Some k) → ⊥
    none q = cc
number_get (q ∷ qs) zero k e = (q, refl, some_is q.number k e)
number_get (q ∷ qs) (suc j) k e = number_get qs j k e

number_front : (rs : List Kept) (i j k : ℕ) → i < j → slice_get (map (λ (q : Kept). q.number) rs) i ≡ Some k → slice_get (map (λ (q : Kept). q.number) (take j rs)) i ≡ Some k
number_front [] i j k lt e = absurd (none e)
  where
    none : ◌≡◌ {A = Option ℕ} None (Some k) → ⊥
    none q = cc
number_front (q ∷ qs) i zero k lt e = absurd (omega (arith, lt))
number_front (q ∷ qs) zero (suc j) k lt e = e
number_front (q ∷ qs) (suc i) (suc j) k lt e = number_front qs i j k (omega (arith, lt)) e

split_here : (rs : List Kept) (j : ℕ) (r : Kept) → slice_get rs j ≡ Some r → rs ≡ take j rs ++ r ∷ drop (suc j) rs
split_here [] j r e = absurd (none e)
  where
    none : ◌≡◌ {A = Option Kept} None (Some r) → ⊥
    none q = cc
split_here (q ∷ qs) zero r e = ap (λ z. z ∷ qs) (some_is q r e)
split_here (q ∷ qs) (suc j) r e = ap (λ l. q ∷ l) (split_here qs j r e)

module _ (c : Case) (fit : Passes c check.Record) where
  not_twice : (i j k : ℕ) → i < j → slice_get (map (λ (q : Kept). q.number) (records c)) i ≡ Some k → slice_get (map (λ (q : Kept). q.number) (records c)) j ≡ Some k → ⊥
  not_twice i j k lt a b =
      let (r, at, named) = number_get (records c) j k b in
      let fits : FitsRecord c (take j (records c)) r = fit (take j (records c)) (drop (suc j) (records c)) r (split_here (records c) j r at) in
      let seen : is_in k (map (λ (q : Kept). q.number) (take j (records c))) ≡ true = in_get k (map (λ (q : Kept). q.number) (take j (records c))) i (number_front (records c) i j k lt a) in
      let first : is_in k (map (λ (q : Kept). q.number) (take j (records c))) ≡ false = ap (λ (n : ℕ). is_in n (map (λ (q : Kept). q.number) (take j (records c)))) (sym named) ∙ sym (recorded r.number (take j (records c))) ∙ fits.first in
      both_ways (is_in k (map (λ (q : Kept). q.number) (take j (records c)))) first seen

  pub recorded_once : IsUnique (map (λ (q : Kept). q.number) (records c))
  recorded_once i j k a b = elim (below_or_not i j) [
    | inl lt ↦ absurd (not_twice i j k lt a b)
    | inr le ↦ elim (below_or_not j i) [
      | inl lt ↦ absurd (not_twice j i k lt b a)
      | inr ge ↦ omega (arith, le, ge)
    ]
  ]

-- ---- what is taken

pub takes_flagged : (c : Case) (all : List Kept) (flags : List Bool) (listed : List ℕ) → marks_of c.log ≡ [] → all ≡ records c → listed ≡ map (λ (r : Kept). r.number) (filter (λ (r : Kept). covers c.log.elv r.place.dep) all) →
    HasFlags (length c.load.calls) listed flags → HasFlags (length c.load.calls) (map (λ (r : Kept). r.number) (taken c.log)) flags
takes_flagged c all flags listed plain are is h =
    let numbers_are : listed ≡ map (λ (r : Kept). r.number) (taken c.log) =
    is ∙ ap (λ (rs : List Kept). map (λ (r : Kept). r.number) (filter (λ (r : Kept). covers c.log.elv r.place.dep) rs)) are ∙ ap (λ (rs : List Kept). map (λ (r : Kept). r.number) rs) (sym (taken_plain c.log plain)) in
    subst (λ (l : List ℕ). HasFlags (length c.load.calls) l flags) numbers_are h

-- ---- rows

pub other_rows : (c : Case) (db : Db) (found : List (Key × Value)) → db ≡ rows_after c.load.declarations.procs c.load.calls c.report.order → IsTablesOf db found → (found ≡ c.report.tables → ⊥) → FitRows c → ⊥
other_rows c db found is tables other fit =
    other (tables_one (rows_after c.load.declarations.procs c.load.calls c.report.order) found c.report.tables (subst (λ (d : Db). IsTablesOf d found) is tables) fit)
