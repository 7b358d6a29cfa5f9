-- The report of a run tells each call as it was executed.
use Rattle.std.proofs.Common.{ℕ, zero, suc, ◌+◌, ◌-◌, ◌<◌, ◌≤◌, ◌≡◌, ◌==◌, Bool, true, false, cond, inl, inr, List, [], ◌∷◌, ◌++◌, length, map, refl, sym, ap, subst, ◌∙◌, arith, Option}
use Rattle.std.specs.Prelude.{Some, None, slice_get, slice_index_or, count_by, if◌then◌else◌}
use Rattle.std.specs.List.{list_any, range_with_len}
use Rattle.std.proofs.lemmas.Bool.{both_ways, cases_Bool, or_cases}
use Rattle.std.proofs.lemmas.Bool.Decides.{nat_tests}
use Rattle.std.proofs.lemmas.List.{length-append}
use Rattle.std.proofs.lemmas.List.Sums.{sum_by-cons}
use Rattle.std.proofs.lemmas.Option.{slice_get_within, get_or_from_slice_get}
use Rattle.tau_base.specs.declared.value.Call.{Call}
use Rattle.tau_base.specs.declared.value.Key.{Key}
use Rattle.tau_base.specs.declared.value.Value.{Value}
use Rattle.tau_base.specs.Database.{Db, empty_db, written}
use Rattle.tau_base.proofs.Logic.{below_or_not}
use Rattle.tau_proc.specs.declared.proc.Proc.{Proc}
use Rattle.tau_proc.specs.declared.reply.Reply.{Reply}
use Rattle.tau_proc.specs.Meaning.{meaning}
use Rattle.tau_model.specs.History.{Numbered, Act, Member, exec, trace}
use Rattle.tau_model.specs.History as history_of
use Rattle.tau_model.specs.Tables.{IsTablesOf}
use Rattle.tau_text.specs.declared.load.Workload.{Workload}
use Rattle.tau_scan.specs.declared.log.Log.{Log}
use Rattle.tau_report.specs.declared.report.Fate.TheVariants.{Unrun}
use Rattle.tau_run.specs.Run.{Committed, Run, IsHistory, Distinct, below, fate, fates, has_ack, last_db, reply_in, report_of}
use Rattle.tau_run.specs.Run as run_of
use Rattle.tau_inspect.specs.declared.verdict.Check.TheVariants as check
use Rattle.tau_inspect.specs.Audit.{Case, acts, fate_of, is_acked, numbers, reply_of, times_due, IsTold, Passes}
use Rattle.tau_inspect.specs.Executed.{call_of, history, no_call}
use Rattle.tau_inspect_laws.specs.Laws.{case_of_run, ToldAsExecuted}

-- ---- the calls of a run, as an audit executes them

abbrev pub plain : Committed → Numbered
plain x = record { number = x.number; call = x.call }

abbrev pub plain_act : Act Committed → Act Numbered
plain_act a = record { call = plain a.call; effect = a.effect }

abbrev pub number_in : Act Committed → ℕ
number_in a = a.call.number

history_is : (calls : List Call) (xs : List Committed) → ((x : Committed) → Member x xs → slice_get calls (x.number - 1) ≡ Some x.call) → history calls (map (λ x. x.number) xs) ≡ map plain xs
history_is calls [] h = refl
history_is calls (x ∷ xs) h =
    let own : call_of calls x.number ≡ x.call = get_or_from_slice_get calls (x.number - 1) x.call no_call (h x (inl refl)) in
    λ i. record { number = x.number; call = own i } ∷ history_is calls xs (λ y m. h y (inr m)) i

trace_plain : (procs : List Proc) (xs : List Committed) (db : Db) → trace (history_of.means procs) (map plain xs) db ≡ map plain_act (trace (run_of.means procs) xs db)
trace_plain procs [] db = refl
trace_plain procs (x ∷ xs) db = ap (λ (l : List (Act Numbered)). record { call = plain x; effect = meaning procs x.call db } ∷ l) (trace_plain procs xs (written (meaning procs x.call db).writes db))

exec_plain : (procs : List Proc) (xs : List Committed) (db : Db) → exec (history_of.means procs) (map plain xs) db ≡ exec (run_of.means procs) xs db
exec_plain procs [] db = refl
exec_plain procs (x ∷ xs) db = exec_plain procs xs (written (meaning procs x.call db).writes db)

trace_numbers : (procs : List Proc) (xs : List Committed) (db : Db) → map number_in (trace (run_of.means procs) xs db) ≡ map (λ x. x.number) xs
trace_numbers procs [] db = refl
trace_numbers procs (x ∷ xs) db = ap (λ (l : List ℕ). x.number ∷ l) (trace_numbers procs xs (written (meaning procs x.call db).writes db))

-- ---- members

pub of_split : {A : Type 0} (xs front back : List A) (x : A) → xs ≡ front ++ x ∷ back → Member x xs
of_split {A} xs front back x e = subst (Member x) (sym e) (within front)
  where
    within : (f : List A) → Member x (f ++ x ∷ back)
    within [] = inl refl
    within (y ∷ f) = inr (within f)

pub of_map : {A B : Type 0} (f : A → B) (xs : List A) (y : B) → Member y (map f xs) → (x : A) × Member x xs × (f x ≡ y)
of_map f [] y m = absurd m
of_map f (x ∷ xs) y (inl e) = (x, inl refl, e)
of_map f (x ∷ xs) y (inr m) = (let w = of_map f xs y m in (w.0, inr w.1, w.2))

pub in_map : {A B : Type 0} (f : A → B) (xs : List A) (x : A) → Member x xs → Member (f x) (map f xs)
in_map f [] x m = absurd m
in_map f (y ∷ xs) x (inl e) = inl (ap f e)
in_map f (y ∷ xs) x (inr m) = inr (in_map f xs x m)

range_within : (n a x : ℕ) → Member x (range_with_len a n) → (a ≤ x) × (x < a + n)
range_within zero a x m = absurd m
range_within (suc n) a x (inl e) = (omega (arith, e), omega (arith, e))
range_within (suc n) a x (inr m) = (let w = range_within n (a + 1) x m in (omega (arith, w.0), omega (arith, w.1)))

-- ---- the fates

below_length : (n : ℕ) → length (below n) ≡ n
below_length zero = refl
below_length (suc n) = length-append (below n) (n ∷ []) ∙ ap (λ (k : ℕ). k + 1) (below_length n) ∙ omega arith

mapped_front : {A B : Type 0} (f : A → B) (xs zs : List A) (i : ℕ) (d : B) → i < length xs → slice_index_or (map f (xs ++ zs)) i d ≡ slice_index_or (map f xs) i d
mapped_front f [] zs i d lt = absurd (omega (arith, lt))
mapped_front f (x ∷ xs) zs zero d lt = refl
mapped_front f (x ∷ xs) zs (suc i) d lt = mapped_front f xs zs i d (omega (arith, lt))

mapped_last : {A B : Type 0} (f : A → B) (xs : List A) (z : A) (i : ℕ) (d : B) → i ≡ length xs → slice_index_or (map f (xs ++ z ∷ [])) i d ≡ f z
mapped_last f [] z zero d e = refl
mapped_last f [] z (suc i) d e = absurd (omega (arith, e))
mapped_last f (x ∷ xs) z zero d e = absurd (omega (arith, e))
mapped_last f (x ∷ xs) z (suc i) d e = mapped_last f xs z i d (omega (arith, e))

below_mapped : {B : Type 0} (f : ℕ → B) (n i : ℕ) (d : B) → i < n → slice_index_or (map f (below n)) i d ≡ f i
below_mapped f zero i d lt = absurd (omega (arith, lt))
below_mapped f (suc n) i d lt = elim (below_or_not i n) [
  | inl less ↦ mapped_front f (below n) (n ∷ []) i d (omega (arith, less, below_length n)) ∙ below_mapped f n i d less
  | inr le ↦ (let same : n ≡ i = omega (arith, lt, le) in mapped_last f (below n) n i d (omega (arith, same, below_length n)) ∙ ap f same)
]

-- ---- counting

count_step : (k y : ℕ) (ys : List ℕ) → count_by (λ n. n == k) (y ∷ ys) ≡ cond (y == k) 1 0 + count_by (λ n. n == k) ys
count_step k y ys = sum_by-cons (λ n. cond (n == k) 1 0) y ys

pub eq_is : (a b : ℕ) → (a == b) ≡ true → a ≡ b
eq_is a b e = grind (arith, nat_tests)

count_none : (k : ℕ) (ys : List ℕ) → (Member k ys → ⊥) → count_by (λ n. n == k) ys ≡ 0
count_none k [] none = refl
count_none k (y ∷ ys) none = elim (cases_Bool (y == k)) [
  | inl e ↦ absurd (none (inl (eq_is y k e)))
  | inr e ↦ count_step k y ys ∙ ap (λ (b : Bool). cond b 1 0 + count_by (λ n. n == k) ys) e ∙ ap (λ (m : ℕ). 0 + m) (count_none k ys (λ m. none (inr m)))
]

due_some : (r : Reply) (b : Bool) → times_due (fate (Some r) b) ≡ 1
due_some r true = refl
due_some r false = refl

due_none : (b : Bool) → times_due (fate None b) ≡ 0
due_none b = refl

told_some : (r : Reply) (b : Bool) → reply_of (fate (Some r) b) ≡ Some r
told_some r true = refl
told_some r false = refl

acked_some : (r : Reply) (b : Bool) → is_acked (fate (Some r) b) ≡ b
acked_some r true = refl
acked_some r false = refl

due_counted : (k : ℕ) (A : List (Act Committed)) (b : Bool) → Distinct (map number_in A) → count_by (λ n. n == k) (map number_in A) ≡ times_due (fate (reply_in k A) b)
due_counted k [] b d = refl
due_counted k (a ∷ A) b d = elim (cases_Bool (a.call.number == k)) [
  | inl e ↦
      let same : a.call.number ≡ k = eq_is a.call.number k e in
      let none : count_by (λ n. n == k) (map number_in A) ≡ 0 = count_none k (map number_in A) (λ m. d.0 (subst (λ (j : ℕ). Member j (map number_in A)) (sym same) m)) in
      let one : count_by (λ n. n == k) (map number_in (a ∷ A)) ≡ 1 = count_step k a.call.number (map number_in A) ∙ ap (λ (t : Bool). cond t 1 0 + count_by (λ n. n == k) (map number_in A)) e ∙ ap (λ (m : ℕ). 1 + m) none in
      one ∙ sym (due_some a.effect.reply b) ∙ ap (λ (t : Bool). times_due (fate (if t then Some a.effect.reply else reply_in k A) b)) (sym e)
  | inr e ↦
      count_step k a.call.number (map number_in A) ∙ ap (λ (t : Bool). cond t 1 0 + count_by (λ n. n == k) (map number_in A)) e ∙ zero_more (count_by (λ n. n == k) (map number_in A)) ∙ due_counted k A b d.1
      ∙ ap (λ (t : Bool). times_due (fate (if t then Some a.effect.reply else reply_in k A) b)) (sym e)
]
  where
    zero_more : (m : ℕ) → 0 + m ≡ m
    zero_more m = omega arith

-- the reply of a call is found by its number
reply_there : (A : List (Act Committed)) (a : Act Committed) → Distinct (map number_in A) → Member a A → reply_in a.call.number A ≡ Some a.effect.reply
reply_there [] a d m = absurd m
reply_there (x ∷ A) a d (inl e) =
    let test : (x.call.number == a.call.number) ≡ true = (let same : x.call.number ≡ a.call.number = ap number_in e in grind (arith, nat_tests)) in
    ap (λ (t : Bool). if t then Some x.effect.reply else reply_in a.call.number A) test ∙ ap (λ (z : Act Committed). Some z.effect.reply) e
reply_there (x ∷ A) a d (inr m) = elim (cases_Bool (x.call.number == a.call.number)) [
  | inl e ↦ absurd (d.0 (subst (λ (j : ℕ). Member j (map number_in A)) (sym (eq_is x.call.number a.call.number e)) (in_map number_in A a m)))
  | inr e ↦ ap (λ (t : Bool). if t then Some x.effect.reply else reply_in a.call.number A) e ∙ reply_there A a d.1 m
]

ack_there : (k : ℕ) (as' : List (ℕ × List ℕ)) → list_any (λ a. a.0 == k) as' ≡ true → (a : ℕ × List ℕ) × Member a as' × (a.0 ≡ k)
ack_there k [] e = absurd (both_ways false refl e)
ack_there k (a ∷ as') e = elim (or_cases (a.0 == k) (list_any (λ (b : ℕ × List ℕ). b.0 == k) as') e) [
  | inl t ↦ (a, inl refl, eq_is a.0 k t)
  | inr t ↦ (let w = ack_there k as' t in (w.0, inr w.1, w.2))
]

acked_none : (o : Option Reply) (b : Bool) → (b ≡ true → (r : Reply) × (o ≡ Some r)) → b ≡ is_acked (fate o b)
acked_none (Some r) b h = sym (acked_some r b)
acked_none None true h = absurd (let w = h refl in no_reply w.0 w.1)
  where
    no_reply : (r : Reply) → ◌≡◌ {A = Option Reply} None (Some r) → ⊥
    no_reply r e = cc
acked_none None false h = refl

-- ---- the checks

module _ (n m : ℕ) (load : Workload) (run : Run) (rows : List (Key × Value)) (log : Log) (h : IsHistory n m load run) (fresh : run.start.base ≡ empty_db) where
  abbrev pub c : Case
  c = case_of_run m load run rows log

  abbrev pub did : List (Act Committed)
  did = run_of.acts load.declarations.procs run

  called : history load.calls (map (λ (x : Committed). x.number) run.calls) ≡ map plain run.calls
  called = history_is load.calls run.calls (λ x t. (h.of_workload x t).1)

  pub acts_are : acts c ≡ map plain_act did
  acts_are =
      ap (λ (l : List Numbered). trace (history_of.means load.declarations.procs) l empty_db) called ∙ trace_plain load.declarations.procs run.calls empty_db
      ∙ ap (λ (db : Db). map plain_act (trace (run_of.means load.declarations.procs) run.calls db)) (sym fresh)

  pub numbers_are : map number_in did ≡ map (λ (x : Committed). x.number) run.calls
  numbers_are = trace_numbers load.declarations.procs run.calls run.start.base

  pub apart : Distinct (map number_in did)
  apart = subst Distinct (sym numbers_are) h.once

  fate_is : (k : ℕ) → 1 ≤ k → k ≤ length load.calls → fate_of c k ≡ fate (reply_in k did) (has_ack run k)
  fate_is k low high =
      let at : k - 1 + 1 ≡ k = omega (arith, low) in
      below_mapped (λ (i : ℕ). fate (reply_in (i + 1) did) (has_ack run (i + 1))) (length load.calls) (k - 1) Unrun (omega (arith, low, high)) ∙ ap (λ (j : ℕ). fate (reply_in j did) (has_ack run j)) at

  -- a call that committed has a reply
  replied : (x : Committed) → Member x run.calls → (r : Reply) × (reply_in x.number did ≡ Some r)
  replied x t =
      let there : Member x.number (map number_in did) = subst (Member x.number) (sym numbers_are) (in_map (λ (y : Committed). y.number) run.calls x t) in
      let w = of_map number_in did x.number there in
      (w.0.effect.reply, ap (λ (k : ℕ). reply_in k did) (sym w.2) ∙ reply_there did w.0 apart w.1)

  told_one : (k : ℕ) → 1 ≤ k → k ≤ length load.calls → IsTold c k
  told_one k low high = record {
    order = ap (count_by (λ (j : ℕ). j == k)) (sym numbers_are) ∙ due_counted k did (has_ack run k) apart ∙ ap times_due (sym (fate_is k low high));
    ack = acked_none (reply_in k did) (has_ack run k) (λ e.
        let a = ack_there k run.acks e in
        let w = h.acked a.0 a.1 in
        let r = replied w.0 w.1 in
        (r.0, ap (λ (j : ℕ). reply_in j did) (sym (w.2 ∙ a.2)) ∙ r.1)) ∙ ap is_acked (sym (fate_is k low high));
  }

  fates_pass : Passes c check.Fate
  fates_pass front back k e = (let w = range_within (length load.calls) 1 k (of_split (numbers c) front back k e) in told_one k w.0 (omega (arith, w.1)))

  committed_of_act : (a : Act Committed) → Member a did → Member a.call.number (map (λ (x : Committed). x.number) run.calls)
  committed_of_act a t = subst (Member a.call.number) numbers_are (in_map number_in did a t)

  replies_pass : Passes c check.Reply
  replies_pass front back x e =
      let w = of_map plain_act did x (subst (Member x) acts_are (of_split (acts c) front back x e)) in
      let y = of_map (λ (z : Committed). z.number) run.calls w.0.call.number (committed_of_act w.0 w.1) in
      let from = h.of_workload y.0 y.1 in
      let within = slice_get_within load.calls (y.0.number - 1) y.0.call from.1 in
      let k : ℕ = w.0.call.number in
      let told : reply_of (fate_of c k) ≡ Some w.0.effect.reply =
      ap reply_of (fate_is k (omega (arith, from.0, y.2)) (omega (arith, from.0, within, y.2)) ∙ ap (λ (o : Option Reply). fate o (has_ack run k)) (reply_there did w.0 apart w.1)) ∙ told_some w.0.effect.reply (has_ack run k) in
      subst (λ (z : Act Numbered). reply_of (fate_of c z.call.number) ≡ Some z.effect.reply) w.2 told

  rows_pass : IsTablesOf (last_db load run) rows → Passes c check.Row
  rows_pass present =
      let same : exec (history_of.means load.declarations.procs) (history load.calls (map (λ (x : Committed). x.number) run.calls)) empty_db ≡ last_db load run =
      ap (λ (l : List Numbered). exec (history_of.means load.declarations.procs) l empty_db) called ∙ exec_plain load.declarations.procs run.calls empty_db ∙ ap (exec (run_of.means load.declarations.procs) run.calls) (sym fresh) in
      subst (λ (db : Db). IsTablesOf db rows) (sym same) present

pub told_as_executed : ToldAsExecuted
told_as_executed n m load run rows log h fresh present = (fates_pass n m load run rows log h fresh, replies_pass n m load run rows log h fresh, rows_pass n m load run rows log h fresh present)
