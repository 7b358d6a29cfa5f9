-- What a call has come to is what it means on each database that has the values that it has seen.
use Rattle.std.proofs.Common.{ℕ, ◌+◌, Bool, true, false, ◌≡◌, inl, inr, List, [], ◌∷◌, ◌++◌, refl, sym, ap, subst, ◌∙◌, Option}
use Rattle.std.specs.Prelude.{Some, None, ◌||◌}
use Rattle.std.specs.Map.{lookup}
use Rattle.std.proofs.lemmas.Bool.{cases_Bool, both_ways, or_cases}
use Rattle.tau_base.specs.declared.value.Key.{Key}
use Rattle.tau_base.specs.declared.value.Value.{Value}
use Rattle.tau_proc.specs.declared.step.Step.{Step}
use Rattle.tau_proc.specs.declared.proc.Proc.{Proc}
use Rattle.tau_base.specs.declared.value.Call.{Call}
use Rattle.tau_base.specs.Database.{Db, same_key}
use Rattle.tau_proc.specs.Effect.{Effect, has_key, Agrees}
use Rattle.tau_proc.specs.Meaning.{Running, Action, Go, Ask, Refuse, action, set_register, reading, follow, run, run_of, begun, meaning, Built, Puts, Adds, Gets, Wrong, built_effect, built_in, proc_of, effect_by}
use Rattle.tau_base.proofs.Keys.{same_key_itself, same_key_is}
use Rattle.tau_machine.specs.Stage.{Stage, Wants, Ends, more, looked, goes, stage_of, stage_in, stage_by, built_seen, built_stage, stage, reads_of}
use Rattle.tau_base.proofs.Logic.{or_true, or_left}

agrees_lookup : (seen : List (Key × Value)) (db : Db) (k : Key) (v : Value) → Agrees seen db → lookup (same_key k) seen ≡ Some v → db k ≡ v
agrees_lookup [] db k v h e = cc
agrees_lookup (r ∷ rs) db k v h e = elim (cases_Bool (same_key k r.0)) [
  | inl is ↦ let same : k ≡ r.0 = same_key_is k r.0 is in let found : Some r.1 ≡ Some v = rw is at e in
      let value : r.1 ≡ v = cc in ap db same ∙ h.0 ∙ value
  | inr no' ↦ agrees_lookup rs db k v h.1 (rw no' at e)
]

-- the meaning from the stage
looked_means : (o : Option Value) (key : Key) (r : Running) (into : ℕ) (db : Db) (rest : Running → Effect) (there : Running → Stage) →
    ((v : Value) → o ≡ Some v → db key ≡ v) →
    ((next : Running) (e : Effect) → there next ≡ Ends e → rest next ≡ e) → (e : Effect) → looked o key r into there ≡ Ends e →
    reading key (db key) (rest (set_register r into (db key))) ≡ e
looked_means None key r into db rest there value h e is = cc
looked_means (Some v) key r into db rest there value h e is = rw (value v refl) (at (there (set_register r into v)) refl is)
  where
    at : (s : Stage) → there (set_register r into v) ≡ s → more key v s ≡ Ends e → reading key v (rest (set_register r into v)) ≡ e
    at (Wants rs k) p q = cc
    at (Ends f) p q = let same : reading key v f ≡ e = cc in ap (reading key v) (h (set_register r into v) f p) ∙ same

goes_means : (a : Action) (r : Running) (n : ℕ) (seen : List (Key × Value)) (db : Db) (rest : Running → Effect) (there : Running → Stage) → Agrees seen db →
    ((next : Running) (e : Effect) → there next ≡ Ends e → rest next ≡ e) → (e : Effect) → goes a r n seen there ≡ Ends e → follow a r n db rest ≡ e
goes_means (Go next) r n seen db rest there agrees h e is = h next e is
goes_means (Ask key into) r n seen db rest there agrees h e is =
    looked_means (lookup (same_key key) seen) key r into db rest there (λ v. agrees_lookup seen db key v agrees) h e is
goes_means Refuse r n seen db rest there agrees h e is = cc

run_means : (args : List Value) (ss : List Step) (n : ℕ) (r : Running) (seen : List (Key × Value)) (db : Db) → Agrees seen db →
    (e : Effect) → stage_of args ss n r seen ≡ Ends e → run args ss n r db ≡ e
unfolding run stage_of
run_means args [] n r seen db agrees e is = cc
run_means args (s ∷ ss) n r seen db agrees e is =
    goes_means (action args r s) r n seen db (λ next. run args ss (n + 1) next db) (λ next. stage_of args ss (n + 1) next seen) agrees
    (λ next. run_means args ss (n + 1) next seen db agrees) e is

-- of a built-in: what it does on a database with the value seen is what it does on each that has it at its key
seen_means : (b : Built) (key : Key) (o : Option Value) (db : Db) → ((v : Value) → o ≡ Some v → db key ≡ v) → ((v : Value) → db key ≡ v → built_effect b (λ k. v) ≡ built_effect b db) →
    (e : Effect) → built_seen b key o ≡ Ends e → built_effect b db ≡ e
seen_means b key None db value same e is = cc
seen_means b key (Some v) db value same e is = let there : built_effect b (λ k. v) ≡ e = cc in sym (same v (value v refl)) ∙ there

built_means : (b : Built) (seen : List (Key × Value)) (db : Db) → Agrees seen db → (e : Effect) → built_stage b seen ≡ Ends e → built_effect b db ≡ e
built_means (Puts key v) seen db agrees e is = cc
built_means (Adds key n) seen db agrees e is =
    seen_means (Adds key n) key (lookup (same_key key) seen) db (λ v. agrees_lookup seen db key v agrees) (λ v h. rw h refl) e is
built_means (Gets key) seen db agrees e is =
    seen_means (Gets key) key (lookup (same_key key) seen) db (λ v. agrees_lookup seen db key v agrees) (λ v h. rw h refl) e is
built_means Wrong seen db agrees e is = cc

pub meaning_from_stage : (procs : List Proc) (c : Call) (seen : List (Key × Value)) (db : Db) → Agrees seen db → (e : Effect) →
    stage procs c seen ≡ Ends e → meaning procs c db ≡ e
meaning_from_stage procs c seen db agrees e = by (built_in c)
  where
    at : (p : Option Proc) → stage_in p c seen ≡ Ends e → run_of p c db ≡ e
    at None is = cc
    at (Some p) is = run_means c.args.items p.steps 1 begun seen db agrees e is

    by : (b : Option Built) → stage_by b (proc_of procs c) c seen ≡ Ends e → effect_by b (proc_of procs c) c db ≡ e
    by (Some b) is = built_means b seen db agrees e is
    by None is = at (proc_of procs c) is

pub has_lookup : (seen : List (Key × Value)) (k : Key) (v : Value) → lookup (same_key k) seen ≡ Some v → has_key k seen ≡ true
has_lookup [] k v e = cc
has_lookup (r ∷ rs) k v e = elim (cases_Bool (same_key k r.0)) [
  | inl is ↦ or_left (same_key k r.0) (has_key k rs) is
  | inr no' ↦ or_true (same_key k r.0) (has_key k rs) (has_lookup rs k v (rw no' at e))
]

reads_more : (key : Key) (v : Value) (s : Stage) → reads_of (more key v s) ≡ (key, v) ∷ reads_of s
reads_more key v (Wants rs k) = refl
reads_more key v (Ends e) = refl

-- what was read has been seen
looked_seen : (x : Key) (o : Option Value) (key : Key) (r : Running) (into : ℕ) (seen : List (Key × Value)) (there : Running → Stage) →
    ((v : Value) → o ≡ Some v → has_key key seen ≡ true) → ((next : Running) → has_key x (reads_of (there next)) ≡ true → has_key x seen ≡ true) →
    has_key x (reads_of (looked o key r into there)) ≡ true → has_key x seen ≡ true
looked_seen x None key r into seen there value h is = absurd (both_ways false refl is)
looked_seen x (Some v) key r into seen there value h is =
    elim (or_cases (same_key x key) (has_key x (reads_of (there (set_register r into v)))) (rw (reads_more key v (there (set_register r into v))) at is)) [
      | inl same ↦ subst (λ (k : Key). has_key k seen ≡ true) (sym (same_key_is x key same)) (value v refl)
      | inr other ↦ h (set_register r into v) other
    ]

goes_seen : (x : Key) (a : Action) (r : Running) (n : ℕ) (seen : List (Key × Value)) (there : Running → Stage) →
    ((next : Running) → has_key x (reads_of (there next)) ≡ true → has_key x seen ≡ true) →
    has_key x (reads_of (goes a r n seen there)) ≡ true → has_key x seen ≡ true
goes_seen x (Go next) r n seen there h is = h next is
goes_seen x (Ask key into) r n seen there h is =
    looked_seen x (lookup (same_key key) seen) key r into seen there (λ v. has_lookup seen key v) h is
goes_seen x Refuse r n seen there h is = absurd (both_ways false refl is)

run_saw : (x : Key) (args : List Value) (ss : List Step) (n : ℕ) (r : Running) (seen : List (Key × Value)) →
    has_key x (reads_of (stage_of args ss n r seen)) ≡ true → has_key x seen ≡ true
unfolding stage_of
run_saw x args [] n r seen is = absurd (both_ways false refl is)
run_saw x args (s ∷ ss) n r seen is =
    goes_seen x (action args r s) r n seen (λ next. stage_of args ss (n + 1) next seen) (λ next. run_saw x args ss (n + 1) next seen) is

-- a built-in reads at most its key
seen_saw : (x : Key) (b : Built) (key : Key) (o : Option Value) (seen : List (Key × Value)) → ((v : Value) → o ≡ Some v → has_key key seen ≡ true) →
    ((v : Value) → has_key x (built_effect b (λ k. v)).reads ≡ true → same_key x key ≡ true) → has_key x (reads_of (built_seen b key o)) ≡ true → has_key x seen ≡ true
seen_saw x b key None seen value own is = absurd (both_ways false refl is)
seen_saw x b key (Some v) seen value own is = subst (λ (k : Key). has_key k seen ≡ true) (sym (same_key_is x key (own v is))) (value v refl)

only : (a : Bool) → (a || false) ≡ true → a ≡ true
only true e = refl
only false e = e

built_saw : (x : Key) (b : Built) (seen : List (Key × Value)) → has_key x (reads_of (built_stage b seen)) ≡ true → has_key x seen ≡ true
built_saw x (Puts key v) seen is = absurd (both_ways false refl is)
built_saw x (Adds key n) seen is =
    seen_saw x (Adds key n) key (lookup (same_key key) seen) seen (λ v. has_lookup seen key v) (λ v. only (same_key x key)) is
built_saw x (Gets key) seen is =
    seen_saw x (Gets key) key (lookup (same_key key) seen) seen (λ v. has_lookup seen key v) (λ v. only (same_key x key)) is
built_saw x Wrong seen is = absurd (both_ways false refl is)

pub reads_seen : (procs : List Proc) (c : Call) (seen : List (Key × Value)) (x : Key) → has_key x (reads_of (stage procs c seen)) ≡ true → has_key x seen ≡ true
reads_seen procs c seen x = by (built_in c)
  where
    at : (p : Option Proc) → has_key x (reads_of (stage_in p c seen)) ≡ true → has_key x seen ≡ true
    at None is = absurd (both_ways false refl is)
    at (Some p) is = run_saw x c.args.items p.steps 1 begun seen is

    by : (b : Option Built) → has_key x (reads_of (stage_by b (proc_of procs c) c seen)) ≡ true → has_key x seen ≡ true
    by (Some b) is = built_saw x b seen is
    by None is = at (proc_of procs c) is

-- with more values seen it has read more
pub lookup_more : (p : Key → Bool) (xs ys : List (Key × Value)) (v : Value) → lookup p xs ≡ Some v → lookup p (xs ++ ys) ≡ Some v
lookup_more p [] ys v e = cc
lookup_more p (x ∷ xs) ys v e = elim (cases_Bool (p x.0)) [
  | inl is ↦ rw is (rw is at e)
  | inr no' ↦ rw no' (lookup_more p xs ys v (rw no' at e))
]

pub lookup_last : (p : Key → Bool) (xs : List (Key × Value)) (k : Key) (v : Value) → lookup p xs ≡ None → p k ≡ true → lookup p (xs ++ (k, v) ∷ []) ≡ Some v
lookup_last p [] k v e is = rw is refl
lookup_last p (x ∷ xs) k v e is = elim (cases_Bool (p x.0)) [
  | inl yes' ↦ let bad : Some x.1 ≡ None = rw yes' at e in cc
  | inr no' ↦ rw no' (lookup_last p xs k v (rw no' at e) is)
]

looked_grows : (x : Key) (o q : Option Value) (key : Key) (r : Running) (into : ℕ) (there then' : Running → Stage) →
    ((v : Value) → o ≡ Some v → q ≡ Some v) → ((next : Running) → has_key x (reads_of (there next)) ≡ true → has_key x (reads_of (then' next)) ≡ true) →
    has_key x (reads_of (looked o key r into there)) ≡ true → has_key x (reads_of (looked q key r into then')) ≡ true
looked_grows x None q key r into there then' same h is = absurd (both_ways false refl is)
looked_grows x (Some v) q key r into there then' same h is =
    rw (same v refl, reads_more key v (then' (set_register r into v)))
    (elim (or_cases (same_key x key) (has_key x (reads_of (there (set_register r into v)))) (rw (reads_more key v (there (set_register r into v))) at is)) [
      | inl p ↦ or_left (same_key x key) (has_key x (reads_of (then' (set_register r into v)))) p
      | inr p ↦ or_true (same_key x key) (has_key x (reads_of (then' (set_register r into v)))) (h (set_register r into v) p)
    ])

goes_grows : (x : Key) (a : Action) (r : Running) (n : ℕ) (seen later : List (Key × Value)) (there then' : Running → Stage) →
    ((next : Running) → has_key x (reads_of (there next)) ≡ true → has_key x (reads_of (then' next)) ≡ true) →
    has_key x (reads_of (goes a r n seen there)) ≡ true → has_key x (reads_of (goes a r n (seen ++ later) then')) ≡ true
goes_grows x (Go next) r n seen later there then' h is = h next is
goes_grows x (Ask key into) r n seen later there then' h is =
    looked_grows x (lookup (same_key key) seen) (lookup (same_key key) (seen ++ later)) key r into there then' (λ v. lookup_more (same_key key) seen later v) h is
goes_grows x Refuse r n seen later there then' h is = is

run_grows : (x : Key) (args : List Value) (ss : List Step) (n : ℕ) (r : Running) (seen later : List (Key × Value)) →
    has_key x (reads_of (stage_of args ss n r seen)) ≡ true → has_key x (reads_of (stage_of args ss n r (seen ++ later))) ≡ true
unfolding stage_of
run_grows x args [] n r seen later is = is
run_grows x args (s ∷ ss) n r seen later is =
    goes_grows x (action args r s) r n seen later (λ next. stage_of args ss (n + 1) next seen) (λ next. stage_of args ss (n + 1) next (seen ++ later))
    (λ next. run_grows x args ss (n + 1) next seen later) is

seen_grows : (x : Key) (b : Built) (key : Key) (o q : Option Value) → ((v : Value) → o ≡ Some v → q ≡ Some v) →
    has_key x (reads_of (built_seen b key o)) ≡ true → has_key x (reads_of (built_seen b key q)) ≡ true
seen_grows x b key None q same is = absurd (both_ways false refl is)
seen_grows x b key (Some v) q same is = rw (same v refl) is

built_grows : (x : Key) (b : Built) (seen later : List (Key × Value)) →
    has_key x (reads_of (built_stage b seen)) ≡ true → has_key x (reads_of (built_stage b (seen ++ later))) ≡ true
built_grows x (Puts key v) seen later is = is
built_grows x (Adds key n) seen later is =
    seen_grows x (Adds key n) key (lookup (same_key key) seen) (lookup (same_key key) (seen ++ later)) (λ v. lookup_more (same_key key) seen later v) is
built_grows x (Gets key) seen later is =
    seen_grows x (Gets key) key (lookup (same_key key) seen) (lookup (same_key key) (seen ++ later)) (λ v. lookup_more (same_key key) seen later v) is
built_grows x Wrong seen later is = is

pub reads_grow : (procs : List Proc) (c : Call) (seen later : List (Key × Value)) (x : Key) →
    has_key x (reads_of (stage procs c seen)) ≡ true → has_key x (reads_of (stage procs c (seen ++ later))) ≡ true
reads_grow procs c seen later x = by (built_in c)
  where
    at : (p : Option Proc) → has_key x (reads_of (stage_in p c seen)) ≡ true → has_key x (reads_of (stage_in p c (seen ++ later))) ≡ true
    at None is = is
    at (Some p) is = run_grows x c.args.items p.steps 1 begun seen later is

    by : (b : Option Built) → has_key x (reads_of (stage_by b (proc_of procs c) c seen)) ≡ true → has_key x (reads_of (stage_by b (proc_of procs c) c (seen ++ later))) ≡ true
    by (Some b) is = built_grows x b seen later is
    by None is = at (proc_of procs c) is

-- a wanted key that is given has been read
looked_wanted : (o q : Option Value) (key k : Key) (v : Value) (r : Running) (into : ℕ) (there then' : Running → Stage) →
    (o ≡ None → same_key key k ≡ true → q ≡ Some v) → ((u : Value) → o ≡ Some u → q ≡ Some u) →
    ((next : Running) (rs : List (Key × Value)) → there next ≡ Wants rs k → has_key k (reads_of (then' next)) ≡ true) →
    (rs : List (Key × Value)) → looked o key r into there ≡ Wants rs k → has_key k (reads_of (looked q key r into then')) ≡ true
looked_wanted None q key k v r into there then' none some h rs is =
    let same : key ≡ k = cc in
    let found : q ≡ Some v = none refl (subst (λ (y : Key). same_key key y ≡ true) same (same_key_itself key)) in
    rw (found, reads_more key v (then' (set_register r into v)))
    (or_left (same_key k key) (has_key k (reads_of (then' (set_register r into v)))) (subst (λ (y : Key). same_key y key ≡ true) same (same_key_itself key)))
looked_wanted (Some u) q key k v r into there then' none some h rs is =
    rw (some u refl, reads_more key u (then' (set_register r into u)))
    (or_true (same_key k key) (has_key k (reads_of (then' (set_register r into u)))) (at (there (set_register r into u)) refl is))
  where
    at : (s : Stage) → there (set_register r into u) ≡ s → more key u s ≡ Wants rs k → has_key k (reads_of (then' (set_register r into u))) ≡ true
    at (Wants ls y) p e = let same : y ≡ k = cc in h (set_register r into u) ls (p ∙ ap (λ (z : Key). Wants ls z) same)
    at (Ends e) p q = cc

goes_wanted : (a : Action) (r : Running) (n : ℕ) (seen : List (Key × Value)) (k : Key) (v : Value) (there then' : Running → Stage) →
    ((next : Running) (rs : List (Key × Value)) → there next ≡ Wants rs k → has_key k (reads_of (then' next)) ≡ true) →
    (rs : List (Key × Value)) → goes a r n seen there ≡ Wants rs k → has_key k (reads_of (goes a r n (seen ++ (k, v) ∷ []) then')) ≡ true
goes_wanted (Go next) r n seen k v there then' h rs is = h next rs is
goes_wanted (Ask key into) r n seen k v there then' h rs is =
    looked_wanted (lookup (same_key key) seen) (lookup (same_key key) (seen ++ (k, v) ∷ [])) key k v r into there then'
    (λ e p. lookup_last (same_key key) seen k v e p) (λ u. lookup_more (same_key key) seen ((k, v) ∷ []) u) h rs is
goes_wanted Refuse r n seen k v there then' h rs is = cc

run_wanted : (args : List Value) (ss : List Step) (n : ℕ) (r : Running) (seen : List (Key × Value)) (k : Key) (v : Value) (rs : List (Key × Value)) →
    stage_of args ss n r seen ≡ Wants rs k → has_key k (reads_of (stage_of args ss n r (seen ++ (k, v) ∷ []))) ≡ true
unfolding stage_of
run_wanted args [] n r seen k v rs is = cc
run_wanted args (s ∷ ss) n r seen k v rs is =
    goes_wanted (action args r s) r n seen k v (λ next. stage_of args ss (n + 1) next seen) (λ next. stage_of args ss (n + 1) next (seen ++ (k, v) ∷ []))
    (λ next. run_wanted args ss (n + 1) next seen k v) rs is

seen_wanted : (b : Built) (key k : Key) (v : Value) (o q : Option Value) → (o ≡ None → same_key key k ≡ true → q ≡ Some v) →
    ((u : Value) → has_key key (built_effect b (λ y. u)).reads ≡ true) →
    (rs : List (Key × Value)) → built_seen b key o ≡ Wants rs k → has_key k (reads_of (built_seen b key q)) ≡ true
seen_wanted b key k v None q none own rs is =
    let same : key ≡ k = cc in
    rw (none refl (subst (λ (y : Key). same_key key y ≡ true) same (same_key_itself key))) (subst (λ (y : Key). has_key y (built_effect b (λ z. v)).reads ≡ true) same (own v))
seen_wanted b key k v (Some u) q none own rs is = cc

built_wanted : (b : Built) (seen : List (Key × Value)) (k : Key) (v : Value) (rs : List (Key × Value)) →
    built_stage b seen ≡ Wants rs k → has_key k (reads_of (built_stage b (seen ++ (k, v) ∷ []))) ≡ true
built_wanted (Puts key u) seen k v rs is = cc
built_wanted (Adds key n) seen k v rs is =
    seen_wanted (Adds key n) key k v (lookup (same_key key) seen) (lookup (same_key key) (seen ++ (k, v) ∷ [])) (λ e p. lookup_last (same_key key) seen k v e p)
    (λ u. or_left (same_key key key) false (same_key_itself key)) rs is
built_wanted (Gets key) seen k v rs is =
    seen_wanted (Gets key) key k v (lookup (same_key key) seen) (lookup (same_key key) (seen ++ (k, v) ∷ [])) (λ e p. lookup_last (same_key key) seen k v e p)
    (λ u. or_left (same_key key key) false (same_key_itself key)) rs is
built_wanted Wrong seen k v rs is = cc

pub wanted_read : (procs : List Proc) (c : Call) (seen : List (Key × Value)) (k : Key) (v : Value) (rs : List (Key × Value)) →
    stage procs c seen ≡ Wants rs k → has_key k (reads_of (stage procs c (seen ++ (k, v) ∷ []))) ≡ true
wanted_read procs c seen k v rs = by (built_in c)
  where
    at : (p : Option Proc) → stage_in p c seen ≡ Wants rs k → has_key k (reads_of (stage_in p c (seen ++ (k, v) ∷ []))) ≡ true
    at None is = cc
    at (Some p) is = run_wanted c.args.items p.steps 1 begun seen k v rs is

    by : (b : Option Built) → stage_by b (proc_of procs c) c seen ≡ Wants rs k → has_key k (reads_of (stage_by b (proc_of procs c) c (seen ++ (k, v) ∷ []))) ≡ true
    by (Some b) is = built_wanted b seen k v rs is
    by None is = at (proc_of procs c) is
