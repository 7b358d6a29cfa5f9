-- A row that is given leaves fewer steps; and a call writes at most as often as it has steps.
use Rattle.std.proofs.Common.{ℕ, suc, ◌+◌, ◌<◌, ◌≤◌, ◌≡◌, Bool, true, false, cond, List, [], ◌∷◌, ◌++◌, length, refl, ap, subst, ◌∙◌, Option, arith, nat_eq}
use Rattle.std.specs.Prelude.{Some, None, ◌+ℤ◌, ◌-ℤ◌, ◌*ℤ◌}
use Rattle.std.specs.Map.{lookup}
use Rattle.std.specs.FinMap.{put}
use Rattle.std.specs.FinMap.Entries.{by_order}
use Rattle.std.specs.declared.cmp.Ordering.{Ordering}
use Rattle.std.specs.declared.cmp.Ordering.TheVariants.{Less, Equal, Greater}
use Rattle.tau_base.specs.declared.value.Call.{Call}
use Rattle.tau_base.specs.declared.value.Key.{Key}
use Rattle.tau_base.specs.declared.value.Mode.{Mode}
use Rattle.tau_base.specs.declared.value.Value.{Value}
use Rattle.tau_base.specs.declared.value.Value.TheVariants.{Absent, Int, Text}
use Rattle.tau_base.specs.Database.{same_key, key_cmp}
use Rattle.tau_base.proofs.Keys.{same_key_itself}
use Rattle.tau_proc.specs.declared.proc.Proc.{Proc}
use Rattle.tau_proc.specs.declared.step.Operand.{Operand}
use Rattle.tau_proc.specs.declared.step.Step.{Step}
use Rattle.tau_proc.specs.declared.step.Step.TheVariants as step
use Rattle.tau_proc.specs.Effect.{Effect}
use Rattle.tau_proc.specs.Meaning.{Running, Action, Go, Ask, Refuse, action, set_register, reading, refused, begun, Built, Puts, Adds, Gets, Wrong, built_effect, built_in, proc_of, sum_with, value_of, holds, smaller, greater, in_range, become, computed, joined, read_at, got, stored, needed, chosen, does_of, does, skipped}
use Rattle.tau_machine.specs.Stage.{Stage, Wants, Ends, more, looked, goes, stage_of, stage_in, stage_by, built_seen, built_stage, stage, writes_of}
use Rattle.tau_step.specs.Remains.{looked_left, action_left, steps_left, steps_in, seen_left, built_left, reads_by, size_by, reads_left, size_of}
use Rattle.tau_machine.proofs.Stages.{lookup_more, lookup_last}
use Rattle.tau_txn.proofs.Bound.{added_few}

-- ---- reads

-- at most as many steps are left as there are
looked_few : (o : Option Value) (r : Running) (into count : ℕ) (rest : Running → ℕ) → ((next : Running) → rest next ≤ count) → looked_left o r into count rest ≤ suc count
looked_few None r into count rest h = omega arith
looked_few (Some v) r into count rest h = let le = h (set_register r into v) in omega (arith, le)

action_few : (a : Action) (r : Running) (seen : List (Key × Value)) (count : ℕ) (rest : Running → ℕ) → ((next : Running) → rest next ≤ count) → action_left a r seen count rest ≤ suc count
action_few (Go next) r seen count rest h = let le = h next in omega (arith, le)
action_few (Ask key into) r seen count rest h = looked_few (lookup (same_key key) seen) r into count rest h
action_few Refuse r seen count rest h = omega arith

pub steps_few : (args : List Value) (ss : List Step) (r : Running) (seen : List (Key × Value)) → steps_left args ss r seen ≤ length ss
unfolding steps_left
steps_few args [] r seen = omega arith
steps_few args (s ∷ ss) r seen = action_few (action args r s) r seen (length ss) (λ next. steps_left args ss next seen) (λ next. steps_few args ss next seen)

seen_few : (o : Option Value) → seen_left o ≤ 1
seen_few None = omega arith
seen_few (Some v) = omega arith

built_few : (b : Built) (seen : List (Key × Value)) → built_left b seen ≤ 1
built_few (Puts key v) seen = omega arith
built_few (Adds key n) seen = seen_few (lookup (same_key key) seen)
built_few (Gets key) seen = seen_few (lookup (same_key key) seen)
built_few Wrong seen = omega arith

by_few : (b : Option Built) (p : Option Proc) (c : Call) (seen : List (Key × Value)) → reads_by b p c seen ≤ size_by b p
by_few (Some b) p c seen = built_few b seen
by_few None None c seen = omega arith
by_few None (Some p) c seen = steps_few c.args.items p.steps begun seen

pub reads_few : (procs : List Proc) (c : Call) (seen : List (Key × Value)) → reads_left procs c seen ≤ size_of procs c
reads_few procs c seen = by_few (built_in c) (proc_of procs c) c seen

-- a wanted row that is given leaves fewer
looked_fewer : (o q : Option Value) (key k : Key) (v : Value) (r : Running) (into count : ℕ) (there : Running → Stage) (rest rest' : Running → ℕ) →
    (o ≡ None → same_key key k ≡ true → q ≡ Some v) → ((u : Value) → o ≡ Some u → q ≡ Some u) → ((next : Running) → rest' next ≤ count) →
    ((next : Running) (rs : List (Key × Value)) → there next ≡ Wants rs k → rest' next < rest next) →
    (rs : List (Key × Value)) → looked o key r into there ≡ Wants rs k → looked_left q r into count rest' < looked_left o r into count rest
looked_fewer None q key k v r into count there rest rest' none some few h rs is =
    let same : key ≡ k = cc in
    let found : q ≡ Some v = none refl (subst (λ (y : Key). same_key key y ≡ true) same (same_key_itself key)) in
    rw found (let le = few (set_register r into v) in omega (arith, le))
looked_fewer (Some u) q key k v r into count there rest rest' none some few h rs is = rw (some u refl) (at (there (set_register r into u)) refl is)
  where
    at : (s : Stage) → there (set_register r into u) ≡ s → more key u s ≡ Wants rs k → rest' (set_register r into u) < rest (set_register r into u)
    at (Wants ls y) p e = let same : y ≡ k = cc in h (set_register r into u) ls (p ∙ ap (λ (z : Key). Wants ls z) same)
    at (Ends e) p q = cc

action_fewer : (a : Action) (r : Running) (n count : ℕ) (seen : List (Key × Value)) (k : Key) (v : Value) (there : Running → Stage) (rest rest' : Running → ℕ) →
    ((next : Running) → rest' next ≤ count) → ((next : Running) (rs : List (Key × Value)) → there next ≡ Wants rs k → rest' next < rest next) →
    (rs : List (Key × Value)) → goes a r n seen there ≡ Wants rs k → action_left a r (seen ++ (k, v) ∷ []) count rest' < action_left a r seen count rest
action_fewer (Go next) r n count seen k v there rest rest' few h rs is = h next rs is
action_fewer (Ask key into) r n count seen k v there rest rest' few h rs is =
    looked_fewer (lookup (same_key key) seen) (lookup (same_key key) (seen ++ (k, v) ∷ [])) key k v r into count there rest rest'
    (λ e p. lookup_last (same_key key) seen k v e p) (λ u. lookup_more (same_key key) seen ((k, v) ∷ []) u) few h rs is
action_fewer Refuse r n count seen k v there rest rest' few h rs is = cc

run_fewer : (args : List Value) (ss : List Step) (n : ℕ) (r : Running) (seen : List (Key × Value)) (k : Key) (v : Value) (rs : List (Key × Value)) →
    stage_of args ss n r seen ≡ Wants rs k → steps_left args ss r (seen ++ (k, v) ∷ []) < steps_left args ss r seen
unfolding stage_of steps_left
run_fewer args [] n r seen k v rs is = cc
run_fewer args (s ∷ ss) n r seen k v rs is =
    action_fewer (action args r s) r n (length ss) seen k v (λ next. stage_of args ss (n + 1) next seen) (λ next. steps_left args ss next seen) (λ next. steps_left args ss next (seen ++ (k, v) ∷ []))
    (λ next. steps_few args ss next (seen ++ (k, v) ∷ [])) (λ next. run_fewer args ss (n + 1) next seen k v) rs is

seen_fewer : (b : Built) (key k : Key) (v : Value) (o q : Option Value) → (o ≡ None → same_key key k ≡ true → q ≡ Some v) →
    (rs : List (Key × Value)) → built_seen b key o ≡ Wants rs k → seen_left q < seen_left o
seen_fewer b key k v None q none rs is =
    let same : key ≡ k = cc in
    rw (none refl (subst (λ (y : Key). same_key key y ≡ true) same (same_key_itself key))) (omega arith)
seen_fewer b key k v (Some u) q none rs is = cc

built_fewer : (b : Built) (seen : List (Key × Value)) (k : Key) (v : Value) (rs : List (Key × Value)) → built_stage b seen ≡ Wants rs k → built_left b (seen ++ (k, v) ∷ []) < built_left b seen
built_fewer (Puts key u) seen k v rs is = cc
built_fewer (Adds key n) seen k v rs is =
    seen_fewer (Adds key n) key k v (lookup (same_key key) seen) (lookup (same_key key) (seen ++ (k, v) ∷ [])) (λ e p. lookup_last (same_key key) seen k v e p) rs is
built_fewer (Gets key) seen k v rs is =
    seen_fewer (Gets key) key k v (lookup (same_key key) seen) (lookup (same_key key) (seen ++ (k, v) ∷ [])) (λ e p. lookup_last (same_key key) seen k v e p) rs is
built_fewer Wrong seen k v rs is = cc

pub reads_fewer : (procs : List Proc) (c : Call) (seen : List (Key × Value)) (k : Key) (v : Value) (rs : List (Key × Value)) →
    stage procs c seen ≡ Wants rs k → reads_left procs c (seen ++ (k, v) ∷ []) < reads_left procs c seen
reads_fewer procs c seen k v rs = by (built_in c)
  where
    at : (p : Option Proc) → stage_in p c seen ≡ Wants rs k → steps_in p c (seen ++ (k, v) ∷ []) < steps_in p c seen
    at None is = cc
    at (Some p) is = run_fewer c.args.items p.steps 1 begun seen k v rs is

    by : (b : Option Built) → stage_by b (proc_of procs c) c seen ≡ Wants rs k → reads_by b (proc_of procs c) c (seen ++ (k, v) ∷ []) < reads_by b (proc_of procs c) c seen
    by (Some b) is = built_fewer b seen k v rs is
    by None is = at (proc_of procs c) is

-- ---- writes

length_put : {V : Type 0} (k : Key) (v : V) (xs : List (Key × V)) → length (put key_cmp k v xs) ≤ length xs + 1
length_put k v [] = omega arith
length_put {V} k v (x ∷ xs) = by (key_cmp k x.0) (length_put k v xs)
  where
    by : (o : Ordering) → length (put key_cmp k v xs) ≤ length xs + 1 → length (by_order o ((k, v) ∷ x ∷ xs) ((x.0, v) ∷ xs) (x ∷ put key_cmp k v xs)) ≤ suc (length xs) + 1
    by Less h = omega arith
    by Equal h = omega arith
    by Greater h = omega (arith, h)

pub hold_more : (k : Key) (m : Mode) (xs : List (Key × Mode)) → length (put key_cmp k m xs) ≤ length xs + 1
hold_more k m xs = length_put k m xs

-- a step adds at most one write
abbrev Adds_one : Running → Action → Type 0
Adds_one r (Go next) = length next.writes ≤ length r.writes + 1
Adds_one r (Ask key into) = Unit {0}
Adds_one r Refuse = Unit {0}

become_adds : (r : Running) (into : ℕ) (o : Option Value) → Adds_one r (become r into o)
become_adds r into (Some v) = omega arith
become_adds r into None = tt

read_adds : (r : Running) (into : ℕ) (key : Key) (o : Option Value) → Adds_one r (read_at r into key o)
read_adds r into key (Some v) = omega arith
read_adds r into key None = tt

got_adds : (r : Running) (into table : ℕ) (v : Value) → Adds_one r (got r into table v)
got_adds r into table (Int row) = let key : Key = record { table = table; row = row } in read_adds r into key (lookup (same_key key) r.writes)
got_adds r into table Absent = tt
got_adds r into table (Text t) = tt

stored_adds : (r : Running) (table : ℕ) (row v : Value) → Adds_one r (stored r table row v)
stored_adds r table (Int row) v = length_put (record { table = table; row = row }) v r.writes
stored_adds r table Absent v = tt
stored_adds r table (Text t) v = tt

needed_adds : (r : Running) (o : Option Bool) → Adds_one r (needed r o)
needed_adds r (Some true) = omega arith
needed_adds r (Some false) = tt
needed_adds r None = tt

chosen_adds : (r : Running) (o : Option Bool) → Adds_one r (chosen r o)
chosen_adds r (Some true) = omega arith
chosen_adds r (Some false) = omega arith
chosen_adds r None = tt

does_adds : (of : Operand → Value) (r : Running) (s : Step) → Adds_one r (does_of of r s)
does_adds of r (step.Get into table row) = got_adds r into table (of row)
does_adds of r (step.Put table row value) = stored_adds r table (of row) (of value)
does_adds of r (step.Del table row) = stored_adds r table (of row) Absent
does_adds of r (step.Add into left right) = become_adds r into (computed (λ a b. in_range (a +ℤ b)) (of left) (of right))
does_adds of r (step.Sub into left right) = become_adds r into (computed (λ a b. in_range (a -ℤ b)) (of left) (of right))
does_adds of r (step.Mul into left right) = become_adds r into (computed (λ a b. in_range (a *ℤ b)) (of left) (of right))
does_adds of r (step.Min into left right) = become_adds r into (computed (λ a b. Some (Int (smaller a b))) (of left) (of right))
does_adds of r (step.Max into left right) = become_adds r into (computed (λ a b. Some (Int (greater a b))) (of left) (of right))
does_adds of r (step.Cat into left right) = become_adds r into (joined (of left) (of right))
does_adds of r (step.Need left how right) = needed_adds r (holds how (of left) (of right))
does_adds of r (step.When left how right) = chosen_adds r (holds how (of left) (of right))
does_adds of r step.Done = omega arith
does_adds of r (step.Reply value) = omega arith

action_adds : (args : List Value) (r : Running) (s : Step) → Adds_one r (action args r s)
action_adds args r s = elim (nat_eq r.skips 0) as (λ t. Adds_one r (cond t (does args r s) (Go (record r { skips = skipped r.skips s })))) [
  | true ↦ does_adds (value_of args r.registers) r s
  | false ↦ omega arith
]

-- the writes of a call that has ended

looked_writes : (o : Option Value) (key : Key) (r : Running) (into most : ℕ) (there : Running → Stage) → ((next : Running) (e : Effect) → there next ≡ Ends e → length e.writes ≤ length next.writes + most) →
    (e : Effect) → looked o key r into there ≡ Ends e → length e.writes ≤ length r.writes + suc most
looked_writes None key r into most there h e is = cc
looked_writes (Some v) key r into most there h e is = at (there (set_register r into v)) refl is
  where
    at : (s : Stage) → there (set_register r into v) ≡ s → more key v s ≡ Ends e → length e.writes ≤ length r.writes + suc most
    at (Wants rs k) p q = cc
    at (Ends f) p q = let same : reading key v f ≡ e = cc in let le = h (set_register r into v) f p in let writes : length f.writes ≡ length e.writes = ap (λ (x : Effect). length x.writes) same in omega (arith, le, writes)

goes_writes : (a : Action) (r : Running) (n most : ℕ) (seen : List (Key × Value)) (there : Running → Stage) → Adds_one r a → ((next : Running) (e : Effect) → there next ≡ Ends e → length e.writes ≤ length next.writes + most) →
    (e : Effect) → goes a r n seen there ≡ Ends e → length e.writes ≤ length r.writes + suc most
goes_writes (Go next) r n most seen there one h e is = let le = h next e is in omega (arith, le, one)
goes_writes (Ask key into) r n most seen there one h e is = looked_writes (lookup (same_key key) seen) key r into most there h e is
goes_writes Refuse r n most seen there one h e is = let same : refused n ≡ e = cc in let none : 0 ≡ length e.writes = ap (λ (x : Effect). length x.writes) same in omega (arith, none)

run_writes : (args : List Value) (ss : List Step) (n : ℕ) (r : Running) (seen : List (Key × Value)) (e : Effect) → stage_of args ss n r seen ≡ Ends e → length e.writes ≤ length r.writes + length ss
unfolding stage_of
run_writes args [] n r seen e is = let same : length r.writes ≡ length e.writes = ap (λ (s : Stage). length (writes_of s)) is in omega (arith, same)
run_writes args (s ∷ ss) n r seen e is =
    goes_writes (action args r s) r n (length ss) seen (λ next. stage_of args ss (n + 1) next seen) (action_adds args r s) (λ next. run_writes args ss (n + 1) next seen) e is

seen_writes : (b : Built) (key : Key) (o : Option Value) → ((v : Value) → length (built_effect b (λ k. v)).writes ≤ 1) → (e : Effect) → built_seen b key o ≡ Ends e → length e.writes ≤ 1
seen_writes b key None few e is = cc
seen_writes b key (Some v) few e is = let same : built_effect b (λ k. v) ≡ e = cc in subst (λ (x : Effect). length x.writes ≤ 1) same (few v)

built_writes : (b : Built) (seen : List (Key × Value)) (e : Effect) → built_stage b seen ≡ Ends e → length e.writes ≤ 1
built_writes (Puts key v) seen e is = let same : built_effect (Puts key v) (λ k. Absent) ≡ e = cc in subst (λ (x : Effect). length x.writes ≤ 1) same (omega arith)
built_writes (Adds key n) seen e is = seen_writes (Adds key n) key (lookup (same_key key) seen) (λ v. added_few key (sum_with v n)) e is
built_writes (Gets key) seen e is = seen_writes (Gets key) key (lookup (same_key key) seen) (λ v. omega arith) e is
built_writes Wrong seen e is = let same : refused 0 ≡ e = cc in subst (λ (x : Effect). length x.writes ≤ 1) same (omega arith)

pub writes_few : (procs : List Proc) (c : Call) (seen : List (Key × Value)) (e : Effect) → stage procs c seen ≡ Ends e → length e.writes ≤ size_of procs c
writes_few procs c seen e = by (built_in c)
  where
    at : (p : Option Proc) → stage_in p c seen ≡ Ends e → length e.writes ≤ size_by None p
    at None is = let same : refused 0 ≡ e = cc in subst (λ (x : Effect). length x.writes ≤ 0) same (omega arith)
    at (Some p) is = let le = run_writes c.args.items p.steps 1 begun seen e is in omega (arith, le)

    by : (b : Option Built) → stage_by b (proc_of procs c) c seen ≡ Ends e → length e.writes ≤ size_by b (proc_of procs c)
    by (Some b) is = built_writes b seen e is
    by None is = at (proc_of procs c) is
