-- The writes of a call ascend, each key once, as its record wants them.
use Rattle.std.proofs.Common.{ℕ, refl, ◌+◌, Bool, true, false, cond, List, [], ◌∷◌, Option, T}
use Rattle.std.specs.Prelude.{IsTrue, Some, None, ◌+ℤ◌, ◌-ℤ◌, ◌*ℤ◌, nat_eq}
use Rattle.std.specs.Cmp.{IsTotalOrder, on_total, then_total, nat_cmp_total, int_cmp_total}
use Rattle.std.specs.FinMap.{is_sorted, put}
use Rattle.std.specs.FinMap.Entries.{is_sorted-put}
use Rattle.std.specs.Map.{lookup}
use Rattle.tau_base.specs.declared.value.Key.{Key}
use Rattle.tau_base.specs.declared.value.Value.{Value}
use Rattle.tau_base.specs.declared.value.Value.TheVariants.{Absent, Int, Text}
use Rattle.tau_proc.specs.declared.step.Operand.{Operand}
use Rattle.tau_proc.specs.declared.step.Step.{Step}
use Rattle.tau_proc.specs.declared.step.Step.TheVariants as step
use Rattle.tau_proc.specs.declared.proc.Proc.{Proc}
use Rattle.tau_base.specs.declared.value.Call.{Call}
use Rattle.tau_base.specs.Database.{Db, key_cmp, same_key}
use Rattle.tau_proc.specs.Effect.{Effect}
use Rattle.tau_proc.specs.Theorems.{WritesAscend}
use Rattle.tau_proc.specs.Meaning.{Running, begun, value_of, holds, smaller, greater, in_range, Action, Go, Ask, Refuse, set_register, become, computed, joined, read_at, got, stored, needed, chosen, does_of, does, skipped, action, follow, run, Built, Puts, Adds, Gets, Wrong, built_in, proc_of, effect_by, sum_with, added_writes, meaning}

pub key_total : IsTotalOrder key_cmp
key_total = then_total (on_total (λ (k : Key). k.table) nat_cmp_total) (on_total (λ (k : Key). k.row) int_cmp_total)

abbrev Sorted : Running → Type 0
Sorted r = T (is_sorted key_cmp r.writes)

abbrev Keeps : Action → Type 0
Keeps (Go r) = Sorted r
Keeps (Ask key into) = Unit {0}
Keeps Refuse = Unit {0}

become_keeps : (r : Running) (into : ℕ) (o : Option Value) → Sorted r → Keeps (become r into o)
become_keeps r into (Some v) h = h
become_keeps r into None h = tt

read_keeps : (r : Running) (into : ℕ) (key : Key) (o : Option Value) → Sorted r → Keeps (read_at r into key o)
read_keeps r into key (Some v) h = h
read_keeps r into key None h = tt

got_keeps : (r : Running) (into table : ℕ) (v : Value) → Sorted r → Keeps (got r into table v)
got_keeps r into table (Int row) h = let key : Key = record { table = table; row = row } in read_keeps r into key (lookup (same_key key) r.writes) h
got_keeps r into table Absent h = tt
got_keeps r into table (Text t) h = tt

stored_keeps : (r : Running) (table : ℕ) (row v : Value) → Sorted r → Keeps (stored r table row v)
stored_keeps r table (Int row) v h = is_sorted-put key_cmp key_total (record { table = table; row = row }) v r.writes h
stored_keeps r table Absent v h = tt
stored_keeps r table (Text t) v h = tt

needed_keeps : (r : Running) (o : Option Bool) → Sorted r → Keeps (needed r o)
needed_keeps r (Some true) h = h
needed_keeps r (Some false) h = tt
needed_keeps r None h = tt

chosen_keeps : (r : Running) (o : Option Bool) → Sorted r → Keeps (chosen r o)
chosen_keeps r (Some true) h = h
chosen_keeps r (Some false) h = h
chosen_keeps r None h = tt

does_keeps : (of : Operand → Value) (r : Running) (s : Step) → Sorted r → Keeps (does_of of r s)
does_keeps of r (step.Get into table row) h = got_keeps r into table (of row) h
does_keeps of r (step.Put table row value) h = stored_keeps r table (of row) (of value) h
does_keeps of r (step.Del table row) h = stored_keeps r table (of row) Absent h
does_keeps of r (step.Add into left right) h = become_keeps r into (computed (λ a b. in_range (a +ℤ b)) (of left) (of right)) h
does_keeps of r (step.Sub into left right) h = become_keeps r into (computed (λ a b. in_range (a -ℤ b)) (of left) (of right)) h
does_keeps of r (step.Mul into left right) h = become_keeps r into (computed (λ a b. in_range (a *ℤ b)) (of left) (of right)) h
does_keeps of r (step.Min into left right) h = become_keeps r into (computed (λ a b. Some (Int (smaller a b))) (of left) (of right)) h
does_keeps of r (step.Max into left right) h = become_keeps r into (computed (λ a b. Some (Int (greater a b))) (of left) (of right)) h
does_keeps of r (step.Cat into left right) h = become_keeps r into (joined (of left) (of right)) h
does_keeps of r (step.Need left how right) h = needed_keeps r (holds how (of left) (of right)) h
does_keeps of r (step.When left how right) h = chosen_keeps r (holds how (of left) (of right)) h
does_keeps of r step.Done h = h
does_keeps of r (step.Reply value) h = h

action_keeps : (args : List Value) (r : Running) (s : Step) → Sorted r → Keeps (action args r s)
action_keeps args r s h = elim (nat_eq r.skips 0) as (λ t. Keeps (cond t (does args r s) (Go (record r { skips = skipped r.skips s })))) [ true ↦ does_keeps (value_of args r.registers) r s h | false ↦ h ]

follow_keeps : (a : Action) (r : Running) (n : ℕ) (db : Db) (rest : Running → Effect) → Sorted r → Keeps a →
    ((next : Running) → Sorted next → T (is_sorted key_cmp (rest next).writes)) → T (is_sorted key_cmp (follow a r n db rest).writes)
follow_keeps (Go next) r n db rest h k go = go next k
follow_keeps (Ask key into) r n db rest h k go = go (set_register r into (db key)) h
follow_keeps Refuse r n db rest h k go = tt

run_keeps : (args : List Value) (ss : List Step) (n : ℕ) (r : Running) (db : Db) → Sorted r → T (is_sorted key_cmp (run args ss n r db).writes)
unfolding run
run_keeps args [] n r db h = h
run_keeps args (s ∷ ss) n r db h =
    follow_keeps (action args r s) r n db (λ next. run args ss (n + 1) next db) h (action_keeps args r s h) (λ next k. run_keeps args ss (n + 1) next db k)

of_T : (b : Bool) → T b → IsTrue b
of_T true t = refl
of_T false t = absurd t

to_T : (b : Bool) → IsTrue b → T b
to_T true e = tt
to_T false e = cc

pub keeps_put : (k : Key) (v : Value) (xs : List (Key × Value)) → IsTrue (is_sorted key_cmp xs) → IsTrue (is_sorted key_cmp (put key_cmp k v xs))
keeps_put k v xs h = of_T (is_sorted key_cmp (put key_cmp k v xs)) (is_sorted-put key_cmp key_total k v xs (to_T (is_sorted key_cmp xs) h))

-- the writes of a call are in the order of their keys, each key once
pub writes_ascend : (procs : List Proc) (c : Call) (db : Db) → T (is_sorted key_cmp (meaning procs c db).writes)
writes_ascend procs c db = at (built_in c) (proc_of procs c)
  where
    at : (b : Option Built) (p : Option Proc) → T (is_sorted key_cmp (effect_by b p c db).writes)
    at (Some (Puts key v)) p = tt
    at (Some (Adds key n)) p = one (sum_with (db key) n)
      where
        one : (o : Option Value) → T (is_sorted key_cmp (added_writes key o))
        one None = tt
        one (Some v) = tt
    at (Some (Gets key)) p = tt
    at (Some Wrong) p = tt
    at None None = tt
    at None (Some p) = run_keeps c.args.items p.steps 1 begun db tt

pub writes_ascend_law : WritesAscend
writes_ascend_law procs c db = of_T (is_sorted key_cmp (meaning procs c db).writes) (writes_ascend procs c db)
