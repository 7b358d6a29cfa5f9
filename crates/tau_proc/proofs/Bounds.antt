-- A step adds at most one write and skips at most one more `when`, and what it reads goes into a register.
use Rattle.std.proofs.Common.{ℕ, suc, ◌+◌, ◌≤◌, Bool, true, false, cond, List, [], ◌∷◌, length, Option, arith, nat_eq}
use Rattle.std.specs.Prelude.{Some, None, ◌+ℤ◌, ◌-ℤ◌, ◌*ℤ◌, IsTrue}
use Rattle.std.specs.FinMap.{put}
use Rattle.std.specs.FinMap.Entries.{by_order}
use Rattle.std.specs.Map.{lookup}
use Rattle.std.specs.declared.cmp.Ordering.TheVariants.{Less, Equal, Greater}
use Rattle.std.proofs.lemmas.Bool.{and_parts}
use Rattle.tau_base.specs.declared.value.Key.{Key}
use Rattle.tau_base.specs.declared.value.Value.{Value}
use Rattle.tau_base.specs.declared.value.Value.TheVariants.{Absent, Int, Text}
use Rattle.tau_base.specs.Database.{key_cmp, same_key}
use Rattle.tau_proc.specs.declared.step.Operand.{Operand}
use Rattle.tau_proc.specs.declared.step.Step.{Step}
use Rattle.tau_proc.specs.declared.step.Step.TheVariants as step
use Rattle.tau_proc.specs.Limits.{is_register, operand_fits, step_fits}
use Rattle.tau_proc.specs.Meaning.{Running, value_of, holds, smaller, greater, in_range, Action, Go, Ask, Refuse, become, computed, joined, read_at, got, stored, needed, chosen, does_of, does, skipped, action}

pub length_put : (k : Key) (v : Value) (xs : List (Key × Value)) → length (put key_cmp k v xs) ≤ length xs + 1
length_put k v [] = omega arith
length_put k v (x ∷ xs) = elim (key_cmp k x.0) as (λ o. length (by_order o ((k, v) ∷ x ∷ xs) ((x.0, v) ∷ xs) (x ∷ put key_cmp k v xs)) ≤ suc (length xs) + 1) [
  | Less ↦ omega arith
  | Equal ↦ omega arith
  | Greater ↦ omega (arith, length_put k v xs)
]

abbrev pub Bounded : Running → Action → Type 0
Bounded r (Go next) = (length next.writes ≤ length r.writes + 1) × (next.skips ≤ r.skips + 1)
Bounded r (Ask key into) = IsTrue (is_register into)
Bounded r Refuse = Unit {0}

stays : (r : Running) → (length r.writes ≤ length r.writes + 1) × (r.skips ≤ r.skips + 1)
stays r = (omega arith, omega arith)

become_bounded : (r : Running) (into : ℕ) (o : Option Value) → Bounded r (become r into o)
become_bounded r into (Some v) = stays r
become_bounded r into None = tt

read_bounded : (r : Running) (into : ℕ) (key : Key) (o : Option Value) → IsTrue (is_register into) → Bounded r (read_at r into key o)
read_bounded r into key (Some v) h = stays r
read_bounded r into key None h = h

got_bounded : (r : Running) (into table : ℕ) (v : Value) → IsTrue (is_register into) → Bounded r (got r into table v)
got_bounded r into table (Int row) h = let key : Key = record { table = table; row = row } in read_bounded r into key (lookup (same_key key) r.writes) h
got_bounded r into table Absent h = tt
got_bounded r into table (Text t) h = tt

stored_bounded : (r : Running) (table : ℕ) (row v : Value) → Bounded r (stored r table row v)
stored_bounded r table (Int row) v = (length_put (record { table = table; row = row }) v r.writes, omega arith)
stored_bounded r table Absent v = tt
stored_bounded r table (Text t) v = tt

needed_bounded : (r : Running) (o : Option Bool) → Bounded r (needed r o)
needed_bounded r (Some true) = stays r
needed_bounded r (Some false) = tt
needed_bounded r None = tt

chosen_bounded : (r : Running) (o : Option Bool) → Bounded r (chosen r o)
chosen_bounded r (Some true) = stays r
chosen_bounded r (Some false) = (omega arith, omega arith)
chosen_bounded r None = tt

does_bounded : (n : ℕ) (of : Operand → Value) (r : Running) (s : Step) → IsTrue (step_fits n s) → Bounded r (does_of of r s)
does_bounded n of r (step.Get into table row) h = got_bounded r into table (of row) (and_parts (is_register into) (operand_fits n row) h).0
does_bounded n of r (step.Put table row value) h = stored_bounded r table (of row) (of value)
does_bounded n of r (step.Del table row) h = stored_bounded r table (of row) Absent
does_bounded n of r (step.Add into left right) h = become_bounded r into (computed (λ a b. in_range (a +ℤ b)) (of left) (of right))
does_bounded n of r (step.Sub into left right) h = become_bounded r into (computed (λ a b. in_range (a -ℤ b)) (of left) (of right))
does_bounded n of r (step.Mul into left right) h = become_bounded r into (computed (λ a b. in_range (a *ℤ b)) (of left) (of right))
does_bounded n of r (step.Min into left right) h = become_bounded r into (computed (λ a b. Some (Int (smaller a b))) (of left) (of right))
does_bounded n of r (step.Max into left right) h = become_bounded r into (computed (λ a b. Some (Int (greater a b))) (of left) (of right))
does_bounded n of r (step.Cat into left right) h = become_bounded r into (joined (of left) (of right))
does_bounded n of r (step.Need left how right) h = needed_bounded r (holds how (of left) (of right))
does_bounded n of r (step.When left how right) h = chosen_bounded r (holds how (of left) (of right))
does_bounded n of r step.Done h = stays r
does_bounded n of r (step.Reply value) h = stays r

skipped_bounded : (k : ℕ) (s : Step) → skipped k s ≤ k + 1
skipped_bounded k (step.When left how right) = omega arith
skipped_bounded k step.Done = omega arith
skipped_bounded k _ = omega arith

pub action_bounded : (n : ℕ) (args : List Value) (r : Running) (s : Step) → IsTrue (step_fits n s) → Bounded r (action args r s)
action_bounded n args r s h = elim (nat_eq r.skips 0) as (λ t. Bounded r (cond t (does args r s) (Go (record r { skips = skipped r.skips s })))) [
  | true ↦ does_bounded n (value_of args r.registers) r s h
  | false ↦ (omega arith, skipped_bounded r.skips s)
]
