-- Calls that name declared tables alone write no others.
use Rattle.std.proofs.Common.{ℕ, ◌+◌, ◌-◌, Bool, true, false, ◌≡◌, inl, inr, List, [], ◌∷◌, refl, ap, subst, ◌∙◌}
use Rattle.std.specs.Prelude.{Option, Some, None, slice_get, ◌==◌, if◌then◌else◌, nat_abs, nat_lt}
use Rattle.std.specs.List.{list_all}
use Rattle.std.specs.FinMap.{put}
use Rattle.std.specs.FinMap.Entries.{by_order}
use Rattle.std.specs.Map.{lookup}
use Rattle.std.specs.declared.cmp.Ordering.TheVariants.{Less, Equal, Greater}
use Rattle.std.proofs.lemmas.Bool.{cases_Bool, and_parts, and_from, eqb-true}
use Rattle.tau_base.specs.declared.value.Key.{Key}
use Rattle.tau_base.specs.declared.value.Call.{Call}
use Rattle.tau_base.specs.declared.value.Value.{Value}
use Rattle.tau_base.specs.declared.value.Value.TheVariants.{Absent, Int, Text}
use Rattle.tau_base.specs.Database.{Db, key_cmp, same_key}
use Rattle.tau_proc.specs.declared.proc.Proc.{Proc}
use Rattle.tau_proc.specs.declared.procs.TheConstants.{PUT, ADD, GET, DEL, FIRST_DECLARED}
use Rattle.tau_proc.specs.declared.step.Step.{Step}
use Rattle.tau_proc.specs.declared.step.Step.TheVariants as step
use Rattle.tau_proc.specs.declared.step.Operand.{Operand}
use Rattle.tau_proc.specs.Effect.{Effect}
use Rattle.tau_proc.specs.Meaning.{Running, begun, value_of, Action, Go, Ask, Refuse, set_register, become, read_at, got, stored, needed, chosen, does_of, action, skipped, follow, run, puts, adds, gets, dels, built_effect, sum_with, added_writes, run_of, proc_of, meaning}
use Rattle.tau_text.specs.declared.load.Declarations.{Declarations}
use Rattle.tau_scan.specs.Reading.{has_table, has_row, names_table, is_of_table}
use Rattle.tau_run.specs.CoreRun.{step_named}

module _ (d : Declarations) where
  abbrev Named : List (Key × Value) → Type 0
  Named ws = list_all (has_row d) ws ≡ true

  put_named : (key : Key) (v : Value) (ws : List (Key × Value)) → has_table d key.table ≡ true → Named ws → Named (put key_cmp key v ws)
  put_named key v [] e h = and_from (has_table d key.table) true e refl
  put_named key v (w ∷ ws) e h =
      let p = and_parts (has_row d w) (list_all (has_row d) ws) h in
      let rest = put_named key v ws e p.1 in
      elim (key_cmp key w.0) as (λ o. list_all (has_row d) (by_order o ((key, v) ∷ w ∷ ws) ((w.0, v) ∷ ws) (w ∷ put key_cmp key v ws)) ≡ true) [
        | Less ↦ and_from (has_table d key.table) (list_all (has_row d) (w ∷ ws)) e h
        | Equal ↦ and_from (has_table d w.0.table) (list_all (has_row d) ws) p.0 p.1
        | Greater ↦ and_from (has_row d w) (list_all (has_row d) (put key_cmp key v ws)) p.0 rest
      ]

  abbrev NamedAction : Action → Type 0
  NamedAction (Go r) = Named r.writes
  NamedAction (Ask key into) = Unit {0}
  NamedAction Refuse = Unit {0}

  become_named : (r : Running) (into : ℕ) (o : Option Value) → Named r.writes → NamedAction (become r into o)
  become_named r into (Some v) h = h
  become_named r into None h = tt

  read_named : (r : Running) (into : ℕ) (key : Key) (o : Option Value) → Named r.writes → NamedAction (read_at r into key o)
  read_named r into key (Some v) h = h
  read_named r into key None h = tt

  got_named : (r : Running) (into table : ℕ) (v : Value) → Named r.writes → NamedAction (got r into table v)
  got_named r into table (Int row) h = read_named r into (record { table = table; row = row }) (lookup (same_key (record { table = table; row = row })) r.writes) h
  got_named r into table Absent h = tt
  got_named r into table (Text t) h = tt

  stored_named : (r : Running) (table : ℕ) (row v : Value) → has_table d table ≡ true → Named r.writes → NamedAction (stored r table row v)
  stored_named r table (Int row) v e h = put_named (record { table = table; row = row }) v r.writes e h
  stored_named r table Absent v e h = tt
  stored_named r table (Text t) v e h = tt

  needed_named : (r : Running) (o : Option Bool) → Named r.writes → NamedAction (needed r o)
  needed_named r (Some true) h = h
  needed_named r (Some false) h = tt
  needed_named r None h = tt

  chosen_named : (r : Running) (o : Option Bool) → Named r.writes → NamedAction (chosen r o)
  chosen_named r (Some true) h = h
  chosen_named r (Some false) h = h
  chosen_named r None h = tt

  does_named : (of : Operand → Value) (r : Running) (s : Step) → step_named d s ≡ true → Named r.writes → NamedAction (does_of of r s)
  does_named of r (step.Get into table row) e h = got_named r into table (of row) h
  does_named of r (step.Put table row value) e h = stored_named r table (of row) (of value) e h
  does_named of r (step.Del table row) e h = stored_named r table (of row) Absent e h
  does_named of r (step.Add into left right) e h = become_named r into _ h
  does_named of r (step.Sub into left right) e h = become_named r into _ h
  does_named of r (step.Mul into left right) e h = become_named r into _ h
  does_named of r (step.Min into left right) e h = become_named r into _ h
  does_named of r (step.Max into left right) e h = become_named r into _ h
  does_named of r (step.Cat into left right) e h = become_named r into _ h
  does_named of r (step.Need left how right) e h = needed_named r _ h
  does_named of r (step.When left how right) e h = chosen_named r _ h
  does_named of r step.Done e h = h
  does_named of r (step.Reply value) e h = h

  action_named : (args : List Value) (r : Running) (s : Step) → step_named d s ≡ true → Named r.writes → NamedAction (action args r s)
  action_named args r s e h = by_test (r.skips == 0)
    where
      by_test : (b : Bool) → NamedAction (if b then does_of (value_of args r.registers) r s else Go (record r { skips = skipped r.skips s }))
      by_test true = does_named (value_of args r.registers) r s e h
      by_test false = h

  follow_named : (a : Action) (r : Running) (n : ℕ) (db : Db) (rest : Running → Effect) → NamedAction a → Named r.writes → ((next : Running) → Named next.writes → Named (rest next).writes) → Named (follow a r n db rest).writes
  follow_named (Go next) r n db rest a h f = f next a
  follow_named (Ask key into) r n db rest a h f = f (set_register r into (db key)) h
  follow_named Refuse r n db rest a h f = refl

  run_named : (args : List Value) (steps : List Step) (n : ℕ) (r : Running) (db : Db) → list_all (step_named d) steps ≡ true → Named r.writes → Named (run args steps n r db).writes
  unfolding run
  run_named args [] n r db e h = h
  run_named args (s ∷ steps) n r db e h =
      let p = and_parts (step_named d s) (list_all (step_named d) steps) e in
      follow_named (action args r s) r n db (λ next. run args steps (n + 1) next db) (action_named args r s p.0 h) h (λ next g. run_named args steps (n + 1) next db p.1 g)

  puts_named : (args : List Value) (db : Db) → names_table d args ≡ true → Named (built_effect (puts args) db).writes
  puts_named (Int table ∷ Int row ∷ v ∷ []) db e = and_from (has_table d (nat_abs table)) true e refl
  puts_named _ db e = refl

  dels_named : (args : List Value) (db : Db) → names_table d args ≡ true → Named (built_effect (dels args) db).writes
  dels_named (Int table ∷ Int row ∷ []) db e = and_from (has_table d (nat_abs table)) true e refl
  dels_named _ db e = refl

  gets_named : (args : List Value) (db : Db) → Named (built_effect (gets args) db).writes
  gets_named (Int table ∷ Int row ∷ []) db = refl
  gets_named _ db = refl

  sum_named : (key : Key) (o : Option Value) → has_table d key.table ≡ true → Named (added_writes key o)
  sum_named key (Some v) e = and_from (has_table d key.table) true e refl
  sum_named key None e = refl

  adds_named : (args : List Value) (db : Db) → names_table d args ≡ true → Named (built_effect (adds args) db).writes
  adds_named (Int table ∷ Int row ∷ Int n ∷ []) db e = sum_named (record { table = nat_abs table; row = row }) (sum_with (db (record { table = nat_abs table; row = row })) n) e
  adds_named _ db e = refl

  proc_named : (procs : List Proc) (c : Call) (db : Db) → ((i : ℕ) (p : Proc) → slice_get procs i ≡ Some p → list_all (step_named d) p.steps ≡ true) → Named (run_of (proc_of procs c) c db).writes
  proc_named procs c db all = by_proc (proc_of procs c) refl
    where
      by_proc : (o : Option Proc) → proc_of procs c ≡ o → Named (run_of o c db).writes
      by_proc None e = refl
      by_proc (Some p) e = run_named c.args.items p.steps 1 begun db (all (c.proc - FIRST_DECLARED) p e) refl

  of_table : (c : Call) (k : ℕ) → c.proc ≡ k → nat_lt k FIRST_DECLARED ≡ true → is_of_table d c ≡ true → names_table d c.args.items ≡ true
  of_table c k e low h =
      let test : nat_lt c.proc FIRST_DECLARED ≡ true = ap (λ (i : ℕ). nat_lt i FIRST_DECLARED) e ∙ low in
      subst (λ (b : Bool). (if b then names_table d c.args.items else true) ≡ true) test h

  pub call_named : (procs : List Proc) (c : Call) (db : Db) → ((i : ℕ) (p : Proc) → slice_get procs i ≡ Some p → list_all (step_named d) p.steps ≡ true) → is_of_table d c ≡ true → Named (meaning procs c db).writes
  call_named procs c db all h = elim (cases_Bool (c.proc == PUT)) [
    | inl a ↦ rw a (puts_named c.args.items db (of_table c PUT (eqb-true c.proc PUT a) refl h))
    | inr a ↦ rw a (elim (cases_Bool (c.proc == ADD)) [
      | inl b ↦ rw b (adds_named c.args.items db (of_table c ADD (eqb-true c.proc ADD b) refl h))
      | inr b ↦ rw b (elim (cases_Bool (c.proc == GET)) [
        | inl e ↦ rw e (gets_named c.args.items db)
        | inr e ↦ rw e (elim (cases_Bool (c.proc == DEL)) [
          | inl f ↦ rw f (dels_named c.args.items db (of_table c DEL (eqb-true c.proc DEL f) refl h))
          | inr f ↦ rw f (proc_named procs c db all)
        ])
      ])
    ])
  ]
