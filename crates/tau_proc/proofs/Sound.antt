-- The meaning of a call depends on the database at the keys that it reads alone.
use Rattle.std.proofs.Common.{ℕ, ◌+◌, ◌≡◌, List, [], ◌∷◌, refl, ap, Option}
use Rattle.std.specs.Prelude.{Some, None}
use Rattle.tau_base.specs.declared.value.Value.{Value}
use Rattle.tau_proc.specs.declared.step.Step.{Step}
use Rattle.tau_proc.specs.declared.proc.Proc.{Proc}
use Rattle.tau_base.specs.declared.value.Call.{Call}
use Rattle.tau_base.specs.Database.{Db}
use Rattle.tau_proc.specs.Effect.{Effect, Agrees, Sound}
use Rattle.tau_proc.specs.Meaning.{Running, Action, Go, Ask, Refuse, action, set_register, reading, follow, run, begun, meaning, Built, Puts, Adds, Gets, Wrong, built_in, proc_of, effect_by}

follow_seen : (a : Action) (r : Running) (n : ℕ) (db : Db) (rest : Running → Effect) → ((next : Running) → Agrees (rest next).reads db) →
    Agrees (follow a r n db rest).reads db
follow_seen (Go next) r n db rest h = h next
follow_seen (Ask key into) r n db rest h = (refl, h (set_register r into (db key)))
follow_seen Refuse r n db rest h = tt

follow_determined : (a : Action) (r : Running) (n : ℕ) (db other : Db) (rest there : Running → Effect) →
    ((next : Running) → Agrees (rest next).reads other → there next ≡ rest next) →
    Agrees (follow a r n db rest).reads other → follow a r n other there ≡ follow a r n db rest
follow_determined (Go next) r n db other rest there h seen = h next seen
follow_determined (Ask key into) r n db other rest there h seen =
    rw seen.0 (ap (reading key (db key)) (h (set_register r into (db key)) seen.1))
follow_determined Refuse r n db other rest there h seen = refl

-- what was read is what the database has
run_seen : (args : List Value) (ss : List Step) (n : ℕ) (r : Running) (db : Db) → Agrees (run args ss n r db).reads db
unfolding run
run_seen args [] n r db = tt
run_seen args (s ∷ ss) n r db = follow_seen (action args r s) r n db (λ next. run args ss (n + 1) next db) (λ next. run_seen args ss (n + 1) next db)

-- a database that has what was read gives the same
run_determined : (args : List Value) (ss : List Step) (n : ℕ) (r : Running) (db other : Db) → Agrees (run args ss n r db).reads other →
    run args ss n r other ≡ run args ss n r db
unfolding run
run_determined args [] n r db other h = refl
run_determined args (s ∷ ss) n r db other h =
    follow_determined (action args r s) r n db other (λ next. run args ss (n + 1) next db) (λ next. run args ss (n + 1) next other)
    (λ next seen. run_determined args ss (n + 1) next db other seen) h

pub meaning_sound : (procs : List Proc) → Sound (meaning procs)
meaning_sound procs = record {
  seen = λ c db. seen c db (built_in c) (proc_of procs c);
  determined = λ c db other. determined c db other (built_in c) (proc_of procs c);
}
  where
    seen : (c : Call) (db : Db) (b : Option Built) (p : Option Proc) → Agrees (effect_by b p c db).reads db
    seen c db (Some (Puts key v)) p = tt
    seen c db (Some (Adds key n)) p = (refl, tt)
    seen c db (Some (Gets key)) p = (refl, tt)
    seen c db (Some Wrong) p = tt
    seen c db None None = tt
    seen c db None (Some p) = run_seen c.args.items p.steps 1 begun db

    determined : (c : Call) (db other : Db) (b : Option Built) (p : Option Proc) → Agrees (effect_by b p c db).reads other → effect_by b p c other ≡ effect_by b p c db
    determined c db other (Some (Puts key v)) p h = refl
    determined c db other (Some (Adds key n)) p h = rw h.0
    determined c db other (Some (Gets key)) p h = rw h.0
    determined c db other (Some Wrong) p h = refl
    determined c db other None None h = refl
    determined c db other None (Some p) h = run_determined c.args.items p.steps 1 begun db other h
