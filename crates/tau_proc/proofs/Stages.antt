-- A call that is given what a database has ends as it means there, and wants just the keys that it reads there.
use Rattle.std.proofs.Common.{ℕ, ◌+◌, ◌≡◌, List, [], ◌∷◌, ◌++◌, refl, ap, subst, ◌∙◌, Option}
use Rattle.std.specs.Prelude.{Some, None}
use Rattle.tau_base.specs.declared.value.Key.{Key}
use Rattle.tau_base.specs.declared.value.Value.{Value}
use Rattle.tau_proc.specs.declared.step.Step.{Step}
use Rattle.tau_proc.specs.declared.proc.Proc.{Proc}
use Rattle.tau_base.specs.declared.value.Call.{Call}
use Rattle.tau_proc.specs.declared.reply.Reply.{Reply}
use Rattle.tau_proc.specs.declared.reply.Reply.TheVariants.{Ok, Refused}
use Rattle.tau_base.specs.Database.{Db}
use Rattle.tau_proc.specs.Effect.{Effect, Agrees}
use Rattle.tau_proc.specs.Meaning.{Running, Action, Go, Ask, Refuse, action, set_register, follow, run, begun, meaning, Built, Puts, Adds, Gets, Wrong, built_in, proc_of, effect_by, sum_with, added_writes, added_reply}
use Rattle.tau_proc.specs.Stage.{Stage, Wants, Ends, given, stage_of, built_stage, stage_by, stage, values, Asked}
use Rattle.tau_base.specs.declared.value.Value.TheVariants.{Absent}

follow_ends : (a : Action) (r : Running) (n : ℕ) (db : Db) (rest : Running → Effect) (there : Running → List Value → Stage) →
    ((next : Running) → there next (values (rest next).reads) ≡ Ends (rest next).writes (rest next).reply) →
    given a r n (values (follow a r n db rest).reads) there ≡ Ends (follow a r n db rest).writes (follow a r n db rest).reply
follow_ends (Go next) r n db rest there h = h next
follow_ends (Ask key into) r n db rest there h = h (set_register r into (db key))
follow_ends Refuse r n db rest there h = refl

run_ends : (args : List Value) (ss : List Step) (n : ℕ) (r : Running) (db : Db) →
    stage_of args ss n r (values (run args ss n r db).reads) ≡ Ends (run args ss n r db).writes (run args ss n r db).reply
unfolding run stage_of
run_ends args [] n r db = refl
run_ends args (s ∷ ss) n r db =
    follow_ends (action args r s) r n db (λ next. run args ss (n + 1) next db) (λ next left. stage_of args ss (n + 1) next left)
    (λ next. run_ends args ss (n + 1) next db)

-- the key that is wanted after some of the reads is that of the next one
follow_wants : (a : Action) (r : Running) (n : ℕ) (db : Db) (rest : Running → Effect) (there : Running → List Value → Stage) →
    ((next : Running) (front : List (Key × Value)) (read : Key × Value) (back : List (Key × Value)) → (rest next).reads ≡ front ++ read ∷ back → there next (values front) ≡ Wants read.0) →
    (front : List (Key × Value)) (read : Key × Value) (back : List (Key × Value)) → (follow a r n db rest).reads ≡ front ++ read ∷ back → given a r n (values front) there ≡ Wants read.0
follow_wants (Go next) r n db rest there h front read back e = h next front read back e
follow_wants (Ask key into) r n db rest there h [] read back e = let same : ◌≡◌ {A = Key × Value} (key, db key) read = cc in ap (λ (w : Key × Value). Wants w.0) same
follow_wants (Ask key into) r n db rest there h (f ∷ front) read back e =
    let same : ◌≡◌ {A = Key × Value} (key, db key) f = cc in
    let others : (rest (set_register r into (db key))).reads ≡ front ++ read ∷ back = cc in
    subst (λ (w : Key × Value). there (set_register r into w.1) (values front) ≡ Wants read.0) same (h (set_register r into (db key)) front read back others)
follow_wants Refuse r n db rest there h [] read back e = cc
follow_wants Refuse r n db rest there h (f ∷ front) read back e = cc

run_wants : (args : List Value) (ss : List Step) (n : ℕ) (r : Running) (db : Db) (front : List (Key × Value)) (read : Key × Value) (back : List (Key × Value)) →
    (run args ss n r db).reads ≡ front ++ read ∷ back → stage_of args ss n r (values front) ≡ Wants read.0
unfolding run stage_of
run_wants args [] n r db [] read back e = cc
run_wants args [] n r db (f ∷ front) read back e = cc
run_wants args (s ∷ ss) n r db front read back e =
    follow_wants (action args r s) r n db (λ next. run args ss (n + 1) next db) (λ next left. stage_of args ss (n + 1) next left)
    (λ next. run_wants args ss (n + 1) next db) front read back e

pub stage_ends : (procs : List Proc) (c : Call) (db : Db) → stage procs c (values (meaning procs c db).reads) ≡ Ends (meaning procs c db).writes (meaning procs c db).reply
stage_ends procs c db = at (built_in c) (proc_of procs c)
  where
    at : (b : Option Built) (p : Option Proc) → stage_by b p c (values (effect_by b p c db).reads) ≡ Ends (effect_by b p c db).writes (effect_by b p c db).reply
    at (Some (Puts key v)) p = refl
    at (Some (Adds key n)) p = refl
    at (Some (Gets key)) p = refl
    at (Some Wrong) p = refl
    at None None = refl
    at None (Some p) = run_ends c.args.items p.steps 1 begun db

too_long : {A : Type 0} (l : List A) (x : A) (back : List A) → [] ≡ l ++ x ∷ back → ⊥
too_long [] x back e = cc
too_long (y ∷ l) x back e = cc

pub stage_wants : (procs : List Proc) (c : Call) (db : Db) (front : List (Key × Value)) (read : Key × Value) (back : List (Key × Value)) →
    (meaning procs c db).reads ≡ front ++ read ∷ back → stage procs c (values front) ≡ Wants read.0
stage_wants procs c db front read back e = at (built_in c) (proc_of procs c) front e
  where
    at : (b : Option Built) (p : Option Proc) (l : List (Key × Value)) → (effect_by b p c db).reads ≡ l ++ read ∷ back → stage_by b p c (values l) ≡ Wants read.0
    at (Some (Puts key v)) p [] e = cc
    at (Some (Puts key v)) p (f ∷ l) e = cc
    at (Some (Adds key n)) p [] e = let same : ◌≡◌ {A = Key × Value} (key, db key) read = cc in ap (λ (w : Key × Value). Wants w.0) same
    at (Some (Adds key n)) p (f ∷ l) e = absurd (too_long l read back (let rest : [] ≡ l ++ read ∷ back = cc in rest))
    at (Some (Gets key)) p [] e = let same : ◌≡◌ {A = Key × Value} (key, db key) read = cc in ap (λ (w : Key × Value). Wants w.0) same
    at (Some (Gets key)) p (f ∷ l) e = absurd (too_long l read back (let rest : [] ≡ l ++ read ∷ back = cc in rest))
    at (Some Wrong) p [] e = cc
    at (Some Wrong) p (f ∷ l) e = cc
    at None None [] e = cc
    at None None (f ∷ l) e = cc
    at None (Some p) l e = run_wants c.args.items p.steps 1 begun db l read back e

-- the other way: a call that was given what the database has at the keys that it wanted, and ended, has its meaning there
follow_from : (a : Action) (r : Running) (n : ℕ) (db : Db) (rest : Running → Effect) (there : Running → List Value → Stage) →
    ((next : Running) (rs : List (Key × Value)) (ws : List (Key × Value)) (rep : Reply) → Asked (there next) rs → Agrees rs db → there next (values rs) ≡ Ends ws rep →
    rest next ≡ record { reads = rs; writes = ws; reply = rep }) →
    (rs : List (Key × Value)) (ws : List (Key × Value)) (rep : Reply) → Asked (λ vs. given a r n vs there) rs → Agrees rs db → given a r n (values rs) there ≡ Ends ws rep →
    follow a r n db rest ≡ record { reads = rs; writes = ws; reply = rep }
follow_from (Go next) r n db rest there h rs ws rep asked agrees e = h next rs ws rep asked agrees e
follow_from (Ask key into) r n db rest there h [] ws rep asked agrees e = cc
follow_from (Ask key into) r n db rest there h (x ∷ rs) ws rep asked agrees e =
    let wanted : key ≡ x.0 = (let w = asked.0 in cc) in
    let value : db key ≡ x.1 = ap db wanted ∙ agrees.0 in
    let is : rest (set_register r into x.1) ≡ record { reads = rs; writes = ws; reply = rep } = h (set_register r into x.1) rs ws rep asked.1 agrees.1 e in
    rw value (rw is (ap (λ (k : Key). record { reads = (k, x.1) ∷ rs; writes = ws; reply = rep }) wanted))
follow_from Refuse r n db rest there h [] ws rep asked agrees e =
    let w : [] ≡ ws = cc in let p : Refused n ≡ rep = cc in λ i. record { reads = []; writes = w i; reply = p i }
follow_from Refuse r n db rest there h (x ∷ rs) ws rep asked agrees e = let w = asked.0 in cc

run_from : (args : List Value) (ss : List Step) (n : ℕ) (r : Running) (db : Db) (rs : List (Key × Value)) (ws : List (Key × Value)) (rep : Reply) →
    Asked (stage_of args ss n r) rs → Agrees rs db → stage_of args ss n r (values rs) ≡ Ends ws rep → run args ss n r db ≡ record { reads = rs; writes = ws; reply = rep }
unfolding run stage_of
run_from args [] n r db [] ws rep asked agrees e = let w : r.writes ≡ ws = cc in let p : Ok r.reply ≡ rep = cc in λ i. record { reads = []; writes = w i; reply = p i }
run_from args [] n r db (x ∷ rs) ws rep asked agrees e = let w = asked.0 in cc
run_from args (s ∷ ss) n r db rs ws rep asked agrees e =
    follow_from (action args r s) r n db (λ next. run args ss (n + 1) next db) (λ next left. stage_of args ss (n + 1) next left)
    (λ next. run_from args ss (n + 1) next db) rs ws rep asked agrees e

pub meaning_from_stage : (procs : List Proc) (c : Call) (db : Db) (rs : List (Key × Value)) (ws : List (Key × Value)) (rep : Reply) →
    Asked (stage procs c) rs → Agrees rs db → stage procs c (values rs) ≡ Ends ws rep → meaning procs c db ≡ record { reads = rs; writes = ws; reply = rep }
meaning_from_stage procs c db rs ws rep = at (built_in c) (proc_of procs c) rs
  where
    none : (w : List (Key × Value)) (q : Reply) (l : List (Key × Value)) → Asked (λ vs. Ends w q) l → Ends w q ≡ Ends ws rep →
        ◌≡◌ {A = Effect} (record { reads = []; writes = w; reply = q }) (record { reads = l; writes = ws; reply = rep })
    none w q [] asked e = let a : w ≡ ws = cc in let b : q ≡ rep = cc in λ i. record { reads = []; writes = a i; reply = b i }
    none w q (x ∷ l) asked e = let z = asked.0 in cc

    -- one row is asked for
    one : (key : Key) (w : Value → List (Key × Value)) (q : Value → Reply) (rest : List Value → Stage) (l : List (Key × Value)) →
        rest [] ≡ Wants key → ((v : Value) (vs : List Value) → rest (v ∷ vs) ≡ Ends (w v) (q v)) → Asked rest l → Agrees l db → rest (values l) ≡ Ends ws rep →
        ◌≡◌ {A = Effect} (record { reads = (key, db key) ∷ []; writes = w (db key); reply = q (db key) }) (record { reads = l; writes = ws; reply = rep })
    one key w q rest [] first then' asked agrees e = cc
    one key w q rest (x ∷ []) first then' asked agrees e =
        let k : key ≡ x.0 = (let z = asked.0 in cc) in
        let v : db key ≡ x.1 = ap db k ∙ agrees.0 in
        let last = then' x.1 [] in
        let a : w x.1 ≡ ws = cc in let b : q x.1 ≡ rep = cc in
        rw v (λ i. record { reads = (k i, x.1) ∷ []; writes = a i; reply = b i })
    one key w q rest (x ∷ y ∷ l) first then' asked agrees e = let z = asked.1.0 in let last = then' x.1 [] in cc

    at : (b : Option Built) (p : Option Proc) (l : List (Key × Value)) → Asked (stage_by b p c) l → Agrees l db → stage_by b p c (values l) ≡ Ends ws rep →
        effect_by b p c db ≡ record { reads = l; writes = ws; reply = rep }
    at (Some (Puts key v)) p l asked agrees e = none ((key, v) ∷ []) (Ok Absent) l asked e
    at (Some (Adds key n)) p l asked agrees e =
        one key (λ v. added_writes key (sum_with v n)) (λ v. added_reply (sum_with v n)) (built_stage (Adds key n)) l refl (λ v vs. refl) asked agrees e
    at (Some (Gets key)) p l asked agrees e = one key (λ v. []) (λ v. Ok v) (built_stage (Gets key)) l refl (λ v vs. refl) asked agrees e
    at (Some Wrong) p l asked agrees e = none [] (Refused 0) l asked e
    at None None l asked agrees e = none [] (Refused 0) l asked e
    at None (Some p) l asked agrees e = run_from c.args.items p.steps 1 begun db l ws rep asked agrees e
