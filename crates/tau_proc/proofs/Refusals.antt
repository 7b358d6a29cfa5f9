-- A call that is refused writes nothing.
use Rattle.std.proofs.Common.{◌≡◌, ℕ, ◌+◌, List, [], ◌∷◌, refl, Option}
use Rattle.std.specs.Prelude.{Some, None}
use Rattle.tau_base.specs.declared.value.Value.{Value}
use Rattle.tau_base.specs.Database.{Db}
use Rattle.tau_proc.specs.declared.proc.Proc.{Proc}
use Rattle.tau_proc.specs.declared.reply.Reply.TheVariants.{Refused}
use Rattle.tau_proc.specs.declared.step.Step.{Step}
use Rattle.tau_proc.specs.Effect.{Effect}
use Rattle.tau_proc.specs.Meaning.{Running, Action, Go, Ask, Refuse, action, set_register, follow, run, begun, Built, Puts, Adds, Gets, Wrong, built_in, proc_of, effect_by, sum_with, added_writes, added_reply}
use Rattle.tau_proc.specs.Theorems.{RefusedWritesNothing}

abbrev Nothing : Effect → Type 0
Nothing e = (n : ℕ) → e.reply ≡ Refused n → e.writes ≡ []

follow_nothing : (a : Action) (r : Running) (n : ℕ) (db : Db) (rest : Running → Effect) → ((next : Running) → Nothing (rest next)) → Nothing (follow a r n db rest)
follow_nothing (Go next) r n db rest h = h next
follow_nothing (Ask key into) r n db rest h = h (set_register r into (db key))
follow_nothing Refuse r n db rest h = λ k e. refl

run_nothing : (args : List Value) (ss : List Step) (n : ℕ) (r : Running) (db : Db) → Nothing (run args ss n r db)
unfolding run
run_nothing args [] n r db = λ k e. cc
run_nothing args (s ∷ ss) n r db = follow_nothing (action args r s) r n db (λ next. run args ss (n + 1) next db) (λ next. run_nothing args ss (n + 1) next db)

pub refused_writes_nothing : RefusedWritesNothing
refused_writes_nothing procs c db = at (built_in c) (proc_of procs c)
  where
    at : (b : Option Built) (p : Option Proc) → Nothing (effect_by b p c db)
    at (Some (Puts key v)) p = λ k e. cc
    at (Some (Adds key n)) p = added (sum_with (db key) n)
      where
        added : (o : Option Value) → (k : ℕ) → added_reply o ≡ Refused k → added_writes key o ≡ []
        added None k e = refl
        added (Some v) k e = cc
    at (Some (Gets key)) p = λ k e. refl
    at (Some Wrong) p = λ k e. refl
    at None None = λ k e. refl
    at None (Some p) = run_nothing c.args.items p.steps 1 begun db
