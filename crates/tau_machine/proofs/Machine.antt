-- A machine that asks again, and is given each time the value that was seen, comes to what the values seen say.
use Rattle.std.proofs.Common.{ℕ, ◌+◌, ◌≡◌, List, [], ◌∷◌, refl, ap, subst, ◌∙◌, Option}
use Rattle.std.specs.Prelude.{Some, None}
use Rattle.std.specs.Map.{lookup}
use Rattle.tau_base.specs.declared.value.Key.{Key}
use Rattle.tau_base.specs.declared.value.Value.{Value}
use Rattle.tau_proc.specs.declared.step.Step.{Step}
use Rattle.tau_proc.specs.declared.proc.Proc.{Proc}
use Rattle.tau_base.specs.declared.value.Call.{Call}
use Rattle.tau_base.specs.Database.{same_key}
use Rattle.tau_proc.specs.Meaning.{Running, Action, Go, Ask, Refuse, action, set_register, begun, Built, Puts, Adds, Gets, Wrong, built_in, proc_of, sum_with, added_writes, added_reply}
use Rattle.tau_proc.specs.declared.reply.Reply.TheVariants as reply
use Rattle.tau_proc.specs.Stage as given
use Rattle.tau_proc.specs.Stage.{values, Asked}
use Rattle.tau_machine.specs.Stage.{Stage, Wants, Ends, more, goes, stage_of, stage_in, stage_by, built_stage, stage}

-- the values given are those seen
abbrev pub Seen : List (Key × Value) → List (Key × Value) → Type 0
Seen seen [] = Unit {0}
Seen seen (r ∷ rs) = (lookup (same_key r.0) seen ≡ Some r.1) × Seen seen rs

-- what the machine has come to after it was given these reads, where the values seen have come to the same
abbrev pub Alike : List (Key × Value) → List (Key × Value) → given.Stage → Stage → Type 0
Alike seen rs (given.Wants k) s = lookup (same_key k) seen ≡ None → s ≡ Wants rs k
Alike seen rs (given.Ends ws reply) s = s ≡ Ends (record { reads = rs; writes = ws; reply = reply })

more_alike : (seen rs : List (Key × Value)) (k : Key) (v : Value) (m : given.Stage) (s : Stage) → Alike seen rs m s → Alike seen ((k, v) ∷ rs) m (more k v s)
more_alike seen rs k v (given.Wants key) s h = λ none. ap (more k v) (h none)
more_alike seen rs k v (given.Ends ws reply) s h = ap (more k v) h

goes_alike : (a : Action) (r : Running) (n : ℕ) (seen rs : List (Key × Value)) (there : Running → List Value → given.Stage) (then' : Running → Stage) →
    ((next : Running) (ls : List (Key × Value)) → Asked (there next) ls → Seen seen ls → Alike seen ls (there next (values ls)) (then' next)) →
    Asked (λ vs. given.given a r n vs there) rs → Seen seen rs → Alike seen rs (given.given a r n (values rs) there) (goes a r n seen then')
goes_alike (Go next) r n seen rs there then' h asked saw = h next rs asked saw
goes_alike (Ask key into) r n seen [] there then' h asked saw = λ none. rw none refl
goes_alike (Ask key into) r n seen (x ∷ rs) there then' h asked saw =
    let same : key ≡ x.0 = (let w = asked.0 in cc) in
    let found : lookup (same_key key) seen ≡ Some x.1 = ap (λ (k : Key). lookup (same_key k) seen) same ∙ saw.0 in
    let rest = h (set_register r into x.1) rs asked.1 saw.1 in
    rw found (subst (λ (k : Key). Alike seen ((k, x.1) ∷ rs) (there (set_register r into x.1) (values rs)) (more key x.1 (then' (set_register r into x.1)))) same
    (more_alike seen rs key x.1 (there (set_register r into x.1) (values rs)) (then' (set_register r into x.1)) rest))
goes_alike Refuse r n seen [] there then' h asked saw = refl
goes_alike Refuse r n seen (x ∷ rs) there then' h asked saw = let w = asked.0 in cc

run_alike : (args : List Value) (ss : List Step) (n : ℕ) (r : Running) (seen rs : List (Key × Value)) → Asked (given.stage_of args ss n r) rs → Seen seen rs →
    Alike seen rs (given.stage_of args ss n r (values rs)) (stage_of args ss n r seen)
unfolding given.stage_of stage_of
run_alike args [] n r seen [] asked saw = refl
run_alike args [] n r seen (x ∷ rs) asked saw = let w = asked.0 in cc
run_alike args (s ∷ ss) n r seen rs asked saw =
    goes_alike (action args r s) r n seen rs (λ next left. given.stage_of args ss (n + 1) next left) (λ next. stage_of args ss (n + 1) next seen)
    (λ next ls. run_alike args ss (n + 1) next seen ls) asked saw

built_alike : (b : Built) (seen rs : List (Key × Value)) → Asked (given.built_stage b) rs → Seen seen rs → Alike seen rs (given.built_stage b (values rs)) (built_stage b seen)
built_alike (Puts key v) seen [] asked saw = refl
built_alike (Puts key v) seen (x ∷ rs) asked saw = let w = asked.0 in cc
built_alike (Adds key n) seen [] asked saw = λ none. rw none refl
built_alike (Adds key n) seen (x ∷ []) asked saw =
    let same : key ≡ x.0 = (let w = asked.0 in cc) in
    let found : lookup (same_key key) seen ≡ Some x.1 = ap (λ (k : Key). lookup (same_key k) seen) same ∙ saw.0 in
    rw found (ap (λ (k : Key). Ends (record { reads = (k, x.1) ∷ []; writes = added_writes key (sum_with x.1 n); reply = added_reply (sum_with x.1 n) })) same)
built_alike (Adds key n) seen (x ∷ y ∷ rs) asked saw = let w = asked.1.0 in cc
built_alike (Gets key) seen [] asked saw = λ none. rw none refl
built_alike (Gets key) seen (x ∷ []) asked saw =
    let same : key ≡ x.0 = (let w = asked.0 in cc) in
    let found : lookup (same_key key) seen ≡ Some x.1 = ap (λ (k : Key). lookup (same_key k) seen) same ∙ saw.0 in
    rw found (ap (λ (k : Key). Ends (record { reads = (k, x.1) ∷ []; writes = []; reply = reply.Ok x.1 })) same)
built_alike (Gets key) seen (x ∷ y ∷ rs) asked saw = let w = asked.1.0 in cc
built_alike Wrong seen [] asked saw = refl
built_alike Wrong seen (x ∷ rs) asked saw = let w = asked.0 in cc

pub machine_alike : (procs : List Proc) (c : Call) (seen rs : List (Key × Value)) → Asked (given.stage procs c) rs → Seen seen rs → Alike seen rs (given.stage procs c (values rs)) (stage procs c seen)
machine_alike procs c seen rs = by' (built_in c)
  where
    none : (ls : List (Key × Value)) → Asked (given.stage_in None c) ls → Alike seen ls (given.stage_in None c (values ls)) (stage_in None c seen)
    none [] asked = refl
    none (x ∷ ls) asked = let w = asked.0 in cc

    at' : (p : Option Proc) → Asked (given.stage_in p c) rs → Seen seen rs → Alike seen rs (given.stage_in p c (values rs)) (stage_in p c seen)
    at' None asked saw = none rs asked
    at' (Some p) asked saw = run_alike c.args.items p.steps 1 begun seen rs asked saw

    by' : (b : Option Built) → Asked (given.stage_by b (proc_of procs c) c) rs → Seen seen rs →
        Alike seen rs (given.stage_by b (proc_of procs c) c (values rs)) (stage_by b (proc_of procs c) c seen)
    by' (Some b) asked saw = built_alike b seen rs asked saw
    by' None asked saw = at' (proc_of procs c) asked saw
