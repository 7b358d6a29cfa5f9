-- A call names at most 64 keys.
use Rattle.std.proofs.Common.{ℕ, suc, ◌+◌, ◌≤◌, ◌<◌, ◌≡◌, List, [], ◌∷◌, length, refl, subst, arith, All}
use Rattle.std.specs.Prelude.{Some, None, Option, IsTrue, slice_get}
use Rattle.std.specs.List.{list_all}
use Rattle.std.proofs.lemmas.Bool.{and_parts}
use Rattle.std.proofs.lemmas.List.Elements.{All-get_or}
use Rattle.std.proofs.lemmas.Option.{get_or_from_slice_get, slice_get_within}
use Rattle.tau_base.specs.declared.value.Call.{Call}
use Rattle.tau_base.specs.declared.value.Key.{Key}
use Rattle.tau_base.specs.declared.value.Value.{Value}
use Rattle.tau_proc.specs.declared.proc.Proc.{Proc}
use Rattle.tau_proc.specs.declared.step.Step.{Step}
use Rattle.tau_proc.specs.Limits.{step_fits, IsWellFormed, KeepsLimits}
use Rattle.tau_proc.specs.Meaning.{Running, Action, Go, Ask, Refuse, action, set_register, begun, Built, Puts, Adds, Gets, Wrong, built_in, proc_of, sum_with, added_writes}
use Rattle.tau_proc.specs.Stage.{Stage, Wants, Ends, given, stage_of, stage_in, stage_by, built_stage, stage, values, Asked}
use Rattle.tau_proc.proofs.Bounds.{Bounded, action_bounded}

-- so many reads, with the steps that are left after them: each of these reads or writes at most one key more
abbrev pub Within : ℕ → ℕ → Stage → Type 0
Within reads most (Wants k) = reads < most
Within reads most (Ends ws reply) = reads + length ws ≤ most

within_more : (reads most : ℕ) (s : Stage) → Within reads most s → Within (suc reads) (suc most) s
within_more reads most (Wants k) h = omega (arith, h)
within_more reads most (Ends ws reply) h = omega (arith, h)

within_less : (reads most least : ℕ) (s : Stage) → least ≤ most → Within reads least s → Within reads most s
within_less reads most least (Wants k) le h = omega (arith, le, h)
within_less reads most least (Ends ws reply) le h = omega (arith, le, h)

given_within : (a : Action) (r : Running) (n left : ℕ) (rs : List (Key × Value)) (there : Running → List Value → Stage) → Bounded r a →
    ((next : Running) (ls : List (Key × Value)) → Asked (there next) ls → Within (length ls) (length next.writes + left) (there next (values ls))) →
    Asked (λ vs. given a r n vs there) rs → Within (length rs) (length r.writes + suc left) (given a r n (values rs) there)
given_within (Go next) r n left rs there bounded h asked =
    within_less (length rs) (length r.writes + suc left) (length next.writes + left) (there next (values rs)) (let b = bounded.0 in omega (arith, b)) (h next rs asked)
given_within (Ask key into) r n left [] there bounded h asked = omega arith
given_within (Ask key into) r n left (x ∷ rs) there bounded h asked =
    within_less (suc (length rs)) (length r.writes + suc left) (suc (length r.writes + left)) (there (set_register r into x.1) (values rs)) (omega arith)
    (within_more (length rs) (length r.writes + left) (there (set_register r into x.1) (values rs)) (h (set_register r into x.1) rs asked.1))
given_within Refuse r n left [] there bounded h asked = omega arith
given_within Refuse r n left (x ∷ rs) there bounded h asked = let w = asked.0 in cc

run_within : (args : List Value) (most : ℕ) (ss : List Step) (n : ℕ) (r : Running) (rs : List (Key × Value)) → IsTrue (list_all (step_fits most) ss) →
    Asked (stage_of args ss n r) rs → Within (length rs) (length r.writes + length ss) (stage_of args ss n r (values rs))
unfolding stage_of
run_within args most [] n r [] fits asked = omega arith
run_within args most [] n r (x ∷ rs) fits asked = let w = asked.0 in cc
run_within args most (s ∷ ss) n r rs fits asked =
    let parts = and_parts (step_fits most s) (list_all (step_fits most) ss) fits in
    given_within (action args r s) r n (length ss) rs (λ next left. stage_of args ss (n + 1) next left) (action_bounded most args r s parts.0)
    (λ next ls. run_within args most ss (n + 1) next ls parts.1) asked

pub added_few : (key : Key) (o : Option Value) → length (added_writes key o) ≤ 1
added_few key None = omega arith
added_few key (Some v) = omega arith

built_within : (b : Built) (rs : List (Key × Value)) → Asked (built_stage b) rs → Within (length rs) 64 (built_stage b (values rs))
built_within (Puts key v) [] asked = omega arith
built_within (Puts key v) (x ∷ rs) asked = let w = asked.0 in cc
built_within (Adds key n) [] asked = omega arith
built_within (Adds key n) (x ∷ []) asked = omega (arith, added_few key (sum_with x.1 n))
built_within (Adds key n) (x ∷ y ∷ rs) asked = let w = asked.1.0 in cc
built_within (Gets key) [] asked = omega arith
built_within (Gets key) (x ∷ []) asked = omega arith
built_within (Gets key) (x ∷ y ∷ rs) asked = let w = asked.1.0 in cc
built_within Wrong [] asked = omega arith
built_within Wrong (x ∷ rs) asked = let w = asked.0 in cc

none_within : (c : Call) (rs : List (Key × Value)) → Asked (stage_in None c) rs → Within (length rs) 64 (stage_in None c (values rs))
none_within c [] asked = omega arith
none_within c (x ∷ rs) asked = let w = asked.0 in cc

well_formed_at : (procs : List Proc) (i : ℕ) (p : Proc) → All IsWellFormed procs → slice_get procs i ≡ Some p → IsWellFormed p
well_formed_at procs i p all at = subst IsWellFormed (get_or_from_slice_get procs i p p at) (All-get_or IsWellFormed procs i p (slice_get_within procs i p at) all)

pub stage_within : (procs : List Proc) (c : Call) (rs : List (Key × Value)) → KeepsLimits procs → Asked (stage procs c) rs → Within (length rs) 64 (stage procs c (values rs))
stage_within procs c rs limits = by (built_in c)
  where
    of_proc : (p : Option Proc) → proc_of procs c ≡ p → Asked (stage_in p c) rs → Within (length rs) 64 (stage_in p c (values rs))
    of_proc None e asked = none_within c rs asked
    of_proc (Some p) e asked =
        let well : IsWellFormed p = well_formed_at procs _ p limits.each e in
        within_less (length rs) 64 (0 + length p.steps) (stage_in (Some p) c (values rs)) (let s = well.steps in omega (arith, s)) (run_within c.args.items p.args p.steps 1 begun rs well.names asked)

    by : (b : Option Built) → Asked (stage_by b (proc_of procs c) c) rs → Within (length rs) 64 (stage_by b (proc_of procs c) c (values rs))
    by (Some b) asked = built_within b rs asked
    by None asked = of_proc (proc_of procs c) refl asked
