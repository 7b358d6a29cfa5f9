-- What is known of the workload that a text means: its calls and its steps name declared tables alone.
use Rattle.std.proofs.Common.{ℕ, zero, suc, ◌+◌, ◌<◌, ◌≡◌, Bool, true, false, cond, List, [], ◌∷◌, ◌++◌, length, Option, Some, Ok, bytes_eq, refl, ap, subst, ◌∙◌, arith}
use Rattle.std.specs.Prelude.{nat_lt, slice_get, if◌then◌else◌}
use Rattle.std.specs.List.{list_all}
use Rattle.std.proofs.lemmas.Bool.{and_from}
use Rattle.std.proofs.lemmas.Grind.{common_steps}
use Rattle.tau_base.specs.declared.value.Call.{Call}
use Rattle.tau_base.specs.declared.value.Value.{Value}
use Rattle.tau_base.specs.declared.value.Value.TheVariants.{Int}
use Rattle.tau_proc.specs.declared.proc.Proc.{Proc}
use Rattle.tau_proc.specs.declared.procs.TheConstants.{PUT, ADD, GET, DEL, FIRST_DECLARED}
use Rattle.tau_proc.specs.declared.step.Operand.{Operand}
use Rattle.tau_proc.specs.declared.step.Step.{Step}
use Rattle.tau_proc.specs.declared.step.Step.TheVariants as step
use Rattle.tau_proc.specs.Takes.{takes}
use Rattle.tau_text.specs.declared.load.Declarations.{Declarations}
use Rattle.tau_text.specs.declared.load.Workload.{Workload}
use Rattle.tau_text.specs.declared.heads.Head.{Head}
use Rattle.tau_text.specs.declared.heads.Head.TheVariants as heads
use Rattle.tau_text.specs.declared.heads.StepHead.{StepHead}
use Rattle.tau_text.specs.declared.heads.StepHead.TheVariants as inner
use Rattle.tau_text.specs.declared.fault.TextCause.TheVariants.{BadStep, UnknownName}
use Rattle.tau_text.specs.Given.{or_else}
use Rattle.tau_text.specs.Spelled.{first, ended, whole, literal, name, place_from, known, register, operand}
use Rattle.tau_text.specs.Forms.{get_words, put_words, del_words, sum_words, test_words, reply_words, step_line, with_step, number_value, call_of, key_words, put_call, add_call, key_call, names_of, literals, args_at, proc_call}
use Rattle.tau_text.specs.Text.{workload_of}
use Rattle.tau_text_laws.proofs.Unique.{was_some}
use Rattle.tau_text_laws.proofs.MoreTables.{one_step}
use Rattle.tau_text_laws.proofs.PartsTold.{StepsTold, last_step, ProcsTold, call_read, CallsTold}
use Rattle.tau_text_laws.proofs.Law.{source, load_of, declarations_read, declarations_fit}
use Rattle.tau_text_laws.proofs.Ranges.{declarations_bytes}
use Rattle.tau_scan.specs.Reading.{has_table, names_table, is_of_table}
use Rattle.tau_run.specs.CoreRun.{step_named, IsSoundLoad}
use Rattle.tau_run.proofs.Reading.{IsCatalogue}
use Rattle.tau_text.proofs.Binds.{bind_ok}

-- ---- a name that is known

low_step : (t : Bool) (k i long : ℕ) (o : Option ℕ) → (o ≡ Some i → i < (k + 1) + long) → cond t (Some k) o ≡ Some i → i < k + suc long
low_step true k i long o h e = let same : k ≡ i = cc in omega (arith, same)
low_step false k i long o h e = let lt = h e in omega (arith, lt)

place_low : (k i : ℕ) (w : List ℕ) (names : List (List ℕ)) → place_from k w names ≡ Some i → i < k + length names
unfolding place_from
place_low k i w [] e = absurd cc
place_low k i w (n ∷ ns) e = low_step (bytes_eq n w) k i (length ns) (place_from (k + 1) w ns) (λ f. place_low (k + 1) i w ns f) e

known_low : (names : List (List ℕ)) (w : List ℕ) (i : ℕ) → known names w ≡ Ok i → nat_lt i (length names) ≡ true
unfolding known
known_low names w i e =
    let p = bind_ok (name w) _ i e in
    let lt = place_low 0 i p.0 names (was_some UnknownName (place_from 0 p.0 names) i p.2) in
    grind (arith, common_steps)

-- ---- steps

get_named : (d : Declarations) (args : ℕ) (ws : List (List ℕ)) (x : ℕ × ℕ × Operand) → get_words d.tables args ws ≡ Ok x → has_table d x.1 ≡ true
unfolding get_words
get_named d args ws x e =
    let a = bind_ok (first ws) _ x e in
    let b = bind_ok (or_else BadStep (register a.0.0)) _ x a.2 in
    let t = bind_ok (first a.0.1) _ x b.2 in
    let table = bind_ok (known d.tables t.0.0) _ x t.2 in
    let o = bind_ok (first t.0.1) _ x table.2 in
    let row = bind_ok (operand args o.0.0) _ x o.2 in
    let end = bind_ok (ended o.0.1) _ x row.2 in
    let same : (b.0, table.0, row.0) ≡ x = cc end.2 in
    subst (λ (y : ℕ × ℕ × Operand). has_table d y.1 ≡ true) same (known_low d.tables t.0.0 table.0 table.1)

put_named : (d : Declarations) (args : ℕ) (ws : List (List ℕ)) (x : ℕ × Operand × Operand) → put_words d.tables args ws ≡ Ok x → has_table d x.0 ≡ true
unfolding put_words
put_named d args ws x e =
    let t = bind_ok (first ws) _ x e in
    let table = bind_ok (known d.tables t.0.0) _ x t.2 in
    let o = bind_ok (first t.0.1) _ x table.2 in
    let row = bind_ok (operand args o.0.0) _ x o.2 in
    let v = bind_ok (first o.0.1) _ x row.2 in
    let value = bind_ok (operand args v.0.0) _ x v.2 in
    let end = bind_ok (ended v.0.1) _ x value.2 in
    let same : (table.0, row.0, value.0) ≡ x = cc end.2 in
    subst (λ (y : ℕ × Operand × Operand). has_table d y.0 ≡ true) same (known_low d.tables t.0.0 table.0 table.1)

del_named : (d : Declarations) (args : ℕ) (ws : List (List ℕ)) (x : ℕ × Operand) → del_words d.tables args ws ≡ Ok x → has_table d x.0 ≡ true
unfolding del_words
del_named d args ws x e =
    let t = bind_ok (first ws) _ x e in
    let table = bind_ok (known d.tables t.0.0) _ x t.2 in
    let o = bind_ok (first t.0.1) _ x table.2 in
    let row = bind_ok (operand args o.0.0) _ x o.2 in
    let end = bind_ok (ended o.0.1) _ x row.2 in
    let same : (table.0, row.0) ≡ x = cc end.2 in
    subst (λ (y : ℕ × Operand). has_table d y.0 ≡ true) same (known_low d.tables t.0.0 table.0 table.1)

line_named : (d : Declarations) (args : ℕ) (h : StepHead) (ws : List (List ℕ)) (x : Step) → step_line d.tables args h ws ≡ Ok x → step_named d x ≡ true
unfolding step_line
line_named d args inner.Get ws x e =
    let p = bind_ok (get_words d.tables args ws) _ x e in
    let same : step.Get p.0.0 p.0.1 p.0.2 ≡ x = cc p.2 in
    subst (λ (y : Step). step_named d y ≡ true) same (get_named d args ws p.0 p.1)
line_named d args inner.Put ws x e =
    let p = bind_ok (put_words d.tables args ws) _ x e in
    let same : step.Put p.0.0 p.0.1 p.0.2 ≡ x = cc p.2 in
    subst (λ (y : Step). step_named d y ≡ true) same (put_named d args ws p.0 p.1)
line_named d args inner.Del ws x e =
    let p = bind_ok (del_words d.tables args ws) _ x e in
    let same : step.Del p.0.0 p.0.1 ≡ x = cc p.2 in
    subst (λ (y : Step). step_named d y ≡ true) same (del_named d args ws p.0 p.1)
line_named d args inner.Add ws x e = (let p = bind_ok (sum_words args ws) _ x e in subst (λ (y : Step). step_named d y ≡ true) (let same : step.Add p.0.0 p.0.1 p.0.2 ≡ x = cc p.2 in same) refl)
line_named d args inner.Sub ws x e = (let p = bind_ok (sum_words args ws) _ x e in subst (λ (y : Step). step_named d y ≡ true) (let same : step.Sub p.0.0 p.0.1 p.0.2 ≡ x = cc p.2 in same) refl)
line_named d args inner.Mul ws x e = (let p = bind_ok (sum_words args ws) _ x e in subst (λ (y : Step). step_named d y ≡ true) (let same : step.Mul p.0.0 p.0.1 p.0.2 ≡ x = cc p.2 in same) refl)
line_named d args inner.Min ws x e = (let p = bind_ok (sum_words args ws) _ x e in subst (λ (y : Step). step_named d y ≡ true) (let same : step.Min p.0.0 p.0.1 p.0.2 ≡ x = cc p.2 in same) refl)
line_named d args inner.Max ws x e = (let p = bind_ok (sum_words args ws) _ x e in subst (λ (y : Step). step_named d y ≡ true) (let same : step.Max p.0.0 p.0.1 p.0.2 ≡ x = cc p.2 in same) refl)
line_named d args inner.Cat ws x e = (let p = bind_ok (sum_words args ws) _ x e in subst (λ (y : Step). step_named d y ≡ true) (let same : step.Cat p.0.0 p.0.1 p.0.2 ≡ x = cc p.2 in same) refl)
line_named d args inner.Need ws x e = (let p = bind_ok (test_words args ws) _ x e in subst (λ (y : Step). step_named d y ≡ true) (let same : step.Need p.0.0 p.0.1 p.0.2 ≡ x = cc p.2 in same) refl)
line_named d args inner.When ws x e = (let p = bind_ok (test_words args ws) _ x e in subst (λ (y : Step). step_named d y ≡ true) (let same : step.When p.0.0 p.0.1 p.0.2 ≡ x = cc p.2 in same) refl)
line_named d args inner.Done ws x e = (let p = bind_ok (ended ws) _ x e in subst (λ (y : Step). step_named d y ≡ true) (let same : step.Done ≡ x = cc p.2 in same) refl)
line_named d args inner.Reply ws x e = (let p = bind_ok (reply_words args ws) _ x e in subst (λ (y : Step). step_named d y ≡ true) (let same : step.Reply p.0 ≡ x = cc p.2 in same) refl)
line_named d args inner.End ws x e = absurd cc

steps_named : (d : Declarations) (p : Proc) (depth f : ℕ) (xs : List Step) → StepsTold d.tables p depth f xs → list_all (step_named d) xs ≡ true
steps_named d p depth f [] h = refl
steps_named d p depth f (x ∷ xs) h =
    let o = one_step d.tables p (with_step p x) h.1.head h.1.words h.1.added in
    let here : step_named d x ≡ true = subst (λ (y : Step). step_named d y ≡ true) (last_step p x o.0 o.2) (line_named d p.args h.1.head h.1.words o.0 o.1) in
    and_from (step_named d x) (list_all (step_named d) xs) here (steps_named d (with_step p x) h.0 f xs h.2)

procs_named : (d : Declarations) (before ps : List Proc) → ProcsTold d.tables before ps → (i : ℕ) (p : Proc) → slice_get ps i ≡ Some p → list_all (step_named d) p.steps ≡ true
procs_named d before [] h i p e = absurd cc
procs_named d before (q ∷ ps) h zero p e =
    let same : q ≡ p = cc e in
    subst (λ (r : Proc). list_all (step_named d) r.steps ≡ true) same (steps_named d (record q { steps = [] }) 0 0 q.steps h.0.steps)
procs_named d before (q ∷ ps) h (suc i) p e = procs_named d (before ++ q ∷ []) ps h.1 i p e

-- ---- calls

key_named : (d : Declarations) (ws : List (List ℕ)) (k : List Value × List (List ℕ)) → key_words d.tables ws ≡ Ok k → (more : List Value) → names_table d (k.0 ++ more) ≡ true
unfolding key_words
key_named d ws k e more =
    let t = bind_ok (first ws) _ k e in
    let table = bind_ok (known d.tables t.0.0) _ k t.2 in
    let w = bind_ok (first t.0.1) _ k table.2 in
    let row = bind_ok (whole w.0.0) _ k w.2 in
    let same : (number_value table.0 ∷ Int row.0 ∷ [], w.0.1) ≡ k = cc row.2 in
    subst (λ (y : List Value × List (List ℕ)). names_table d (y.0 ++ more) ≡ true) same (known_low d.tables t.0.0 table.0 table.1)

no_more : (xs : List Value) → xs ++ [] ≡ xs
no_more [] = refl
no_more (x ∷ xs) = ap (λ (ys : List Value). x ∷ ys) (no_more xs)

put_call_named : (d : Declarations) (ws : List (List ℕ)) (a : List Value) → put_call d.tables ws ≡ Ok a → names_table d a ≡ true
unfolding put_call
put_call_named d ws a e =
    let k = bind_ok (key_words d.tables ws) _ a e in
    let w = bind_ok (first k.0.1) _ a k.2 in
    let v = bind_ok (literal w.0.0) _ a w.2 in
    let end = bind_ok (ended w.0.1) _ a v.2 in
    let same : k.0.0 ++ v.0 ∷ [] ≡ a = cc end.2 in
    subst (λ (y : List Value). names_table d y ≡ true) same (key_named d ws k.0 k.1 (v.0 ∷ []))

add_call_named : (d : Declarations) (ws : List (List ℕ)) (a : List Value) → add_call d.tables ws ≡ Ok a → names_table d a ≡ true
unfolding add_call
add_call_named d ws a e =
    let k = bind_ok (key_words d.tables ws) _ a e in
    let w = bind_ok (first k.0.1) _ a k.2 in
    let n = bind_ok (whole w.0.0) _ a w.2 in
    let end = bind_ok (ended w.0.1) _ a n.2 in
    let same : k.0.0 ++ Int n.0 ∷ [] ≡ a = cc end.2 in
    subst (λ (y : List Value). names_table d y ≡ true) same (key_named d ws k.0 k.1 (Int n.0 ∷ []))

key_call_named : (d : Declarations) (ws : List (List ℕ)) (a : List Value) → key_call d.tables ws ≡ Ok a → names_table d a ≡ true
unfolding key_call
key_call_named d ws a e =
    let k = bind_ok (key_words d.tables ws) _ a e in
    let end = bind_ok (ended k.0.1) _ a k.2 in
    let same : k.0.0 ≡ a = cc end.2 in
    subst (λ (y : List Value). names_table d y ≡ true) (no_more k.0.0 ∙ same) (key_named d ws k.0 k.1 [])

proc_call_named : (d : Declarations) (ps : List Proc) (ws : List (List ℕ)) (c : Call) → proc_call ps ws ≡ Ok c → is_of_table d c ≡ true
unfolding proc_call
proc_call_named d ps ws c e =
    let a = bind_ok (first ws) _ c e in
    let b = bind_ok (known (names_of ps) a.0.0) _ c a.2 in
    let l = bind_ok (literals (args_at b.0 ps) a.0.1) _ c b.2 in
    let end = bind_ok (ended l.0.1) _ c l.2 in
    let same : call_of (FIRST_DECLARED + b.0) l.0.0 ≡ c = cc end.2 in
    let high : nat_lt (FIRST_DECLARED + b.0) FIRST_DECLARED ≡ false = grind (arith, common_steps) in
    subst (λ (y : Call). is_of_table d y ≡ true) same (ap (λ (t : Bool). if t then names_table d l.0.0 else true) high)

read_named : (d : Declarations) (ps : List Proc) (k : Head) (ws : List (List ℕ)) (c : Call) → call_read d.tables ps k ws ≡ Ok c → is_of_table d c ≡ true
read_named d ps heads.Put ws c e =
    let p = bind_ok (put_call d.tables ws) _ c e in
    let same : call_of PUT p.0 ≡ c = cc p.2 in
    subst (λ (y : Call). is_of_table d y ≡ true) same (put_call_named d ws p.0 p.1)
read_named d ps heads.Add ws c e =
    let p = bind_ok (add_call d.tables ws) _ c e in
    let same : call_of ADD p.0 ≡ c = cc p.2 in
    subst (λ (y : Call). is_of_table d y ≡ true) same (add_call_named d ws p.0 p.1)
read_named d ps heads.Get ws c e =
    let p = bind_ok (key_call d.tables ws) _ c e in
    let same : call_of GET p.0 ≡ c = cc p.2 in
    subst (λ (y : Call). is_of_table d y ≡ true) same (key_call_named d ws p.0 p.1)
read_named d ps heads.Del ws c e =
    let p = bind_ok (key_call d.tables ws) _ c e in
    let same : call_of DEL p.0 ≡ c = cc p.2 in
    subst (λ (y : Call). is_of_table d y ≡ true) same (key_call_named d ws p.0 p.1)
read_named d ps heads.Call ws c e = proc_call_named d ps ws c e
read_named d ps heads.Table ws c e = absurd cc
read_named d ps heads.Proc ws c e = absurd cc
read_named d ps heads.Turns ws c e = absurd cc

calls_named : (d : Declarations) (ps : List Proc) (cs : List Call) → CallsTold d.tables ps cs → (k : ℕ) (c : Call) → slice_get cs k ≡ Some c → is_of_table d c ≡ true
calls_named d ps [] h k c e = absurd cc
calls_named d ps (x ∷ cs) h zero c e =
    let same : x ≡ c = cc e in
    subst (λ (y : Call). is_of_table d y ≡ true) same (read_named d ps h.0.kind h.0.words x h.0.read)
calls_named d ps (x ∷ cs) h (suc k) c e = calls_named d ps cs h.1 k c e

-- ---- the law

-- a workload that a text means is sound, where its procedures take its calls
pub sound_load : (text : List ℕ) (load : Workload) → workload_of text ≡ Ok load →
    ((k : ℕ) (c : Call) → slice_get load.calls k ≡ Some c → takes load.declarations.procs c ≡ true) → IsSoundLoad load
sound_load text load e taken =
    let s = source text load e in
    let d = (load_of s.state).declarations in
    record {
      short = declarations_fit text load e;
      bytes = declarations_bytes text load e;
      read = declarations_read text load e;
      taken = taken;
      named = subst (λ (l : Workload). (k : ℕ) (c : Call) → slice_get l.calls k ≡ Some c → is_of_table l.declarations c ≡ true) s.same (calls_named d s.state.procs s.state.calls s.told.calls);
      steps = subst (λ (l : Workload). (i : ℕ) (p : Proc) → slice_get l.declarations.procs i ≡ Some p → list_all (step_named l.declarations) p.steps ≡ true) s.same (procs_named d [] s.state.procs s.told.procs);
    }

-- its catalogue can be read again
pub catalogue_load : (text : List ℕ) (load : Workload) → workload_of text ≡ Ok load → IsCatalogue load
catalogue_load text load e = record { short = declarations_fit text load e; bytes = declarations_bytes text load e; read = declarations_read text load e }
