-- What is known of that which a text has said: how each part of it was read.
use Rattle.std.proofs.Common.{◌≡◌, ℕ, ◌+◌, List, [], ◌∷◌, ◌++◌, Option, Some, None, Result, Ok, Err, codes, decimal, refl, sym, ap, ◌∙◌, subst, append_assoc, arith}
use Rattle.std.proofs.lemmas.List.{append-nil}
use Rattle.tau_base.specs.declared.value.Call.{Call}
use Rattle.tau_proc.specs.declared.proc.Proc.{Proc}
use Rattle.tau_proc.specs.declared.procs.TheConstants.{PUT, ADD, GET, DEL}
use Rattle.tau_proc.specs.declared.step.Step.{Step}
use Rattle.tau_text.specs.declared.load.Turn.{Turn}
use Rattle.tau_text.specs.declared.heads.Head.{Head}
use Rattle.tau_text.specs.declared.heads.Head.TheVariants as heads
use Rattle.tau_text.specs.declared.heads.StepHead.{StepHead}
use Rattle.tau_text.specs.declared.reading.Begun.{Begun}
use Rattle.tau_text.specs.declared.fault.TextCause.{TextCause}
use Rattle.tau_text.specs.declared.fault.TextCause.TheVariants.{UnknownWord}
use Rattle.tau_text.specs.Given.{◌>>=◌}
use Rattle.tau_text.specs.Canonical.{step_words, table_words, proc_words}
use Rattle.tau_text.specs.Forms.{line_size, table_line, proc_line, step_added, with_step, depth_at, step_head, head, put_call, add_call, key_call, proc_call, call_of, turns_line}
use Rattle.tau_text_laws.proofs.Once.{Once}
use Rattle.tau_text_laws.proofs.WholeLines.{step_head_is, step_once}
use Rattle.tau_text_laws.proofs.MoreTables.{added_more, one_step}

-- ---- tables

-- each table was declared after those before it
abbrev pub TablesTold : List (List ℕ) → List (List ℕ) → Type 0
TablesTold before [] = Unit {0}
TablesTold before (t ∷ ts) = (table_line before (t ∷ []) ≡ Ok t) × TablesTold (before ++ t ∷ []) ts

pub tables_push : (before ts : List (List ℕ)) (t : List ℕ) → TablesTold before ts → table_line (before ++ ts) (t ∷ []) ≡ Ok t → TablesTold before (ts ++ t ∷ [])
tables_push before [] t h e = (rw (append-nil before) at e, tt)
tables_push before (u ∷ ts) t h e = (h.0, tables_push (before ++ u ∷ []) ts t h.1 (rw (append_assoc before (u ∷ []) ts) e))

-- ---- steps

-- a line that adds this step, with so many `when` open before it and after it
pub record StepTold (ts : List (List ℕ)) (p : Proc) (d : ℕ) (x : Step) (f : ℕ) : Type 0 where
  pub word : List ℕ
  pub words : List (List ℕ)
  pub head : StepHead
  pub first : step_head word ≡ Ok head
  pub depth : depth_at d head ≡ Ok f
  pub added : step_added ts p head words ≡ Ok (with_step p x)

abbrev pub StepsTold : List (List ℕ) → Proc → ℕ → ℕ → List Step → Type 0
StepsTold ts p d f [] = d ≡ f
StepsTold ts p d f (x ∷ xs) = (e : ℕ) × StepTold ts p d x e × StepsTold ts (with_step p x) e f xs

abbrev pub with_steps : Proc → List Step → Proc
with_steps p xs = record p { steps = p.steps ++ xs }

steps_joined : (p : Proc) (x : Step) (xs : List Step) → with_steps (with_step p x) xs ≡ with_steps p (x ∷ xs)
steps_joined p x xs = ap (λ (ys : List Step). record p { steps = ys }) (append_assoc p.steps (x ∷ []) xs)

no_steps : (p : Proc) → with_steps p [] ≡ p
no_steps p = ap (λ (ys : List Step). record p { steps = ys }) (append-nil p.steps)

pub steps_push : (ts : List (List ℕ)) (p : Proc) (d e f : ℕ) (xs : List Step) (x : Step) → StepsTold ts p d e xs → StepTold ts (with_steps p xs) e x f → StepsTold ts p d f (xs ++ x ∷ [])
steps_push ts p d e f [] x h s =
    let s2 : StepTold ts p e x f = subst (λ (q : Proc). StepTold ts q e x f) (no_steps p) s in
    (f, rw h s2, refl)
steps_push ts p d e f (y ∷ ys) x h s =
    let s2 : StepTold ts (with_steps (with_step p y) ys) e x f = subst (λ (q : Proc). StepTold ts q e x f) (sym (steps_joined p y ys)) s in
    (h.0, h.1, steps_push ts (with_step p y) h.0 e f ys x h.2 s2)

abbrev step_told_more : (ts more : List (List ℕ)) (p : Proc) (d f : ℕ) (x : Step) → StepTold ts p d x f → StepTold (ts ++ more) p d x f
step_told_more ts more p d f x s = record {
  word = s.word;
  words = s.words;
  head = s.head;
  first = s.first;
  depth = s.depth;
  added = added_more ts more p (with_step p x) s.head s.words s.added;
}

pub steps_more : (ts more : List (List ℕ)) (p : Proc) (d f : ℕ) (xs : List Step) → StepsTold ts p d f xs → StepsTold (ts ++ more) p d f xs
steps_more ts more p d f [] h = h
steps_more ts more p d f (x ∷ xs) h = (h.0, step_told_more ts more p d h.0 x h.1, steps_more ts more (with_step p x) h.0 f xs h.2)

pub last_step : (p : Proc) (x y : Step) → with_step p y ≡ with_step p x → y ≡ x
last_step p x y e = last_of p.steps x y (ap (λ (q : Proc). q.steps) e)
  where
    last_of : (xs : List Step) (x y : Step) → xs ++ y ∷ [] ≡ xs ++ x ∷ [] → y ≡ x
    last_of [] x y e = cc
    last_of (z ∷ zs) x y e = last_of zs x y cc

-- the words of the line are those of the step
pub told_once : (ts : List (List ℕ)) (p : Proc) (d f : ℕ) (x : Step) (s : StepTold ts p d x f) → Once (step_words ts x) (s.word ∷ s.words)
told_once ts p d f x s =
    let o = one_step ts p (with_step p x) s.head s.words s.added in
    let k : o.0 ≡ x = last_step p x o.0 o.2 in
    subst (λ (y : Step). Once (step_words ts y) (s.word ∷ s.words)) k (step_once ts p.args s.head s.word s.words o.0 (step_head_is s.word s.head s.first) o.1)

-- ---- procedures

pub record ProcTold (ts : List (List ℕ)) (before : List Proc) (p : Proc) : Type 0 where
  pub line : proc_line before (p.name ∷ decimal p.args ∷ []) ≡ Ok (p.name, p.args)
  pub steps : StepsTold ts (record p { steps = [] }) 0 0 p.steps

abbrev pub ProcsTold : List (List ℕ) → List Proc → List Proc → Type 0
ProcsTold ts before [] = Unit {0}
ProcsTold ts before (p ∷ ps) = ProcTold ts before p × ProcsTold ts (before ++ p ∷ []) ps

pub procs_push : (ts : List (List ℕ)) (before ps : List Proc) (p : Proc) → ProcsTold ts before ps → ProcTold ts (before ++ ps) p → ProcsTold ts before (ps ++ p ∷ [])
procs_push ts before [] p h e = (subst (λ (qs : List Proc). ProcTold ts qs p) (append-nil before) e, tt)
procs_push ts before (q ∷ ps) p h e = (h.0, procs_push ts (before ++ q ∷ []) ps p h.1 (subst (λ (qs : List Proc). ProcTold ts qs p) (sym (append_assoc before (q ∷ []) ps)) e))

pub procs_more : (ts more : List (List ℕ)) (before ps : List Proc) → ProcsTold ts before ps → ProcsTold (ts ++ more) before ps
procs_more ts more before [] h = tt
procs_more ts more before (p ∷ ps) h =
    (record { line = h.0.line; steps = steps_more ts more (record p { steps = [] }) 0 0 p.steps h.0.steps }, procs_more ts more (before ++ p ∷ []) ps h.1)

pub record BegunTold (ts : List (List ℕ)) (procs : List Proc) (b : Begun) : Type 0 where
  pub line : proc_line procs (b.proc.name ∷ decimal b.proc.args ∷ []) ≡ Ok (b.proc.name, b.proc.args)
  pub steps : StepsTold ts (record b.proc { steps = [] }) 0 b.depth b.proc.steps

-- ---- calls and turns

abbrev pub call_read : List (List ℕ) → List Proc → Head → List (List ℕ) → Result Call TextCause
call_read ts ps heads.Put ws = put_call ts ws >>= λ a. Ok (call_of PUT a)
call_read ts ps heads.Add ws = add_call ts ws >>= λ a. Ok (call_of ADD a)
call_read ts ps heads.Get ws = key_call ts ws >>= λ a. Ok (call_of GET a)
call_read ts ps heads.Del ws = key_call ts ws >>= λ a. Ok (call_of DEL a)
call_read ts ps heads.Call ws = proc_call ps ws
call_read ts ps heads.Table ws = Err UnknownWord
call_read ts ps heads.Proc ws = Err UnknownWord
call_read ts ps heads.Turns ws = Err UnknownWord

pub record CallTold (ts : List (List ℕ)) (ps : List Proc) (c : Call) : Type 0 where
  pub word : List ℕ
  pub words : List (List ℕ)
  pub kind : Head
  pub first : head word ≡ Ok kind
  pub read : call_read ts ps kind words ≡ Ok c

abbrev pub CallsTold : List (List ℕ) → List Proc → List Call → Type 0
CallsTold ts ps [] = Unit {0}
CallsTold ts ps (c ∷ cs) = CallTold ts ps c × CallsTold ts ps cs

pub calls_push : (ts : List (List ℕ)) (ps : List Proc) (cs : List Call) (c : Call) → CallsTold ts ps cs → CallTold ts ps c → CallsTold ts ps (cs ++ c ∷ [])
calls_push ts ps [] c h e = (e, tt)
calls_push ts ps (d ∷ cs) c h e = (h.0, calls_push ts ps cs c h.1 e)

abbrev pub TurnsTold : Option (List Turn) → Type 0
TurnsTold None = Unit {0}
TurnsTold (Some ts) = (us : List (List ℕ)) × (turns_line [] us ≡ Ok ts)

-- ---- sizes

abbrev pub tables_size : List (List ℕ) → ℕ
tables_size [] = 0
tables_size (t ∷ ts) = line_size (table_words t) + tables_size ts

abbrev pub steps_size : List (List ℕ) → List Step → ℕ
steps_size ts [] = 0
steps_size ts (x ∷ xs) = line_size (step_words ts x) + steps_size ts xs

abbrev pub proc_size : List (List ℕ) → Proc → ℕ
proc_size ts p = line_size (proc_words p) + steps_size ts p.steps + line_size (codes "end" ∷ [])

abbrev pub procs_size : List (List ℕ) → List Proc → ℕ
procs_size ts [] = 0
procs_size ts (p ∷ ps) = proc_size ts p + procs_size ts ps

abbrev pub begun_size : List (List ℕ) → Option Begun → ℕ
begun_size ts None = 0
begun_size ts (Some b) = line_size (proc_words b.proc) + steps_size ts b.proc.steps

pub tables_size_push : (ts : List (List ℕ)) (t : List ℕ) → tables_size (ts ++ t ∷ []) ≡ tables_size ts + line_size (table_words t)
tables_size_push [] t = omega arith
tables_size_push (u ∷ ts) t = omega (arith, tables_size_push ts t)

pub steps_size_push : (ts : List (List ℕ)) (xs : List Step) (x : Step) → steps_size ts (xs ++ x ∷ []) ≡ steps_size ts xs + line_size (step_words ts x)
steps_size_push ts [] x = omega arith
steps_size_push ts (y ∷ xs) x = omega (arith, steps_size_push ts xs x)

pub procs_size_push : (ts : List (List ℕ)) (ps : List Proc) (p : Proc) → procs_size ts (ps ++ p ∷ []) ≡ procs_size ts ps + proc_size ts p
procs_size_push ts [] p = omega arith
procs_size_push ts (q ∷ ps) p = omega (arith, procs_size_push ts ps p)

pub steps_size_more : (ts more : List (List ℕ)) (p : Proc) (d f : ℕ) (xs : List Step) → StepsTold ts p d f xs → steps_size (ts ++ more) xs ≡ steps_size ts xs
steps_size_more ts more p d f [] h = refl
steps_size_more ts more p d f (x ∷ xs) h =
    let a = told_once ts p d h.0 x h.1 in
    let b = told_once (ts ++ more) p d h.0 x (step_told_more ts more p d h.0 x h.1) in
    let e : step_words (ts ++ more) x ≡ step_words ts x = b.same ∙ sym a.same in
    rw (e, steps_size_more ts more (with_step p x) h.0 f xs h.2) refl

pub procs_size_more : (ts more : List (List ℕ)) (before ps : List Proc) → ProcsTold ts before ps → procs_size (ts ++ more) ps ≡ procs_size ts ps
procs_size_more ts more before [] h = refl
procs_size_more ts more before (p ∷ ps) h = rw (steps_size_more ts more (record p { steps = [] }) 0 0 p.steps h.0.steps, procs_size_more ts more (before ++ p ∷ []) ps h.1) refl
