-- Declared names stay spelled as names, whatever line is read.
use Rattle.std.proofs.Common.{◌≡◌, ℕ, Bool, true, false, cond, List, [], ◌∷◌, ◌++◌, length, Option, Some, None, Result, Ok, Err, unwrap_or, sym, ap, subst, ◌∙◌}
use Rattle.std.specs.Prelude.{IfSome}
use Rattle.std.specs.Str.{is_utf8}
use Rattle.std.proofs.lemmas.List.Elements.{All-nil, All-push}
use Rattle.tau_base.specs.declared.limits.TheConstants.{MAX_CALLS, MAX_PROCS, MAX_TABLES}
use Rattle.tau_base.specs.declared.value.Call.{Call}
use Rattle.tau_proc.specs.declared.proc.Proc.{Proc}
use Rattle.tau_text.specs.declared.fault.TextCause.{TextCause}
use Rattle.tau_text.specs.declared.fault.TextCause.TheVariants.{NotUtf8}
use Rattle.tau_text.specs.declared.heads.Head.{Head}
use Rattle.tau_text.specs.declared.heads.Head.TheVariants as heads
use Rattle.tau_text.specs.declared.heads.StepHead.{StepHead}
use Rattle.tau_text.specs.declared.heads.StepHead.TheVariants as inner
use Rattle.tau_text.specs.declared.reading.Reading.{Reading}
use Rattle.tau_text.specs.declared.reading.Begun.{Begun}
use Rattle.tau_text.specs.Forms.{room, grown, names_of, table_line, proc_line, step_added, depth_at, step_head, head, turns_line}
use Rattle.tau_text.specs.Given.{◌>>=◌}
use Rattle.tau_text.specs.Lines.{words}
use Rattle.tau_text.specs.Quick.{HasNames}
use Rattle.tau_text.specs.Spelled.{begins_with, count, ended, first, fresh, name, new_name, place_from}
use Rattle.tau_text.specs.Text.{inner_read, line_read, nothing, outer_read, placed, statement_read, with_call, words_read}
use Rattle.tau_text.proofs.Begins.{one_step}
use Rattle.tau_text.proofs.Binds.{bind_ok}
use Rattle.tau_text.proofs.PlainWords.{name_spells}

-- ---- new names

fresh_same : (m n : List ℕ) (o : Option ℕ) → fresh m o ≡ Ok n → n ≡ m
fresh_same m n None e = cc
fresh_same m n (Some i) e = absurd cc

new_named : (names : List (List ℕ)) (w n : List ℕ) → new_name names w ≡ Ok n → name n ≡ Ok n
unfolding new_name
new_named names w n e =
    let a = bind_ok (name w) _ n e in
    let same : n ≡ a.0 = fresh_same a.0 n (place_from 0 a.0 names) a.2 in
    let word : a.0 ≡ w = (name_spells w a.0 a.1).0 in
    ap name (same ∙ word) ∙ a.1 ∙ ap (λ (l : List ℕ). Ok l) (sym same)

table_named : (tables ws : List (List ℕ)) (n : List ℕ) → table_line tables ws ≡ Ok n → name n ≡ Ok n
unfolding table_line
table_named tables ws n e =
    let a = bind_ok (first ws) _ n e in
    let b = bind_ok (new_name tables a.0.0) _ n a.2 in
    let c = bind_ok (ended a.0.1) _ n b.2 in
    let d = bind_ok (room MAX_TABLES (length tables)) _ n c.2 in
    let k : b.0 ≡ n = cc d.2 in
    new_named tables a.0.0 n (b.1 ∙ ap (λ (l : List ℕ). Ok l) k)

proc_named : (procs : List Proc) (ws : List (List ℕ)) (p : List ℕ × ℕ) → proc_line procs ws ≡ Ok p → name p.0 ≡ Ok p.0
unfolding proc_line
proc_named procs ws p e =
    let a = bind_ok (first ws) _ p e in
    let b = bind_ok (new_name (names_of procs) a.0.0) _ p a.2 in
    let c = bind_ok (first a.0.1) _ p b.2 in
    let d = bind_ok (count c.0.0) _ p c.2 in
    let f = bind_ok (ended c.0.1) _ p d.2 in
    let g = bind_ok (room MAX_PROCS (length procs)) _ p f.2 in
    let k : (b.0, d.0) ≡ p = cc g.2 in
    let same : b.0 ≡ p.0 = ap (λ (q : List ℕ × ℕ). q.0) k in
    new_named (names_of procs) a.0.0 p.0 (b.1 ∙ ap (λ (l : List ℕ). Ok l) same)

-- ---- lines

call_keeps : (s u : Reading) (read : Result Call TextCause) → with_call s read ≡ Ok u → HasNames s → HasNames u
call_keeps s u read e h =
    let a = bind_ok read _ u e in
    let b = bind_ok (room MAX_CALLS (length s.calls)) _ u a.2 in
    let k : record s { calls = s.calls ++ a.0 ∷ [] } ≡ u = cc b.2 in
    subst HasNames k (record { tables = h.tables; procs = h.procs; begun = h.begun })

outer_keeps : (s u : Reading) (n : ℕ) (h : Head) (ws rest : List (List ℕ)) → outer_read s n h ws rest ≡ Ok u → HasNames s → HasNames u
unfolding outer_read
outer_keeps s u n heads.Table ws rest e h =
    let a = bind_ok (table_line s.tables rest) _ u e in
    let b = bind_ok (grown s.size ws) _ u a.2 in
    let k : record s { tables = s.tables ++ a.0 ∷ []; size = b.0 } ≡ u = cc b.2 in
    subst HasNames k (record { tables = All-push (λ t. name t ≡ Ok t) s.tables a.0 h.tables (table_named s.tables rest a.0 a.1); procs = h.procs; begun = h.begun })
outer_keeps s u n heads.Proc ws rest e h =
    let a = bind_ok (proc_line s.procs rest) _ u e in
    let b = bind_ok (grown s.size ws) _ u a.2 in
    let k : record s { size = b.0; begun = Some (record { line = n; proc = record { name = a.0.0; args = a.0.1; steps = [] }; depth = 0 }) } ≡ u = cc b.2 in
    subst HasNames k (record { tables = h.tables; procs = h.procs; begun = proc_named s.procs rest a.0 a.1 })
outer_keeps s u n heads.Put ws rest e h = call_keeps s u _ e h
outer_keeps s u n heads.Add ws rest e h = call_keeps s u _ e h
outer_keeps s u n heads.Get ws rest e h = call_keeps s u _ e h
outer_keeps s u n heads.Del ws rest e h = call_keeps s u _ e h
outer_keeps s u n heads.Call ws rest e h = call_keeps s u _ e h
outer_keeps s u n heads.Turns ws rest e h =
    let a = bind_ok (turns_line (unwrap_or s.turns []) rest) _ u e in
    let k : record s { turns = Some a.0 } ≡ u = cc a.2 in
    subst HasNames k (record { tables = h.tables; procs = h.procs; begun = h.begun })

-- a line of a step
abbrev stepped : Reading → Begun → StepHead → List (List ℕ) → List (List ℕ) → Result Reading TextCause
stepped s b h ws rest = do
  depth ← depth_at b.depth h
  p ← step_added s.tables b.proc h rest
  size ← grown s.size ws
  Ok (record s { size = size; begun = Some (record { line = b.line; proc = p; depth = depth }) })

step_keeps : (s u : Reading) (b : Begun) (h : StepHead) (ws rest : List (List ℕ)) → stepped s b h ws rest ≡ Ok u → HasNames s → name b.proc.name ≡ Ok b.proc.name → HasNames u
step_keeps s u b h ws rest e names named =
    let a = bind_ok (depth_at b.depth h) _ u e in
    let p = bind_ok (step_added s.tables b.proc h rest) _ u a.2 in
    let c = bind_ok (grown s.size ws) _ u p.2 in
    let k : record s { size = c.0; begun = Some (record { line = b.line; proc = p.0; depth = a.0 }) } ≡ u = cc c.2 in
    let same : b.proc.name ≡ p.0.name = ap (λ (q : Proc). q.name) (one_step s.tables b.proc p.0 h rest p.1).2 in
    subst HasNames k (record { tables = names.tables; procs = names.procs; begun = subst (λ (w : List ℕ). name w ≡ Ok w) same named })

inner_keeps : (s u : Reading) (b : Begun) (h : StepHead) (ws rest : List (List ℕ)) → inner_read s b h ws rest ≡ Ok u → HasNames s → name b.proc.name ≡ Ok b.proc.name → HasNames u
unfolding inner_read
inner_keeps s u b inner.End ws rest e names named =
    let a = bind_ok (depth_at b.depth inner.End) _ u e in
    let c = bind_ok (ended rest) _ u a.2 in
    let d = bind_ok (grown s.size ws) _ u c.2 in
    let k : record s { size = d.0; procs = s.procs ++ b.proc ∷ []; begun = None } ≡ u = cc d.2 in
    subst HasNames k (record { tables = names.tables; procs = All-push (λ p. name p.name ≡ Ok p.name) s.procs b.proc names.procs named; begun = tt })
inner_keeps s u b inner.Get ws rest e names named = step_keeps s u b inner.Get ws rest e names named
inner_keeps s u b inner.Put ws rest e names named = step_keeps s u b inner.Put ws rest e names named
inner_keeps s u b inner.Del ws rest e names named = step_keeps s u b inner.Del ws rest e names named
inner_keeps s u b inner.Add ws rest e names named = step_keeps s u b inner.Add ws rest e names named
inner_keeps s u b inner.Sub ws rest e names named = step_keeps s u b inner.Sub ws rest e names named
inner_keeps s u b inner.Mul ws rest e names named = step_keeps s u b inner.Mul ws rest e names named
inner_keeps s u b inner.Min ws rest e names named = step_keeps s u b inner.Min ws rest e names named
inner_keeps s u b inner.Max ws rest e names named = step_keeps s u b inner.Max ws rest e names named
inner_keeps s u b inner.Cat ws rest e names named = step_keeps s u b inner.Cat ws rest e names named
inner_keeps s u b inner.Need ws rest e names named = step_keeps s u b inner.Need ws rest e names named
inner_keeps s u b inner.When ws rest e names named = step_keeps s u b inner.When ws rest e names named
inner_keeps s u b inner.Done ws rest e names named = step_keeps s u b inner.Done ws rest e names named
inner_keeps s u b inner.Reply ws rest e names named = step_keeps s u b inner.Reply ws rest e names named

statement_keeps : (s u : Reading) (n : ℕ) (begun : Option Begun) (w : List ℕ) (ws : List (List ℕ)) → statement_read s n begun w ws ≡ Ok u → HasNames s → IfSome begun (λ b. name b.proc.name ≡ Ok b.proc.name) → HasNames u
unfolding statement_read
statement_keeps s u n None w ws e h named =
    let a = bind_ok (head w) _ u e in
    let b = bind_ok (placed s a.0) _ u a.2 in
    outer_keeps s u n b.0 (w ∷ ws) ws b.2 h
statement_keeps s u n (Some b) w ws e h named =
    let a = bind_ok (step_head w) _ u e in
    inner_keeps (record s { begun = None }) u b a.0 (w ∷ ws) ws a.2 (record { tables = h.tables; procs = h.procs; begun = tt }) named

unless_comment : (t : Bool) (s u : Reading) (r : Result Reading TextCause) → cond t (Ok s) r ≡ Ok u → HasNames s → (r ≡ Ok u → HasNames u) → HasNames u
unless_comment true s u r e h f =
    let k : s ≡ u = cc e in
    subst HasNames k h
unless_comment false s u r e h f = f e

words_keep : (s u : Reading) (n : ℕ) (ws : List (List ℕ)) → words_read s n ws ≡ Ok u → HasNames s → HasNames u
unfolding words_read
words_keep s u n [] e h =
    let k : s ≡ u = cc e in
    subst HasNames k h
words_keep s u n (w ∷ ws) e h = unless_comment (begins_with 35 w) s u (statement_read s n s.begun w ws) e h (λ f. statement_keeps s u n s.begun w ws f h h.begun)

if_utf8 : (t : Bool) (u : Reading) (r : Result Reading TextCause) → cond t r (Err NotUtf8) ≡ Ok u → r ≡ Ok u
if_utf8 true u r e = e
if_utf8 false u r e = absurd cc

pub names_kept : (s u : Reading) (n : ℕ) (line : List ℕ) → line_read s n line ≡ Ok u → HasNames s → HasNames u
unfolding line_read
names_kept s u n line e h = words_keep s u n (words line) (if_utf8 (is_utf8 line) u (words_read s n (words line)) e) h

pub nothing_named : HasNames nothing
nothing_named = record { tables = All-nil (λ t. name t ≡ Ok t); procs = All-nil (λ p. name p.name ≡ Ok p.name); begun = tt }
