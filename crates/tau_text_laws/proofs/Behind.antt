-- What is known of that which was said before a line is known after it.
use Rattle.std.proofs.Common.{◌≡◌, ℕ, zero, suc, ◌+◌, ◌≤◌, ◌<◌, ◌==◌, Bool, true, false, cond, nat_le, List, [], ◌∷◌, ◌++◌, length, Option, Some, None, Result, Ok, Err, codes, decimal, refl, sym, ap, ◌∙◌, subst, length-append, arith}
use Rattle.std.specs.Prelude.{nat_lt, is_none, unwrap_or, ◌&&◌}
use Rattle.std.proofs.lemmas.Grind.{common_steps}
use Rattle.std.proofs.lemmas.Bool.{and_parts}
use Rattle.std.proofs.lemmas.Bool.Decides.{Decides-eqb}
use Rattle.std.specs.Str.{is_utf8}
use Rattle.tau_base.specs.declared.limits.TheConstants.{MAX_CALLS, MAX_CATALOGUE, MAX_TURNS, MAX_WORKLOAD}
use Rattle.tau_base.specs.declared.value.Call.{Call}
use Rattle.tau_proc.specs.declared.proc.Proc.{Proc}
use Rattle.tau_text.specs.declared.load.Turn.{Turn}
use Rattle.tau_text.specs.declared.heads.Head.{Head}
use Rattle.tau_text.specs.declared.heads.Head.TheVariants as heads
use Rattle.tau_text.specs.declared.heads.StepHead.{StepHead}
use Rattle.tau_text.specs.declared.heads.StepHead.TheVariants as inner
use Rattle.tau_text.specs.declared.reading.Reading.{Reading}
use Rattle.tau_text.specs.declared.reading.Begun.{Begun}
use Rattle.tau_text.specs.declared.fault.TextCause.{TextCause}
use Rattle.tau_text.specs.declared.fault.TextCause.TheVariants.{TooMany, NotUtf8, UnknownWord}
use Rattle.tau_text.specs.declared.fault.TextFault.{TextFault}
use Rattle.tau_text.specs.Given.{◌>>=◌}
use Rattle.tau_text.specs.Lines.{body, words}
use Rattle.tau_text.specs.Spelled.{ended, begins_with, turn}
use Rattle.tau_text.specs.Forms.{within, room, grown, line_size, table_line, proc_line, step_added, with_step, depth_at, step_head, head, turns_line}
use Rattle.tau_text.specs.Text.{with_call, is_before, outer_read, inner_read, placed, statement_read, words_read, line_read, at_line, lines_read, nothing}
use Rattle.tau_text_laws.proofs.Binds.{then_ok}
use Rattle.tau_text_laws.proofs.Unique.{only_if}
use Rattle.tau_text_laws.proofs.Once.{once_end, table_once, proc_once}
use Rattle.tau_text_laws.proofs.WholeLines.{Is, step_head_is, head_is, once_front, step_once}
use Rattle.tau_text_laws.proofs.MoreTables.{one_step}
use Rattle.tau_text_laws.proofs.PartsTold.{TablesTold, tables_push, StepTold, StepsTold, steps_push, ProcTold, ProcsTold, procs_push, procs_more, BegunTold, call_read, CallTold, CallsTold, calls_push, TurnsTold, tables_size, procs_size, begun_size, tables_size_push, steps_size_push, procs_size_push, procs_size_more}
use Rattle.tau_text.proofs.Binds.{bind_ok}

abbrev pub MaybeBegun : List (List ℕ) → List Proc → List Call → Option Begun → Type 0
MaybeBegun ts ps cs None = Unit {0}
MaybeBegun ts ps cs (Some b) = BegunTold ts ps b × (cs ≡ [])

-- how each part was read of that which is said, and that it is within the limits; b is what is begun
pub record ToldAt (s : Reading) (b : Option Begun) : Type 0 where
  pub tables : TablesTold [] s.tables
  pub procs : ProcsTold s.tables [] s.procs
  pub begun : MaybeBegun s.tables s.procs s.calls b
  pub calls : CallsTold s.tables s.procs s.calls
  pub few : length s.calls ≤ MAX_CALLS
  pub turns : TurnsTold s.turns
  pub size : s.size ≡ tables_size s.tables + procs_size s.tables s.procs + begun_size s.tables b
  pub small : s.size ≤ MAX_CATALOGUE

abbrev pub Told : Reading → Type 0
Told s = ToldAt s s.begun

outside : (u : Reading) (o : Option Begun) → o ≡ None → ToldAt u None → ToldAt u o
outside u o e h = subst (ToldAt u) (sym e) h

pub grown_is : (size : ℕ) (ws : List (List ℕ)) (n : ℕ) → grown size ws ≡ Ok n → (n ≡ size + line_size ws) × (n ≤ MAX_CATALOGUE)
grown_is size ws n e =
    let a = bind_ok (within MAX_CATALOGUE (size + line_size ws)) _ n e in
    let p = only_if (nat_le (size + line_size ws) MAX_CATALOGUE) TooMany (Ok tt) a.0 a.1 in
    let le : size + line_size ws ≤ MAX_CATALOGUE = grind (arith, common_steps) in
    let k : size + line_size ws ≡ n = cc a.2 in
    (sym k, omega arith)

pub room_is : (limit n : ℕ) (u : Unit {0}) → room limit n ≡ Ok u → n < limit
room_is limit n u e =
    let p = only_if (nat_lt n limit) TooMany (Ok tt) u e in
    grind (arith, common_steps)

-- ---- lines outside the procedures

told_table : (s : Reading) (n : ℕ) (w : List ℕ) (rest : List (List ℕ)) (t : Reading) → ToldAt s None → s.begun ≡ None → s.calls ≡ [] → Is (codes "table") w → outer_read s n heads.Table (w ∷ rest) rest ≡ Ok t → Told t
unfolding outer_read
told_table s n w rest t h nb nc i e =
    let a = bind_ok (table_line s.tables rest) _ t e in
    let b = bind_ok (grown s.size (w ∷ rest)) _ t a.2 in
    let ts = s.tables ++ a.0 ∷ [] in
    let u : Reading = record s { tables = ts; size = b.0 } in
    let k : u ≡ t = cc b.2 in
    let o = table_once s.tables rest a.0 a.1 in
    let line = once_front (codes "table") w (a.0 ∷ []) rest i o in
    let g = grown_is s.size (w ∷ rest) b.0 b.1 in
    let again : table_line s.tables (a.0 ∷ []) ≡ Ok a.0 = ap (table_line s.tables) o.same ∙ a.1 in
    let more : b.0 ≡ tables_size ts + procs_size ts s.procs + 0 = omega (arith, g.0, h.size, ap line_size line.same, tables_size_push s.tables a.0, procs_size_more s.tables (a.0 ∷ []) [] s.procs h.procs) in
    let none : CallsTold ts s.procs s.calls = subst (λ (cs : List Call). CallsTold ts s.procs cs) (sym nc) tt in
    let told : ToldAt u None = record {
      tables = tables_push [] s.tables a.0 h.tables again;
      procs = procs_more s.tables (a.0 ∷ []) [] s.procs h.procs;
      begun = tt;
      calls = none;
      few = h.few;
      turns = h.turns;
      size = more;
      small = g.1;
    } in
    subst Told k (outside u s.begun nb told)

told_proc : (s : Reading) (n : ℕ) (w : List ℕ) (rest : List (List ℕ)) (t : Reading) → ToldAt s None → s.calls ≡ [] → Is (codes "proc") w → outer_read s n heads.Proc (w ∷ rest) rest ≡ Ok t → Told t
unfolding outer_read
told_proc s n w rest t h nc i e =
    let a = bind_ok (proc_line s.procs rest) _ t e in
    let b = bind_ok (grown s.size (w ∷ rest)) _ t a.2 in
    let p : Proc = record { name = a.0.0; args = a.0.1; steps = [] } in
    let new : Begun = record { line = n; proc = p; depth = 0 } in
    let u : Reading = record s { size = b.0; begun = Some new } in
    let k : u ≡ t = cc b.2 in
    let o = proc_once s.procs rest a.0 a.1 in
    let line = once_front (codes "proc") w (a.0.0 ∷ decimal a.0.1 ∷ []) rest i o in
    let g = grown_is s.size (w ∷ rest) b.0 b.1 in
    let again : proc_line s.procs (a.0.0 ∷ decimal a.0.1 ∷ []) ≡ Ok a.0 = ap (proc_line s.procs) o.same ∙ a.1 in
    subst Told k (record {
      tables = h.tables;
      procs = h.procs;
      begun = (record { line = again; steps = refl }, nc);
      calls = h.calls;
      few = h.few;
      turns = h.turns;
      size = omega (arith, g.0, h.size, ap line_size line.same);
      small = g.1;
    })

told_call : (s : Reading) (r : Result Call TextCause) (k : Head) (w : List ℕ) (rest : List (List ℕ)) (t : Reading) → ToldAt s None → s.begun ≡ None → head w ≡ Ok k → r ≡ call_read s.tables s.procs k rest → with_call s r ≡ Ok t → Told t
told_call s r k w rest t h nb f q e =
    let a = bind_ok r _ t e in
    let b = bind_ok (room MAX_CALLS (length s.calls)) _ t a.2 in
    let u : Reading = record s { calls = s.calls ++ a.0 ∷ [] } in
    let same : u ≡ t = cc b.2 in
    let told : CallTold s.tables s.procs a.0 = record { word = w; words = rest; kind = k; first = f; read = sym q ∙ a.1 } in
    let lt = room_is MAX_CALLS (length s.calls) b.0 b.1 in
    let all : ToldAt u None = record {
      tables = h.tables;
      procs = h.procs;
      begun = tt;
      calls = calls_push s.tables s.procs s.calls a.0 h.calls told;
      few = omega (arith, length-append s.calls (a.0 ∷ []), lt);
      turns = h.turns;
      size = h.size;
      small = h.small;
    } in
    subst Told same (outside u s.begun nb all)

turns_join : (a b : List Turn) (us ws : List (List ℕ)) (r : Result (List Turn) TextCause) → turns_line a us ≡ Ok b → turns_line b ws ≡ r → turns_line a (us ++ ws) ≡ r
unfolding turns_line
turns_join a b [] ws r e f =
    let k : a ≡ b = cc in
    rw k f
turns_join a b (u ∷ us) ws r e f =
    let p = bind_ok (turn u) _ b e in
    let q = bind_ok (room MAX_TURNS (length a)) _ b p.2 in
    then_ok (turn u) _ p.0 r p.1 (then_ok (room MAX_TURNS (length a)) _ q.0 r q.1 (turns_join (a ++ p.0 ∷ []) b us ws r q.2 f))

told_turns_by : (o : Option (List Turn)) (rest : List (List ℕ)) (ts : List Turn) → TurnsTold o → turns_line (unwrap_or o []) rest ≡ Ok ts → TurnsTold (Some ts)
told_turns_by None rest ts h e = (rest, e)
told_turns_by (Some before) rest ts h e = (h.0 ++ rest, turns_join [] before h.0 rest (Ok ts) h.1 e)

told_turns : (s : Reading) (n : ℕ) (ws rest : List (List ℕ)) (t : Reading) → ToldAt s None → s.begun ≡ None → outer_read s n heads.Turns ws rest ≡ Ok t → Told t
unfolding outer_read
told_turns s n ws rest t h nb e =
    let a = bind_ok (turns_line (unwrap_or s.turns []) rest) _ t e in
    let u : Reading = record s { turns = Some a.0 } in
    let k : u ≡ t = cc a.2 in
    let all : ToldAt u None = record {
      tables = h.tables;
      procs = h.procs;
      begun = tt;
      calls = h.calls;
      few = h.few;
      turns = told_turns_by s.turns rest a.0 h.turns a.1;
      size = h.size;
      small = h.small;
    } in
    subst Told k (outside u s.begun nb all)

-- where a declaration may stand there is no call
no_calls : (cs : List Call) (o : Bool) → (length cs == 0 && o) ≡ true → cs ≡ []
no_calls [] o e = refl
no_calls (c ∷ cs) o e =
    let p = and_parts (length (c ∷ cs) == 0) o e in
    let z : length (c ∷ cs) ≡ 0 = (Decides-eqb (length (c ∷ cs)) 0).0 p.0 in
    absurd (omega arith)

pub told_outer : (s : Reading) (n : ℕ) (k : Head) (w : List ℕ) (rest : List (List ℕ)) (t : Reading) → ToldAt s None → s.begun ≡ None → head w ≡ Ok k → is_before k s ≡ true → outer_read s n k (w ∷ rest) rest ≡ Ok t → Told t
unfolding outer_read is_before
told_outer s n heads.Table w rest t h nb f b e = told_table s n w rest t h nb (no_calls s.calls (is_none s.turns) b) (head_is w heads.Table f) e
told_outer s n heads.Proc w rest t h nb f b e = told_proc s n w rest t h (no_calls s.calls (is_none s.turns) b) (head_is w heads.Proc f) e
told_outer s n heads.Put w rest t h nb f b e = told_call s (call_read s.tables s.procs heads.Put rest) heads.Put w rest t h nb f refl e
told_outer s n heads.Add w rest t h nb f b e = told_call s (call_read s.tables s.procs heads.Add rest) heads.Add w rest t h nb f refl e
told_outer s n heads.Get w rest t h nb f b e = told_call s (call_read s.tables s.procs heads.Get rest) heads.Get w rest t h nb f refl e
told_outer s n heads.Del w rest t h nb f b e = told_call s (call_read s.tables s.procs heads.Del rest) heads.Del w rest t h nb f refl e
told_outer s n heads.Call w rest t h nb f b e = told_call s (call_read s.tables s.procs heads.Call rest) heads.Call w rest t h nb f refl e
told_outer s n heads.Turns w rest t h nb f b e = told_turns s n (w ∷ rest) rest t h nb e

-- ---- lines inside a procedure

told_step : (s : Reading) (b : Begun) (k : StepHead) (w : List ℕ) (rest : List (List ℕ)) (t : Reading) → ToldAt s (Some b) → step_head w ≡ Ok k
    → (depth_at b.depth k >>= λ depth. step_added s.tables b.proc k rest >>= λ p. grown s.size (w ∷ rest) >>= λ size. Ok (record s { size = size; begun = Some (record { line = b.line; proc = p; depth = depth }) })) ≡ Ok t → Told t
told_step s b k w rest t h f e =
    let d = bind_ok (depth_at b.depth k) _ t e in
    let p = bind_ok (step_added s.tables b.proc k rest) _ t d.2 in
    let g = bind_ok (grown s.size (w ∷ rest)) _ t p.2 in
    let new : Begun = record { line = b.line; proc = p.0; depth = d.0 } in
    let u : Reading = record s { size = g.0; begun = Some new } in
    let same : u ≡ t = cc g.2 in
    let o = one_step s.tables b.proc p.0 k rest p.1 in
    let line = step_once s.tables b.proc.args k w rest o.0 (step_head_is w k f) o.1 in
    let size = grown_is s.size (w ∷ rest) g.0 g.1 in
    let st : StepTold s.tables b.proc b.depth o.0 d.0 = record { word = w; words = rest; head = k; first = f; depth = d.1; added = p.1 ∙ ap Ok (sym o.2) } in
    let bare : Proc = record b.proc { steps = [] } in
    let all : StepsTold s.tables bare 0 d.0 (b.proc.steps ++ o.0 ∷ []) = steps_push s.tables bare 0 b.depth d.0 b.proc.steps o.0 h.begun.0.steps st in
    let begun : BegunTold s.tables s.procs (record { line = b.line; proc = with_step b.proc o.0; depth = d.0 }) = record { line = h.begun.0.line; steps = all } in
    let more : g.0 ≡ tables_size s.tables + procs_size s.tables s.procs + begun_size s.tables (Some (record { line = b.line; proc = with_step b.proc o.0; depth = d.0 })) = omega (arith, size.0, h.size, ap line_size line.same, steps_size_push s.tables b.proc.steps o.0) in
    let begun2 : BegunTold s.tables s.procs new = subst (λ (q : Proc). BegunTold s.tables s.procs (record { line = b.line; proc = q; depth = d.0 })) o.2 begun in
    let more2 : g.0 ≡ tables_size s.tables + procs_size s.tables s.procs + begun_size s.tables (Some new) = subst (λ (q : Proc). g.0 ≡ tables_size s.tables + procs_size s.tables s.procs + begun_size s.tables (Some (record { line = b.line; proc = q; depth = d.0 }))) o.2 more in
    subst Told same (record {
      tables = h.tables;
      procs = h.procs;
      begun = (begun2, h.begun.1);
      calls = h.calls;
      few = h.few;
      turns = h.turns;
      size = more2;
      small = size.1;
    })

none_open : (d e : ℕ) → depth_at d inner.End ≡ Ok e → d ≡ 0
unfolding depth_at
none_open zero e q = refl
none_open (suc d) e q = absurd cc

told_end : (s : Reading) (b : Begun) (w : List ℕ) (rest : List (List ℕ)) (t : Reading) → ToldAt s (Some b) → step_head w ≡ Ok inner.End → inner_read s b inner.End (w ∷ rest) rest ≡ Ok t → Told t
unfolding inner_read
told_end s b w rest t h f e =
    let d = bind_ok (depth_at b.depth inner.End) _ t e in
    let n = bind_ok (ended rest) _ t d.2 in
    let g = bind_ok (grown s.size (w ∷ rest)) _ t n.2 in
    let u : Reading = record s { size = g.0; procs = s.procs ++ b.proc ∷ []; begun = None } in
    let same : u ≡ t = cc g.2 in
    let line = once_front (codes "end") w [] rest (step_head_is w inner.End f) (once_end rest n.0 n.1) in
    let size = grown_is s.size (w ∷ rest) g.0 g.1 in
    let bare : Proc = record b.proc { steps = [] } in
    let closed : StepsTold s.tables bare 0 0 b.proc.steps = subst (λ (k : ℕ). StepsTold s.tables bare 0 k b.proc.steps) (none_open b.depth d.0 d.1) h.begun.0.steps in
    let told : ProcTold s.tables s.procs b.proc = record { line = h.begun.0.line; steps = closed } in
    let none : CallsTold s.tables (s.procs ++ b.proc ∷ []) s.calls = subst (λ (cs : List Call). CallsTold s.tables (s.procs ++ b.proc ∷ []) cs) (sym h.begun.1) tt in
    let more : g.0 ≡ tables_size s.tables + procs_size s.tables (s.procs ++ b.proc ∷ []) + 0 = omega (arith, size.0, h.size, ap line_size line.same, procs_size_push s.tables s.procs b.proc) in
    subst Told same (record {
      tables = h.tables;
      procs = procs_push s.tables [] s.procs b.proc h.procs told;
      begun = tt;
      calls = none;
      few = h.few;
      turns = h.turns;
      size = more;
      small = size.1;
    })

pub told_inner : (s : Reading) (b : Begun) (k : StepHead) (w : List ℕ) (rest : List (List ℕ)) (t : Reading) → ToldAt s (Some b) → step_head w ≡ Ok k → inner_read s b k (w ∷ rest) rest ≡ Ok t → Told t
unfolding inner_read
told_inner s b inner.Get w rest t h f e = told_step s b inner.Get w rest t h f e
told_inner s b inner.Put w rest t h f e = told_step s b inner.Put w rest t h f e
told_inner s b inner.Del w rest t h f e = told_step s b inner.Del w rest t h f e
told_inner s b inner.Add w rest t h f e = told_step s b inner.Add w rest t h f e
told_inner s b inner.Sub w rest t h f e = told_step s b inner.Sub w rest t h f e
told_inner s b inner.Mul w rest t h f e = told_step s b inner.Mul w rest t h f e
told_inner s b inner.Min w rest t h f e = told_step s b inner.Min w rest t h f e
told_inner s b inner.Max w rest t h f e = told_step s b inner.Max w rest t h f e
told_inner s b inner.Cat w rest t h f e = told_step s b inner.Cat w rest t h f e
told_inner s b inner.Need w rest t h f e = told_step s b inner.Need w rest t h f e
told_inner s b inner.When w rest t h f e = told_step s b inner.When w rest t h f e
told_inner s b inner.Done w rest t h f e = told_step s b inner.Done w rest t h f e
told_inner s b inner.Reply w rest t h f e = told_step s b inner.Reply w rest t h f e
told_inner s b inner.End w rest t h f e = told_end s b w rest t h f e

-- ---- any line

told_statement : (s : Reading) (n : ℕ) (o : Option Begun) (w : List ℕ) (rest : List (List ℕ)) (t : Reading) → s.begun ≡ o → ToldAt s o → statement_read s n o w rest ≡ Ok t → Told t
unfolding statement_read
told_statement s n None w rest t nb h e =
    let a = bind_ok (head w) _ t e in
    let b = bind_ok (placed s a.0) _ t a.2 in
    let p = only_if (is_before a.0 s) UnknownWord (Ok a.0) b.0 b.1 in
    let k : a.0 ≡ b.0 = cc in
    told_outer s n b.0 w rest t h nb (a.1 ∙ ap Ok k) (ap (λ (x : Head). is_before x s) (sym k) ∙ p.0) b.2
told_statement s n (Some b) w rest t nb h e =
    let a = bind_ok (step_head w) _ t e in
    told_inner (record s { begun = None }) b a.0 w rest t (record { tables = h.tables; procs = h.procs; begun = h.begun; calls = h.calls; few = h.few; turns = h.turns; size = h.size; small = h.small }) a.1 a.2

told_cond : (c : Bool) (s : Reading) (r : Result Reading TextCause) (t : Reading) → Told s → (r ≡ Ok t → Told t) → cond c (Ok s) r ≡ Ok t → Told t
told_cond true s r t h f e =
    let k : s ≡ t = cc in
    subst Told k h
told_cond false s r t h f e = f e

told_words : (s : Reading) (n : ℕ) (ws : List (List ℕ)) (t : Reading) → Told s → words_read s n ws ≡ Ok t → Told t
unfolding words_read
told_words s n [] t h e =
    let k : s ≡ t = cc in
    subst Told k h
told_words s n (w ∷ rest) t h e = told_cond (begins_with 35 w) s (statement_read s n s.begun w rest) t h (λ f. told_statement s n s.begun w rest t refl h f) e

told_line : (s : Reading) (n : ℕ) (line : List ℕ) (t : Reading) → Told s → line_read s n line ≡ Ok t → Told t
unfolding line_read
told_line s n line t h e =
    let p = only_if (is_utf8 line) NotUtf8 (words_read s n (words line)) t e in
    told_words s n (words line) t h p.1

at_ok : {A : Type 0} (n : ℕ) (r : Result A TextCause) (x : A) → at_line n r ≡ Ok x → r ≡ Ok x
at_ok n (Ok y) x e = cc
at_ok n (Err c) x e = absurd cc

pub bound : {A B : Type 0} (r : Result A TextFault) (f : A → Result B TextFault) (y : B) → (r >>= f) ≡ Ok y → (x : A) × (r ≡ Ok x) × (f x ≡ Ok y)
bound (Ok x) f y e = (x, refl, e)
bound (Err c) f y e = absurd cc

pub told_lines : (s : Reading) (n past : ℕ) (ls : List (List ℕ)) (t : Reading) → Told s → lines_read s n past ls ≡ Ok t → Told t
unfolding lines_read
told_lines s n past [] t h e =
    let k : s ≡ t = cc in
    subst Told k h
told_lines s n past (l ∷ ls) t h e =
    let a = bound (at_line n (line_read s n (body l))) _ t e in
    let b = bound (at_line n (within MAX_WORKLOAD (past + length l))) _ t a.2 in
    told_lines a.0 (n + 1) (past + length l) ls t (told_line s n (body l) a.0 h (at_ok n (line_read s n (body l)) a.0 a.1)) b.2

pub told_nothing : Told nothing
told_nothing = record { tables = tt; procs = tt; begun = tt; calls = tt; few = omega arith; turns = tt; size = refl; small = omega arith }
