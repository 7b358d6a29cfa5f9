-- The lines of the canonical text, read as words: they say what is known to be said.
use Rattle.std.proofs.Common.{◌≡◌, ℕ, ◌+◌, ◌≤◌, ◌<◌, true, false, nat_le, List, [], ◌∷◌, ◌++◌, length, map, Some, None, Result, Ok, codes, decimal, refl, sym, ap, ◌∙◌, subst, append_assoc, arith}
use Rattle.std.specs.Prelude.{nat_lt}
use Rattle.std.specs.List.{flat_map}
use Rattle.std.proofs.lemmas.Grind.{common_steps}
use Rattle.std.proofs.lemmas.List.{append-nil}
use Rattle.tau_base.specs.declared.limits.TheConstants.{MAX_CATALOGUE}
use Rattle.tau_proc.specs.declared.proc.Proc.{Proc}
use Rattle.tau_proc.specs.declared.step.Step.{Step}
use Rattle.tau_text.specs.declared.heads.StepHead.{StepHead}
use Rattle.tau_text.specs.declared.heads.StepHead.TheVariants as inner
use Rattle.tau_text.specs.declared.reading.Reading.{Reading}
use Rattle.tau_text.specs.declared.reading.Begun.{Begun}
use Rattle.tau_text.specs.declared.fault.TextCause.{TextCause}
use Rattle.tau_text.specs.Given.{◌>>=◌}
use Rattle.tau_text.specs.Canonical.{step_words, table_words, proc_words}
use Rattle.tau_text.specs.Spelled.{begins_with}
use Rattle.tau_text.specs.Forms.{room, grown, line_size, table_line, proc_line, step_line, step_added, with_step, depth_at, step_head, head}
use Rattle.tau_text.specs.Text.{is_before, outer_read, inner_read, statement_read, words_read}
use Rattle.tau_text_laws.proofs.Binds.{then_ok}
use Rattle.tau_text_laws.proofs.WholeLines.{step_word, step_head_is}
use Rattle.tau_text_laws.proofs.PartsTold.{TablesTold, StepTold, StepsTold, with_steps, ProcTold, ProcsTold, tables_size, steps_size, proc_size, procs_size, told_once}
use Rattle.tau_text.proofs.Binds.{bind_ok}

-- the lines one after the other, each by its words
unfoldable pub run : Reading → ℕ → List (List (List ℕ)) → Result Reading TextCause
run s n [] = Ok s
run s n (ws ∷ wss) = words_read s n ws >>= λ t. run t (n + 1) wss

pub run_more : (s t : Reading) (n : ℕ) (a b : List (List (List ℕ))) (r : Result Reading TextCause) → run s n a ≡ Ok t → run t (n + length a) b ≡ r → run s n (a ++ b) ≡ r
unfolding run
run_more s t n [] b r e f =
    let k : s ≡ t = cc in
    let z : n + 0 ≡ n = omega arith in
    subst (λ (u : Reading). run u n b ≡ r) (sym k) (subst (λ (m : ℕ). run t m b ≡ r) z f)
run_more s t n (ws ∷ a) b r e f =
    let p = bind_ok (words_read s n ws) _ t e in
    let z : n + length (ws ∷ a) ≡ n + 1 + length a = omega arith in
    then_ok (words_read s n ws) _ p.0 r p.1 (run_more p.0 t (n + 1) a b r p.2 (subst (λ (m : ℕ). run t m b ≡ r) z f))

grown_fits : (size : ℕ) (ws : List (List ℕ)) → size + line_size ws ≤ MAX_CATALOGUE → grown size ws ≡ Ok (size + line_size ws)
grown_fits size ws le =
    let t : nat_le (size + line_size ws) MAX_CATALOGUE ≡ true = grind (arith, common_steps) in
    rw t refl

pub room_fits : (limit n : ℕ) → n < limit → room limit n ≡ Ok tt
room_fits limit n lt =
    let t : nat_lt n limit ≡ true = grind (arith, common_steps) in
    rw t refl

-- ---- tables

-- what is said of declarations alone
abbrev pub declared : List (List ℕ) → List Proc → ℕ → Reading
declared ts ps size = record { tables = ts; procs = ps; size = size; begun = None; calls = []; turns = None }

one_table : (before : List (List ℕ)) (t : List ℕ) (n size : ℕ) → table_line before (t ∷ []) ≡ Ok t → size + line_size (table_words t) ≤ MAX_CATALOGUE → words_read (declared before [] size) n (table_words t) ≡ Ok (declared (before ++ t ∷ []) [] (size + line_size (table_words t)))
unfolding words_read statement_read head is_before outer_read
one_table before t n size h le = rw (h, grown_fits size (table_words t) le) refl

pub run_tables : (before ts : List (List ℕ)) (n size : ℕ) → TablesTold before ts → size + tables_size ts ≤ MAX_CATALOGUE → run (declared before [] size) n (map table_words ts) ≡ Ok (declared (before ++ ts) [] (size + tables_size ts))
unfolding run
run_tables before [] n size h le =
    let z : size + 0 ≡ size = omega arith in
    rw (append-nil before, z) refl
run_tables before (t ∷ ts) n size h le =
    let one = one_table before t n size h.0 (omega arith) in
    let z : size + line_size (table_words t) + tables_size ts ≡ size + (line_size (table_words t) + tables_size ts) = omega arith in
    let rest = run_tables (before ++ t ∷ []) ts (n + 1) (size + line_size (table_words t)) h.1 (omega arith) in
    then_ok (words_read (declared before [] size) n (table_words t)) _ (declared (before ++ t ∷ []) [] (size + line_size (table_words t))) _ one
    (rest ∙ ap (λ (us : List (List ℕ)). Ok (declared us [] (size + line_size (table_words t) + tables_size ts))) (append_assoc before (t ∷ []) ts) ∙ ap (λ (m : ℕ). Ok (declared (before ++ t ∷ ts) [] m)) z)

-- ---- procedures

abbrev pub begun_with : List (List ℕ) → List Proc → ℕ → Begun → Reading
begun_with ts ps size b = record { tables = ts; procs = ps; size = size; begun = Some b; calls = []; turns = None }

not_comment : (h : StepHead) → begins_with 35 (step_word h) ≡ false
not_comment inner.Get = refl
not_comment inner.Put = refl
not_comment inner.Del = refl
not_comment inner.Add = refl
not_comment inner.Sub = refl
not_comment inner.Mul = refl
not_comment inner.Min = refl
not_comment inner.Max = refl
not_comment inner.Cat = refl
not_comment inner.Need = refl
not_comment inner.When = refl
not_comment inner.Done = refl
not_comment inner.Reply = refl
not_comment inner.End = refl

-- no step is added by the word `end`
step_chain : (s : Reading) (b : Begun) (k : StepHead) (ws rest : List (List ℕ)) (q : Proc) → step_added s.tables b.proc k rest ≡ Ok q
    → inner_read s b k ws rest ≡ (depth_at b.depth k >>= λ depth. step_added s.tables b.proc k rest >>= λ p. grown s.size ws >>= λ size. Ok (record s { size = size; begun = Some (record { line = b.line; proc = p; depth = depth }) }))
unfolding inner_read step_added step_line
step_chain s b inner.Get ws rest q e = refl
step_chain s b inner.Put ws rest q e = refl
step_chain s b inner.Del ws rest q e = refl
step_chain s b inner.Add ws rest q e = refl
step_chain s b inner.Sub ws rest q e = refl
step_chain s b inner.Mul ws rest q e = refl
step_chain s b inner.Min ws rest q e = refl
step_chain s b inner.Max ws rest q e = refl
step_chain s b inner.Cat ws rest q e = refl
step_chain s b inner.Need ws rest q e = refl
step_chain s b inner.When ws rest q e = refl
step_chain s b inner.Done ws rest q e = refl
step_chain s b inner.Reply ws rest q e = refl
step_chain s b inner.End ws rest q e = absurd cc

one_step_line : (ts : List (List ℕ)) (ps : List Proc) (size n : ℕ) (b : Begun) (x : Step) (f : ℕ) → StepTold ts b.proc b.depth x f → size + line_size (step_words ts x) ≤ MAX_CATALOGUE
    → words_read (begun_with ts ps size b) n (step_words ts x) ≡ Ok (begun_with ts ps (size + line_size (step_words ts x)) (record { line = b.line; proc = with_step b.proc x; depth = f }))
unfolding words_read statement_read
one_step_line ts ps size n b x f st le =
    let o = told_once ts b.proc b.depth f x st in
    let i = step_head_is st.word st.head st.first in
    let nc : begins_with 35 st.word ≡ false = ap (begins_with 35) (sym i.same) ∙ not_comment st.head in
    let s : Reading = record { tables = ts; procs = ps; size = size; begun = None; calls = []; turns = None } in
    let new : Begun = record { line = b.line; proc = with_step b.proc x; depth = f } in
    let g : grown size (st.word ∷ st.words) ≡ Ok (size + line_size (step_words ts x)) = subst (λ (ws : List (List ℕ)). grown size ws ≡ Ok (size + line_size (step_words ts x))) o.same (grown_fits size (step_words ts x) le) in
    let chain = step_chain s b st.head (st.word ∷ st.words) st.words (with_step b.proc x) st.added in
    let inside : inner_read s b st.head (st.word ∷ st.words) st.words ≡ Ok (begun_with ts ps (size + line_size (step_words ts x)) new) =
    chain ∙ then_ok (depth_at b.depth st.head) _ f _ st.depth (then_ok (step_added ts b.proc st.head st.words) _ (with_step b.proc x) _ st.added (then_ok (grown size (st.word ∷ st.words)) _ (size + line_size (step_words ts x)) _ g refl)) in
    let said : words_read (begun_with ts ps size b) n (st.word ∷ st.words) ≡ Ok (begun_with ts ps (size + line_size (step_words ts x)) new) =
    rw nc (then_ok (step_head st.word) _ st.head _ st.first inside) in
    ap (words_read (begun_with ts ps size b) n) o.same ∙ said

run_steps : (ts : List (List ℕ)) (ps : List Proc) (size n line : ℕ) (p : Proc) (d f : ℕ) (xs : List Step) → StepsTold ts p d f xs → size + steps_size ts xs ≤ MAX_CATALOGUE
    → run (begun_with ts ps size (record { line = line; proc = p; depth = d })) n (map (step_words ts) xs) ≡ Ok (begun_with ts ps (size + steps_size ts xs) (record { line = line; proc = with_steps p xs; depth = f }))
unfolding run
run_steps ts ps size n line p d f [] h le =
    let z : size + 0 ≡ size = omega arith in
    rw (append-nil p.steps, z, h) refl
run_steps ts ps size n line p d f (x ∷ xs) h le =
    let one = one_step_line ts ps size n (record { line = line; proc = p; depth = d }) x h.0 h.1 (omega arith) in
    let rest = run_steps ts ps (size + line_size (step_words ts x)) (n + 1) line (with_step p x) h.0 f xs h.2 (omega arith) in
    let z : size + line_size (step_words ts x) + steps_size ts xs ≡ size + (line_size (step_words ts x) + steps_size ts xs) = omega arith in
    then_ok (words_read (begun_with ts ps size (record { line = line; proc = p; depth = d })) n (step_words ts x)) _ (begun_with ts ps (size + line_size (step_words ts x)) (record { line = line; proc = with_step p x; depth = h.0 })) _ one
    (rest ∙ ap (λ (ys : List Step). Ok (begun_with ts ps (size + line_size (step_words ts x) + steps_size ts xs) (record { line = line; proc = record p { steps = ys }; depth = f }))) (append_assoc p.steps (x ∷ []) xs)
    ∙ ap (λ (m : ℕ). Ok (begun_with ts ps m (record { line = line; proc = with_steps p (x ∷ xs); depth = f }))) z)

abbrev pub proc_lines : List (List ℕ) → Proc → List (List (List ℕ))
proc_lines ts p = proc_words p ∷ (map (step_words ts) p.steps ++ (codes "end" ∷ []) ∷ [])

first_proc_line : (ts : List (List ℕ)) (ps : List Proc) (size n : ℕ) (p : Proc) → proc_line ps (p.name ∷ decimal p.args ∷ []) ≡ Ok (p.name, p.args) → size + line_size (proc_words p) ≤ MAX_CATALOGUE
    → words_read (declared ts ps size) n (proc_words p) ≡ Ok (begun_with ts ps (size + line_size (proc_words p)) (record { line = n; proc = record p { steps = [] }; depth = 0 }))
unfolding words_read statement_read head is_before outer_read
first_proc_line ts ps size n p h le = rw (h, grown_fits size (proc_words p) le) refl

end_line : (ts : List (List ℕ)) (ps : List Proc) (size n line : ℕ) (p : Proc) → size + line_size (codes "end" ∷ []) ≤ MAX_CATALOGUE
    → words_read (begun_with ts ps size (record { line = line; proc = p; depth = 0 })) n (codes "end" ∷ []) ≡ Ok (declared ts (ps ++ p ∷ []) (size + line_size (codes "end" ∷ [])))
unfolding words_read statement_read step_head inner_read depth_at
end_line ts ps size n line p le = rw (grown_fits size (codes "end" ∷ []) le) refl

one_proc : (ts : List (List ℕ)) (ps : List Proc) (size n : ℕ) (p : Proc) → ProcTold ts ps p → size + proc_size ts p ≤ MAX_CATALOGUE → run (declared ts ps size) n (proc_lines ts p) ≡ Ok (declared ts (ps ++ p ∷ []) (size + proc_size ts p))
unfolding run
one_proc ts ps size n p h le =
    let first = first_proc_line ts ps size n p h.line (omega arith) in
    let steps = run_steps ts ps (size + line_size (proc_words p)) (n + 1) n (record p { steps = [] }) 0 0 p.steps h.steps (omega arith) in
    let total = size + line_size (proc_words p) + steps_size ts p.steps in
    let last = end_line ts ps total (n + 1 + length (map (step_words ts) p.steps)) n p (omega arith) in
    let z : total + line_size (codes "end" ∷ []) ≡ size + proc_size ts p = omega arith in
    then_ok (words_read (declared ts ps size) n (proc_words p)) _ (begun_with ts ps (size + line_size (proc_words p)) (record { line = n; proc = record p { steps = [] }; depth = 0 })) _ first
    (run_more (begun_with ts ps (size + line_size (proc_words p)) (record { line = n; proc = record p { steps = [] }; depth = 0 })) (begun_with ts ps total (record { line = n; proc = p; depth = 0 })) (n + 1) (map (step_words ts) p.steps) ((codes "end" ∷ []) ∷ []) _ steps
    (then_ok (words_read (begun_with ts ps total (record { line = n; proc = p; depth = 0 })) (n + 1 + length (map (step_words ts) p.steps)) (codes "end" ∷ [])) _ (declared ts (ps ++ p ∷ []) (total + line_size (codes "end" ∷ []))) _ last (ap (λ (m : ℕ). Ok (declared ts (ps ++ p ∷ []) m)) z)))

pub run_procs : (ts : List (List ℕ)) (before ps : List Proc) (size n : ℕ) → ProcsTold ts before ps → size + procs_size ts ps ≤ MAX_CATALOGUE → run (declared ts before size) n (flat_map (proc_lines ts) ps) ≡ Ok (declared ts (before ++ ps) (size + procs_size ts ps))
unfolding run
run_procs ts before [] size n h le =
    let z : size + 0 ≡ size = omega arith in
    rw (append-nil before, z) refl
run_procs ts before (p ∷ ps) size n h le =
    let one = one_proc ts before size n p h.0 (omega arith) in
    let rest = run_procs ts (before ++ p ∷ []) ps (size + proc_size ts p) (n + length (proc_lines ts p)) h.1 (omega arith) in
    let z : size + proc_size ts p + procs_size ts ps ≡ size + (proc_size ts p + procs_size ts ps) = omega arith in
    run_more (declared ts before size) (declared ts (before ++ p ∷ []) (size + proc_size ts p)) n (proc_lines ts p) (flat_map (proc_lines ts) ps) _ one
    (rest ∙ ap (λ (qs : List Proc). Ok (declared ts qs (size + proc_size ts p + procs_size ts ps))) (append_assoc before (p ∷ []) ps) ∙ ap (λ (m : ℕ). Ok (declared ts (before ++ p ∷ ps) m)) z)
