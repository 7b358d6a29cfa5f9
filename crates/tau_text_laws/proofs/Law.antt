-- The canonical text of a workload that some text means, read again.
use Rattle.std.proofs.Common.{◌≡◌, ℕ, zero, suc, ◌+◌, ◌-◌, ◌≤◌, ◌<◌, Bool, true, false, cond, List, [], ◌∷◌, ◌++◌, length, map, Option, Some, None, Result, Ok, Err, codes, bytes_eq, refl, sym, ap, ◌∙◌, subst, append_assoc, length-append, inl, inr, arith}
use Rattle.std.specs.List.{flat_map}
use Rattle.std.proofs.lemmas.List.{append-nil}
use Rattle.std.proofs.lemmas.List.Concat.{flat_map-append}
use Rattle.std.proofs.lemmas.Slice.Eq.{bytes_eq-Decides}
use Rattle.tau_base.specs.declared.limits.TheConstants.{MAX_CALLS, MAX_CATALOGUE, MAX_WORKLOAD}
use Rattle.tau_base.specs.declared.value.Call.{Call}
use Rattle.tau_proc.specs.declared.proc.Proc.{Proc}
use Rattle.tau_proc.specs.declared.step.Step.{Step}
use Rattle.tau_text.specs.declared.load.Declarations.{Declarations}
use Rattle.tau_text.specs.declared.load.Workload.{Workload}
use Rattle.tau_text.specs.declared.load.Turn.{Turn}
use Rattle.tau_text.specs.declared.reading.Reading.{Reading}
use Rattle.tau_text.specs.declared.reading.Begun.{Begun}
use Rattle.tau_text.specs.declared.fault.TextFault.{TextFault}
use Rattle.tau_text.specs.Given.{◌>>=◌}
use Rattle.tau_text.specs.Lines.{lines}
use Rattle.tau_text.specs.Canonical.{behind, line_text, step_words, table_words, proc_words, call_words, turn_word, table_text, step_text, proc_text, call_text, turns_text, declarations_text, workload_text}
use Rattle.tau_text.specs.Forms.{line_size, with_step}
use Rattle.tau_text.specs.Text.{lines_read, nothing, closed, workload_of}
use Rattle.tau_text.specs.Alone.{differs, declarations_of}
use Rattle.tau_text_laws.proofs.Once.{table_once, proc_once}
use Rattle.tau_text_laws.proofs.PartsTold.{TablesTold, StepsTold, ProcTold, ProcsTold, CallsTold, TurnsTold, tables_size, steps_size, procs_size, told_once}
use Rattle.tau_text_laws.proofs.Behind.{Told, told_lines, told_nothing, bound}
use Rattle.tau_text_laws.proofs.Runs.{run, run_more, declared, run_tables, proc_lines, run_procs}
use Rattle.tau_text_laws.proofs.Whole.{calling, run_calls, told_call_once, turn_lines, turns_told, run_turns}
use Rattle.tau_text_laws.proofs.Bytes.{AreLine, AreLines, text_again, next}

-- ---- the lines of the canonical text

abbrev pub declared_lines : List (List ℕ) → List Proc → List (List (List ℕ))
declared_lines ts ps = map table_words ts ++ flat_map (proc_lines ts) ps

abbrev all_lines : Declarations → List Call → Option (List Turn) → List (List (List ℕ))
all_lines d cs o = (declared_lines d.tables d.procs ++ map (call_words d) cs) ++ turn_lines o

flat_mapped : {X Y : Type 0} (f : Y → List ℕ) (g : X → Y) (xs : List X) → flat_map f (map g xs) ≡ flat_map (λ x. f (g x)) xs
flat_mapped f g [] = refl
flat_mapped f g (x ∷ xs) = ap (λ t. f (g x) ++ t) (flat_mapped f g xs)

proc_text_is : (ts : List (List ℕ)) (p : Proc) → flat_map line_text (proc_lines ts p) ≡ proc_text ts p
proc_text_is ts p =
    let head = line_text (proc_words p) in
    let end = line_text (codes "end" ∷ []) in
    let inside = flat_map-append line_text (map (step_words ts) p.steps) ((codes "end" ∷ []) ∷ []) in
    let steps = flat_mapped line_text (step_words ts) p.steps in
    ap (λ t. head ++ t) (inside ∙ ap (λ t. t ++ (end ++ [])) steps) ∙ sym (append_assoc head (flat_map (step_text ts) p.steps) (end ++ [])) ∙ ap (λ t. (head ++ flat_map (step_text ts) p.steps) ++ t) (append-nil end)

procs_text_is : (ts : List (List ℕ)) (ps : List Proc) → flat_map line_text (flat_map (proc_lines ts) ps) ≡ flat_map (proc_text ts) ps
procs_text_is ts [] = refl
procs_text_is ts (p ∷ ps) = flat_map-append line_text (proc_lines ts p) (flat_map (proc_lines ts) ps) ∙ ap (λ t. t ++ flat_map line_text (flat_map (proc_lines ts) ps)) (proc_text_is ts p) ∙ ap (λ t. proc_text ts p ++ t) (procs_text_is ts ps)

pub declared_text_is : (d : Declarations) → flat_map line_text (declared_lines d.tables d.procs) ≡ declarations_text d
unfolding declarations_text
declared_text_is d = flat_map-append line_text (map table_words d.tables) (flat_map (proc_lines d.tables) d.procs) ∙ ap (λ t. t ++ flat_map line_text (flat_map (proc_lines d.tables) d.procs)) (flat_mapped line_text table_words d.tables) ∙ ap (λ t. flat_map table_text d.tables ++ t) (procs_text_is d.tables d.procs)

turns_text_is : (o : Option (List Turn)) → flat_map line_text (turn_lines o) ≡ turns_text o
turns_text_is None = refl
turns_text_is (Some ts) = append-nil (line_text (codes "turns" ∷ map turn_word ts))

all_text_is : (load : Workload) → flat_map line_text (all_lines load.declarations load.calls load.turns) ≡ workload_text load
unfolding workload_text
all_text_is load =
    let d = load.declarations in
    let front = declared_lines d.tables d.procs in
    let calls = map (call_words d) load.calls in
    flat_map-append line_text (front ++ calls) (turn_lines load.turns)
    ∙ ap (λ t. t ++ flat_map line_text (turn_lines load.turns)) (flat_map-append line_text front calls)
    ∙ ap (λ t. (t ++ flat_map line_text calls) ++ flat_map line_text (turn_lines load.turns)) (declared_text_is d)
    ∙ ap (λ t. (declarations_text d ++ t) ++ flat_map line_text (turn_lines load.turns)) (flat_mapped line_text (call_words d) load.calls)
    ∙ ap (λ t. (declarations_text d ++ flat_map (call_text d) load.calls) ++ t) (turns_text_is load.turns)

-- ---- each line is of words

lines_more : (a b : List (List (List ℕ))) → AreLines a → AreLines b → AreLines (a ++ b)
lines_more [] b h k = k
lines_more (l ∷ a) b h k = (h.0, lines_more a b h.1 k)

table_lines : (before ts : List (List ℕ)) → TablesTold before ts → AreLines (map table_words ts)
table_lines before [] h = tt
table_lines before (t ∷ ts) h =
    let o = table_once before (t ∷ []) t h.0 in
    ((inl (record { bytes = refl; some = omega arith }), o.words), table_lines (before ++ t ∷ []) ts h.1)

step_lines : (ts : List (List ℕ)) (p : Proc) (d f : ℕ) (xs : List Step) → StepsTold ts p d f xs → AreLines (map (step_words ts) xs)
step_lines ts p d f [] h = tt
step_lines ts p d f (x ∷ xs) h =
    let o = told_once ts p d h.0 x h.1 in
    (subst AreLine (sym o.same) o.words, step_lines ts (with_step p x) h.0 f xs h.2)

proc_all : (ts : List (List ℕ)) (before : List Proc) (p : Proc) → ProcTold ts before p → AreLines (proc_lines ts p)
proc_all ts before p h =
    let o = proc_once before _ (p.name, p.args) h.line in
    ((inl (record { bytes = refl; some = omega arith }), o.words), lines_more (map (step_words ts) p.steps) ((codes "end" ∷ []) ∷ []) (step_lines ts (record p { steps = [] }) 0 0 p.steps h.steps) ((inl (record { bytes = refl; some = omega arith }), tt), tt))

procs_all : (ts : List (List ℕ)) (before ps : List Proc) → ProcsTold ts before ps → AreLines (flat_map (proc_lines ts) ps)
procs_all ts before [] h = tt
procs_all ts before (p ∷ ps) h = lines_more (proc_lines ts p) (flat_map (proc_lines ts) ps) (proc_all ts before p h.0) (procs_all ts (before ++ p ∷ []) ps h.1)

call_lines : (ts : List (List ℕ)) (ps : List Proc) (cs : List Call) → CallsTold ts ps cs → AreLines (map (call_words (record { tables = ts; procs = ps })) cs)
call_lines ts ps [] h = tt
call_lines ts ps (c ∷ cs) h =
    let o = told_call_once ts ps c h.0 in
    (subst AreLine (sym o.same) o.words, call_lines ts ps cs h.1)

turns_all : (o : Option (List Turn)) → TurnsTold o → AreLines (turn_lines o)
turns_all None h = tt
turns_all (Some us) h = ((inl (record { bytes = refl; some = omega arith }), (turns_told us h).1.words), tt)

-- ---- the lines are read

pub declared_all : (s : Reading) → Told s → AreLines (declared_lines s.tables s.procs)
declared_all s h = lines_more (map table_words s.tables) (flat_map (proc_lines s.tables) s.procs) (table_lines [] s.tables h.tables) (procs_all s.tables [] s.procs h.procs)

declared_run : (s : Reading) → Told s → run nothing 1 (declared_lines s.tables s.procs) ≡ Ok (declared s.tables s.procs (0 + tables_size s.tables + procs_size s.tables s.procs))
declared_run s h =
    let le : 0 + tables_size s.tables + procs_size s.tables s.procs ≤ MAX_CATALOGUE = omega (arith, h.size, h.small) in
    run_more nothing (declared s.tables [] (0 + tables_size s.tables)) 1 (map table_words s.tables) (flat_map (proc_lines s.tables) s.procs) _
    (run_tables [] s.tables 1 0 h.tables (omega (arith, le)))
    (run_procs s.tables [] s.procs (0 + tables_size s.tables) (1 + length (map table_words s.tables)) h.procs le)

abbrev pub load_of : Reading → Workload
load_of s = record { declarations = record { tables = s.tables; procs = s.procs }; calls = s.calls; turns = s.turns }

all_run : (s : Reading) → Told s → run nothing 1 (all_lines (load_of s).declarations s.calls s.turns) ≡ Ok (record (calling s.tables s.procs (0 + tables_size s.tables + procs_size s.tables s.procs) s.calls) { turns = s.turns })
all_run s h =
    let size = 0 + tables_size s.tables + procs_size s.tables s.procs in
    let front = declared_lines s.tables s.procs in
    let calls = map (call_words (record { tables = s.tables; procs = s.procs })) s.calls in
    let few : length {A = Call} [] + length s.calls ≤ MAX_CALLS = omega (arith, h.few) in
    run_more nothing (calling s.tables s.procs size s.calls) 1 (front ++ calls) (turn_lines s.turns) _
    (run_more nothing (declared s.tables s.procs size) 1 front calls _ (declared_run s h) (run_calls s.tables s.procs size (1 + length front) [] s.calls h.calls few))
    (run_turns s.tables s.procs size (1 + length (front ++ calls)) s.calls s.turns h.turns)

-- ---- the law

closed_is : (s : Reading) (o : Option Begun) (load : Workload) → closed s o ≡ Ok load → load_of s ≡ load
closed_is s None load e = cc
closed_is s (Some b) load e = absurd cc

-- what is known of the workload that a text means
pub record Source (load : Workload) : Type 0 where
  pub state : Reading
  pub told : Told state
  pub same : load_of state ≡ load

pub source : (text : List ℕ) (load : Workload) → workload_of text ≡ Ok load → Source load
unfolding workload_of
source text load e =
    let a = bound (lines_read nothing 1 0 (lines text)) _ load e in
    record { state = a.0; told = told_lines nothing 1 0 (lines text) a.0 told_nothing a.1; same = closed_is a.0 a.0.begun load a.2 }

said_again : (s : Reading) → Told s → length (workload_text (load_of s)) ≤ MAX_WORKLOAD → workload_of (workload_text (load_of s)) ≡ Ok (load_of s)
unfolding workload_of
said_again s h le =
    let all = all_lines (load_of s).declarations s.calls s.turns in
    let text = all_text_is (load_of s) in
    let words = lines_more (declared_lines s.tables s.procs ++ map (call_words (load_of s).declarations) s.calls) (turn_lines s.turns)
    (lines_more (declared_lines s.tables s.procs) (map (call_words (load_of s).declarations) s.calls) (declared_all s h) (call_lines s.tables s.procs s.calls h.calls)) (turns_all s.turns h.turns) in
    let short : 0 + length (flat_map line_text all) ≤ MAX_WORKLOAD = omega (arith, ap length text, le) in
    let read = text_again nothing _ 1 0 all words (all_run s h) short in
    let again : lines_read nothing 1 0 (lines (workload_text (load_of s))) ≡ Ok (record (calling s.tables s.procs (0 + tables_size s.tables + procs_size s.tables s.procs) s.calls) { turns = s.turns }) = ap (λ t. lines_read nothing 1 0 (lines t)) (sym text) ∙ read in
    next (lines_read nothing 1 0 (lines (workload_text (load_of s)))) _ _ (Ok (load_of s)) again refl

pub canonical_read : (text : List ℕ) (load : Workload) → workload_of text ≡ Ok load → length (workload_text load) ≤ MAX_WORKLOAD → workload_of (workload_text load) ≡ Ok load
canonical_read text load e le =
    let s = source text load e in
    subst (λ (l : Workload). length (workload_text l) ≤ MAX_WORKLOAD → workload_of (workload_text l) ≡ Ok l) s.same (said_again s.state s.told) le

-- ---- declarations alone

behind_size : (ws : List (List ℕ)) → length (behind ws) ≡ 1 + line_size ws
behind_size [] = omega arith
behind_size (w ∷ ws) = omega (arith, length-append w (behind ws), behind_size ws)

line_length : (w : List ℕ) (ws : List (List ℕ)) → length (line_text (w ∷ ws)) ≡ line_size (w ∷ ws)
line_length w ws = omega (arith, length-append w (behind ws), behind_size ws)

tables_length : (ts : List (List ℕ)) → length (flat_map table_text ts) ≡ tables_size ts
tables_length [] = refl
tables_length (t ∷ ts) = omega (arith, length-append (table_text t) (flat_map table_text ts), line_length (codes "table") (t ∷ []), tables_length ts)

step_length : (ts : List (List ℕ)) (x : Step) (w : List ℕ) (ws : List (List ℕ)) → step_words ts x ≡ w ∷ ws → length (step_text ts x) ≡ line_size (step_words ts x)
step_length ts x w ws e = ap (λ (l : List (List ℕ)). length (line_text l)) e ∙ line_length w ws ∙ ap line_size (sym e)

steps_length : (ts : List (List ℕ)) (p : Proc) (d f : ℕ) (xs : List Step) → StepsTold ts p d f xs → length (flat_map (step_text ts) xs) ≡ steps_size ts xs
steps_length ts p d f [] h = refl
steps_length ts p d f (x ∷ xs) h =
    let o = told_once ts p d h.0 x h.1 in
    omega (arith, length-append (step_text ts x) (flat_map (step_text ts) xs), step_length ts x h.1.word h.1.words o.same, steps_length ts (with_step p x) h.0 f xs h.2)

procs_length : (ts : List (List ℕ)) (before ps : List Proc) → ProcsTold ts before ps → length (flat_map (proc_text ts) ps) ≡ procs_size ts ps
procs_length ts before [] h = refl
procs_length ts before (p ∷ ps) h =
    let head = line_text (proc_words p) in
    let steps = flat_map (step_text ts) p.steps in
    let end = line_text (codes "end" ∷ []) in
    omega (arith, length-append (proc_text ts p) (flat_map (proc_text ts) ps), length-append (head ++ steps) end, length-append head steps, line_length (codes "proc") (p.name ∷ Rattle.std.proofs.Common.decimal p.args ∷ []), line_length (codes "end") [], steps_length ts (record p { steps = [] }) 0 0 p.steps h.0.steps, procs_length ts (before ++ p ∷ []) ps h.1)

declared_length : (s : Reading) → Told s → length (declarations_text (load_of s).declarations) ≤ MAX_CATALOGUE
unfolding declarations_text
declared_length s h = omega (arith, length-append (flat_map table_text s.tables) (flat_map (proc_text s.tables) s.procs), tables_length s.tables, procs_length s.tables [] s.procs h.procs, h.size, h.small)

no_difference : (n : ℕ) (xs : List (List ℕ)) → differs n xs xs ≡ None
unfolding differs
no_difference n [] = refl
no_difference n (x ∷ xs) =
    let t : bytes_eq x x ≡ true = (bytes_eq-Decides x x).1 refl in
    rw (t, no_difference (n + 1) xs) refl

declared_again : (s : Reading) → Told s → declarations_of (declarations_text (load_of s).declarations) ≡ Ok (load_of s).declarations
unfolding workload_of declarations_of
declared_again s h =
    let d = (load_of s).declarations in
    let front = declared_lines s.tables s.procs in
    let text = declared_text_is d in
    let short : 0 + length (flat_map line_text front) ≤ MAX_WORKLOAD = omega (arith, ap length text, declared_length s h) in
    let read = text_again nothing _ 1 0 front (declared_all s h) (declared_run s h) short in
    let again : lines_read nothing 1 0 (lines (declarations_text d)) ≡ Ok (declared s.tables s.procs (0 + tables_size s.tables + procs_size s.tables s.procs)) = ap (λ t. lines_read nothing 1 0 (lines t)) (sym text) ∙ read in
    let means : workload_of (declarations_text d) ≡ Ok (record { declarations = d; calls = []; turns = None }) = next (lines_read nothing 1 0 (lines (declarations_text d))) _ _ _ again refl in
    next (workload_of (declarations_text d)) _ (record { declarations = d; calls = []; turns = None }) _ means (rw (no_difference 1 (lines (declarations_text d))) refl)

pub declarations_read : (text : List ℕ) (load : Workload) → workload_of text ≡ Ok load → declarations_of (declarations_text load.declarations) ≡ Ok load.declarations
declarations_read text load e =
    let s = source text load e in
    subst (λ (l : Workload). declarations_of (declarations_text l.declarations) ≡ Ok l.declarations) s.same (declared_again s.state s.told)

pub declarations_fit : (text : List ℕ) (load : Workload) → workload_of text ≡ Ok load → length (declarations_text load.declarations) ≤ MAX_CATALOGUE
declarations_fit text load e =
    let s = source text load e in
    subst (λ (l : Workload). length (declarations_text l.declarations) ≤ MAX_CATALOGUE) s.same (declared_length s.state s.told)
