-- The calls and the turns of the canonical text, and all its lines.
use Rattle.std.proofs.Common.{◌≡◌, ℕ, ◌+◌, ◌-◌, ◌≤◌, ◌<◌, ◌==◌, true, false, List, [], ◌∷◌, ◌++◌, length, map, Option, Some, None, Ok, codes, refl, sym, ap, ◌∙◌, subst, inl, append_assoc, length-append, arith}
use Rattle.std.specs.Prelude.{nat_lt}
use Rattle.std.proofs.lemmas.Grind.{common_steps}
use Rattle.std.proofs.lemmas.List.{append-nil}
use Rattle.tau_base.specs.declared.limits.TheConstants.{MAX_CALLS}
use Rattle.tau_base.specs.declared.value.Call.{Call}
use Rattle.tau_base.specs.declared.value.Value.{Value}
use Rattle.tau_proc.specs.declared.proc.Proc.{Proc}
use Rattle.tau_proc.specs.declared.procs.TheConstants.{PUT, ADD, GET, DEL, FIRST_DECLARED}
use Rattle.tau_text.specs.declared.load.Declarations.{Declarations}
use Rattle.tau_text.specs.declared.load.Turn.{Turn}
use Rattle.tau_text.specs.declared.heads.Head.{Head}
use Rattle.tau_text.specs.declared.heads.Head.TheVariants as heads
use Rattle.tau_text.specs.declared.reading.Reading.{Reading}
use Rattle.tau_text.specs.Canonical.{value_word, name_at, built_in_words, call_words, turn_word}
use Rattle.tau_text.specs.Spelled.{first, ended, known, begins_with}
use Rattle.tau_text.specs.Forms.{room, names_of, head, put_call, add_call, key_call, literals, args_at, proc_call, call_of, turns_line}
use Rattle.tau_text.specs.Text.{with_call, is_before, outer_read, placed, statement_read, words_read}
use Rattle.tau_text_laws.proofs.Binds.{then_ok}
use Rattle.tau_text_laws.proofs.Unique.{known_spells}
use Rattle.tau_text_laws.proofs.Once.{AreWords, Once, once_end, once_more}
use Rattle.tau_text_laws.proofs.WholeLines.{Is, keyed_words, head_word, head_is, once_front, put_call_once, add_call_once, key_call_once, literals_once, turns_once}
use Rattle.tau_text_laws.proofs.PartsTold.{call_read, CallTold, CallsTold, TurnsTold}
use Rattle.tau_text_laws.proofs.Runs.{run, room_fits}
use Rattle.tau_text.proofs.Binds.{bind_ok}

-- ---- the words of a call

proc_call_once : (ps : List Proc) (ws : List (List ℕ)) (c : Call) → proc_call ps ws ≡ Ok c → (i : ℕ) × (c.proc ≡ FIRST_DECLARED + i) × Once (name_at (names_of ps) i ∷ map value_word c.args.items) ws
unfolding proc_call
proc_call_once ps ws c e =
    let a = bind_ok (first ws) _ c e in
    let b = bind_ok (known (names_of ps) a.0.0) _ c a.2 in
    let l = bind_ok (literals (args_at b.0 ps) a.0.1) _ c b.2 in
    let d = bind_ok (ended l.0.1) _ c l.2 in
    let k : call_of (FIRST_DECLARED + b.0) l.0.0 ≡ c = cc d.2 in
    let t = known_spells (names_of ps) a.0.0 b.0 b.1 in
    let o = literals_once (args_at b.0 ps) a.0.1 l.0 l.1 (once_end l.0.1 d.0 d.1) in
    let once : Once (name_at (names_of ps) b.0 ∷ map value_word l.0.0) ws = once_more (name_at (names_of ps) b.0) (map value_word l.0.0) ws a.0 a.1 t.same (inl t.word) o in
    (b.0, ap (λ (x : Call). x.proc) (sym k), subst (λ (x : Call). Once (name_at (names_of ps) b.0 ∷ map value_word x.args.items) ws) k once)

built : (ts : List (List ℕ)) (word : List ℕ) (args : List Value) → built_in_words ts word args ≡ word ∷ keyed_words ts args
built ts word [] = refl
built ts word (t ∷ vs) = refl

declared_words : (d : Declarations) (c : Call) (i : ℕ) → c.proc ≡ FIRST_DECLARED + i → call_words d c ≡ codes "call" ∷ name_at (names_of d.procs) i ∷ map value_word c.args.items
declared_words d c i e =
    let p : (c.proc == PUT) ≡ false = grind (arith, common_steps) in
    let a : (c.proc == ADD) ≡ false = grind (arith, common_steps) in
    let g : (c.proc == GET) ≡ false = grind (arith, common_steps) in
    let l : (c.proc == DEL) ≡ false = grind (arith, common_steps) in
    let m : c.proc - FIRST_DECLARED ≡ i = omega arith in
    rw (p, a, g, l, m) refl

call_once : (ts : List (List ℕ)) (ps : List Proc) (k : Head) (w : List ℕ) (ws : List (List ℕ)) (c : Call) → Is (head_word k) w → call_read ts ps k ws ≡ Ok c → Once (call_words (record { tables = ts; procs = ps }) c) (w ∷ ws)
call_once ts ps heads.Put w ws c i e =
    let p = bind_ok (put_call ts ws) _ c e in
    let k : call_of PUT p.0 ≡ c = cc p.2 in
    let o = once_front (codes "put") w (keyed_words ts p.0) ws i (put_call_once ts ws p.0 p.1) in
    subst (λ (x : Call). Once (call_words (record { tables = ts; procs = ps }) x) (w ∷ ws)) k (subst (λ (vs : List (List ℕ)). Once vs (w ∷ ws)) (sym (built ts (codes "put") p.0)) o)
call_once ts ps heads.Add w ws c i e =
    let p = bind_ok (add_call ts ws) _ c e in
    let k : call_of ADD p.0 ≡ c = cc p.2 in
    let o = once_front (codes "add") w (keyed_words ts p.0) ws i (add_call_once ts ws p.0 p.1) in
    subst (λ (x : Call). Once (call_words (record { tables = ts; procs = ps }) x) (w ∷ ws)) k (subst (λ (vs : List (List ℕ)). Once vs (w ∷ ws)) (sym (built ts (codes "add") p.0)) o)
call_once ts ps heads.Get w ws c i e =
    let p = bind_ok (key_call ts ws) _ c e in
    let k : call_of GET p.0 ≡ c = cc p.2 in
    let o = once_front (codes "get") w (keyed_words ts p.0) ws i (key_call_once ts ws p.0 p.1) in
    subst (λ (x : Call). Once (call_words (record { tables = ts; procs = ps }) x) (w ∷ ws)) k (subst (λ (vs : List (List ℕ)). Once vs (w ∷ ws)) (sym (built ts (codes "get") p.0)) o)
call_once ts ps heads.Del w ws c i e =
    let p = bind_ok (key_call ts ws) _ c e in
    let k : call_of DEL p.0 ≡ c = cc p.2 in
    let o = once_front (codes "del") w (keyed_words ts p.0) ws i (key_call_once ts ws p.0 p.1) in
    subst (λ (x : Call). Once (call_words (record { tables = ts; procs = ps }) x) (w ∷ ws)) k (subst (λ (vs : List (List ℕ)). Once vs (w ∷ ws)) (sym (built ts (codes "del") p.0)) o)
call_once ts ps heads.Call w ws c i e =
    let p = proc_call_once ps ws c e in
    let o = once_front (codes "call") w _ ws i p.2 in
    subst (λ (vs : List (List ℕ)). Once vs (w ∷ ws)) (sym (declared_words (record { tables = ts; procs = ps }) c p.0 p.1)) o
call_once ts ps heads.Table w ws c i e = absurd cc
call_once ts ps heads.Proc w ws c i e = absurd cc
call_once ts ps heads.Turns w ws c i e = absurd cc

pub told_call_once : (ts : List (List ℕ)) (ps : List Proc) (c : Call) (s : CallTold ts ps c) → Once (call_words (record { tables = ts; procs = ps }) c) (s.word ∷ s.words)
told_call_once ts ps c s = call_once ts ps s.kind s.word s.words c (head_is s.word s.kind s.first) s.read

-- ---- calls

abbrev pub calling : List (List ℕ) → List Proc → ℕ → List Call → Reading
calling ts ps size cs = record { tables = ts; procs = ps; size = size; begun = None; calls = cs; turns = None }

no_comment : (k : Head) → begins_with 35 (head_word k) ≡ false
no_comment heads.Table = refl
no_comment heads.Proc = refl
no_comment heads.Put = refl
no_comment heads.Add = refl
no_comment heads.Get = refl
no_comment heads.Del = refl
no_comment heads.Call = refl
no_comment heads.Turns = refl

outer_call : (ts : List (List ℕ)) (ps : List Proc) (size n : ℕ) (cs : List Call) (k : Head) (ws rest : List (List ℕ)) (c : Call) → call_read ts ps k rest ≡ Ok c
    → (is_before k (calling ts ps size cs) ≡ true) × (outer_read (calling ts ps size cs) n k ws rest ≡ with_call (calling ts ps size cs) (call_read ts ps k rest))
unfolding is_before outer_read
outer_call ts ps size n cs heads.Put ws rest c e = (refl, refl)
outer_call ts ps size n cs heads.Add ws rest c e = (refl, refl)
outer_call ts ps size n cs heads.Get ws rest c e = (refl, refl)
outer_call ts ps size n cs heads.Del ws rest c e = (refl, refl)
outer_call ts ps size n cs heads.Call ws rest c e = (refl, refl)
outer_call ts ps size n cs heads.Table ws rest c e = absurd cc
outer_call ts ps size n cs heads.Proc ws rest c e = absurd cc
outer_call ts ps size n cs heads.Turns ws rest c e = absurd cc

one_call : (ts : List (List ℕ)) (ps : List Proc) (size n : ℕ) (before : List Call) (c : Call) → CallTold ts ps c → length before < MAX_CALLS
    → words_read (calling ts ps size before) n (call_words (record { tables = ts; procs = ps }) c) ≡ Ok (calling ts ps size (before ++ c ∷ []))
unfolding words_read statement_read
one_call ts ps size n before c s lt =
    let st = calling ts ps size before in
    let o = told_call_once ts ps c s in
    let i = head_is s.word s.kind s.first in
    let nc : begins_with 35 s.word ≡ false = ap (begins_with 35) (sym i.same) ∙ no_comment s.kind in
    let q = outer_call ts ps size n before s.kind (s.word ∷ s.words) s.words c s.read in
    let here : placed st s.kind ≡ Ok s.kind = rw q.0 refl in
    let said : with_call st (call_read ts ps s.kind s.words) ≡ Ok (calling ts ps size (before ++ c ∷ [])) =
    then_ok (call_read ts ps s.kind s.words) _ c _ s.read (then_ok (room MAX_CALLS (length before)) _ tt _ (room_fits MAX_CALLS (length before) lt) refl) in
    let line : words_read st n (s.word ∷ s.words) ≡ Ok (calling ts ps size (before ++ c ∷ [])) =
    rw nc (then_ok (head s.word) _ s.kind _ s.first (then_ok (placed st s.kind) _ s.kind _ here (q.1 ∙ said))) in
    ap (words_read st n) o.same ∙ line

pub run_calls : (ts : List (List ℕ)) (ps : List Proc) (size n : ℕ) (before cs : List Call) → CallsTold ts ps cs → length before + length cs ≤ MAX_CALLS
    → run (calling ts ps size before) n (map (call_words (record { tables = ts; procs = ps })) cs) ≡ Ok (calling ts ps size (before ++ cs))
unfolding run
run_calls ts ps size n before [] h le = rw (append-nil before) refl
run_calls ts ps size n before (c ∷ cs) h le =
    let one = one_call ts ps size n before c h.0 (omega arith) in
    let few : length (before ++ c ∷ []) + length cs ≤ MAX_CALLS = omega (arith, length-append before (c ∷ [])) in
    let rest = run_calls ts ps size (n + 1) (before ++ c ∷ []) cs h.1 few in
    then_ok (words_read (calling ts ps size before) n (call_words (record { tables = ts; procs = ps }) c)) _ (calling ts ps size (before ++ c ∷ [])) _ one
    (rest ∙ ap (λ (ds : List Call). Ok (calling ts ps size ds)) (append_assoc before (c ∷ []) cs))

-- ---- turns

abbrev pub turn_lines : Option (List Turn) → List (List (List ℕ))
turn_lines None = []
turn_lines (Some ts) = (codes "turns" ∷ map turn_word ts) ∷ []

pub turns_told : (us : List Turn) → TurnsTold (Some us) → (turns_line [] (map turn_word us) ≡ Ok us) × Once (map turn_word us) (map turn_word us)
turns_told us h =
    let o = turns_once [] us h.0 h.1 in
    let same : map turn_word us ≡ h.0 = ap (map turn_word) (sym o.all) ∙ o.once.same in
    (ap (turns_line []) same ∙ h.1, record { same = refl; words = subst AreWords (sym same) o.once.words })

pub run_turns : (ts : List (List ℕ)) (ps : List Proc) (size n : ℕ) (cs : List Call) (o : Option (List Turn)) → TurnsTold o → run (calling ts ps size cs) n (turn_lines o) ≡ Ok (record (calling ts ps size cs) { turns = o })
unfolding run words_read statement_read head is_before outer_read
run_turns ts ps size n cs None h = refl
run_turns ts ps size n cs (Some us) h = rw (turns_told us h).0 refl
