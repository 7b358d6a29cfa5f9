-- Reading literals one after the other, as a loop does.
use Rattle.std.proofs.Common.{◌≡◌, ℕ, zero, suc, length, get_or, ◌-◌, ◌+◌, ◌≤◌, ◌<◌, List, [], ◌∷◌, ◌++◌, Result, Ok, Err, refl, sym, ap, ◌∙◌, append_assoc, arith}
use Rattle.std.proofs.lemmas.List.{append-nil}
use Rattle.tau_base.specs.declared.value.Value.{Value}
use Rattle.tau_text.specs.declared.fault.TextCause.{TextCause}
use Rattle.tau_text.specs.declared.fault.LineRefusal.{LineRefusal}
use Rattle.tau_text.specs.declared.fault.LineRefusal.TheVariants as refusals
use Rattle.tau_text.specs.Given.{◌>>=◌, Fails}
use Rattle.tau_text.specs.Spelled.{first, literal}
use Rattle.tau_proc.specs.declared.proc.Proc.{Proc}
use Rattle.tau_text.specs.Forms.{literals, args_at}

-- what was read before, and what is still read
abbrev pub with_front : List Value → Result (List Value × List (List ℕ)) TextCause → Result (List Value × List (List ℕ)) TextCause
with_front front read = read >>= λ x. Ok (front ++ x.0, x.1)

regroup : (front : List Value) (v : Value) (read : Result (List Value × List (List ℕ)) TextCause) → with_front front (read >>= λ x. Ok (v ∷ x.0, x.1)) ≡ with_front (front ++ v ∷ []) read
regroup front v (Ok x) = ap (λ (vs : List Value). Ok (vs, x.1)) (simp append_assoc)
regroup front v (Err f) = refl

pub goes_on : (front : List Value) (n i : ℕ) (ws : List (List ℕ)) (w : List ℕ) (after : List (List ℕ)) (v : Value) (total : Result (List Value × List (List ℕ)) TextCause) → i < n → first ws ≡ Ok (w, after) → literal w ≡ Ok v
    → with_front front (literals (n - i) ws) ≡ total → with_front (front ++ v ∷ []) (literals (n - (i + 1)) after) ≡ total
unfolding literals
goes_on front n i ws w after v total lt g h so_far =
    let k : n - i ≡ suc (n - (i + 1)) = omega arith in
    let one : with_front front (literals (n - i) ws) ≡ with_front (front ++ v ∷ []) (literals (n - (i + 1)) after) = rw (k, g, h) (regroup front v (literals (n - (i + 1)) after)) in
    sym one ∙ so_far

pub no_word : (e : LineRefusal) (front : List Value) (n i : ℕ) (ws : List (List ℕ)) (total : Result (List Value × List (List ℕ)) TextCause) → i < n → Fails e (first ws)
    → with_front front (literals (n - i) ws) ≡ total → Fails e total
unfolding literals
no_word refusals.Memory front n i ws total lt g so_far = tt
no_word (refusals.Cause f) front n i ws total lt g so_far =
    let k : n - i ≡ suc (n - (i + 1)) = omega arith in
    let one : with_front front (literals (n - i) ws) ≡ Err f = rw (k, g) refl in
    sym so_far ∙ one

pub no_literal : (e : LineRefusal) (front : List Value) (n i : ℕ) (ws : List (List ℕ)) (w : List ℕ) (after : List (List ℕ)) (total : Result (List Value × List (List ℕ)) TextCause) → i < n → first ws ≡ Ok (w, after) → Fails e (literal w)
    → with_front front (literals (n - i) ws) ≡ total → Fails e total
unfolding literals
no_literal refusals.Memory front n i ws w after total lt g h so_far = tt
no_literal (refusals.Cause f) front n i ws w after total lt g h so_far =
    let k : n - i ≡ suc (n - (i + 1)) = omega arith in
    let one : with_front front (literals (n - i) ws) ≡ Err f = rw (k, g, h) refl in
    sym so_far ∙ one

pub is_done : (front : List Value) (n i : ℕ) (ws : List (List ℕ)) (total : Result (List Value × List (List ℕ)) TextCause) → n ≤ i → with_front front (literals (n - i) ws) ≡ total → total ≡ Ok (front, ws)
unfolding literals
is_done front n i ws total le so_far =
    let k : n - i ≡ 0 = omega arith in
    let one : with_front front (literals (n - i) ws) ≡ Ok (front, ws) = rw k (ap (λ (vs : List Value). Ok (vs, ws)) (append-nil front)) in
    sym so_far ∙ one

pub args_there : (i : ℕ) (procs : List Proc) (p : Proc) → i < length procs → p ≡ get_or procs i p → args_at i procs ≡ p.args
args_there i [] p lt e = absurd (omega arith)
args_there zero (q ∷ qs) p lt e = ap (λ (r : Proc). r.args) (sym e)
args_there (suc i) (q ∷ qs) p lt e = args_there i qs p (omega arith) e
