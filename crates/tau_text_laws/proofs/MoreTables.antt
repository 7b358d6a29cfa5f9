-- What was read of the words of a step is read again where more tables are declared.
use Rattle.std.proofs.Common.{◌≡◌, ℕ, ◌+◌, Bool, true, false, cond, List, [], ◌∷◌, ◌++◌, length, Option, Some, Ok, bytes_eq, refl}
use Rattle.tau_base.specs.declared.limits.TheConstants.{MAX_STEPS}
use Rattle.tau_proc.specs.declared.proc.Proc.{Proc}
use Rattle.tau_proc.specs.declared.step.Operand.{Operand}
use Rattle.tau_proc.specs.declared.step.Step.{Step}
use Rattle.tau_text.specs.declared.heads.StepHead.{StepHead}
use Rattle.tau_text.specs.declared.heads.StepHead.TheVariants as inner
use Rattle.tau_text.specs.declared.fault.TextCause.TheVariants.{BadStep, UnknownName}
use Rattle.tau_text.specs.Given.{◌>>=◌, or_else}
use Rattle.tau_text.specs.Spelled.{first, name, place_from, known, register}
use Rattle.tau_text.specs.Forms.{room, get_words, put_words, del_words, step_line, step_added, with_step}
use Rattle.tau_text_laws.proofs.Binds.{then_ok}
use Rattle.tau_text_laws.proofs.Unique.{was_some}
use Rattle.tau_text.proofs.Binds.{bind_ok}

more_step : (t : Bool) (k i : ℕ) (o p : Option ℕ) → (o ≡ Some i → p ≡ Some i) → cond t (Some k) o ≡ Some i → cond t (Some k) p ≡ Some i
more_step true k i o p h e = e
more_step false k i o p h e = h e

place_more : (k i : ℕ) (w : List ℕ) (names more : List (List ℕ)) → place_from k w names ≡ Some i → place_from k w (names ++ more) ≡ Some i
unfolding place_from
place_more k i w [] more e = absurd cc
place_more k i w (n ∷ ns) more e = more_step (bytes_eq n w) k i (place_from (k + 1) w ns) (place_from (k + 1) w (ns ++ more)) (λ f. place_more (k + 1) i w ns more f) e

known_more : (names more : List (List ℕ)) (w : List ℕ) (i : ℕ) → known names w ≡ Ok i → known (names ++ more) w ≡ Ok i
unfolding known
known_more names more w i e =
    let p = bind_ok (name w) _ i e in
    let f = place_more 0 i p.0 names more (was_some UnknownName (place_from 0 p.0 names) i p.2) in
    then_ok (name w) _ p.0 (Ok i) p.1 (rw f refl)

get_more : (ts more : List (List ℕ)) (args : ℕ) (ws : List (List ℕ)) (x : ℕ × ℕ × Operand) → get_words ts args ws ≡ Ok x → get_words (ts ++ more) args ws ≡ Ok x
unfolding get_words
get_more ts more args ws x e =
    let a = bind_ok (first ws) _ x e in
    let b = bind_ok (or_else BadStep (register a.0.0)) _ x a.2 in
    let c = bind_ok (first a.0.1) _ x b.2 in
    let d = bind_ok (known ts c.0.0) _ x c.2 in
    then_ok (first ws) _ a.0 (Ok x) a.1 (then_ok (or_else BadStep (register a.0.0)) _ b.0 (Ok x) b.1 (then_ok (first a.0.1) _ c.0 (Ok x) c.1 (then_ok (known (ts ++ more) c.0.0) _ d.0 (Ok x) (known_more ts more c.0.0 d.0 d.1) d.2)))

put_more : (ts more : List (List ℕ)) (args : ℕ) (ws : List (List ℕ)) (x : ℕ × Operand × Operand) → put_words ts args ws ≡ Ok x → put_words (ts ++ more) args ws ≡ Ok x
unfolding put_words
put_more ts more args ws x e =
    let a = bind_ok (first ws) _ x e in
    let b = bind_ok (known ts a.0.0) _ x a.2 in
    then_ok (first ws) _ a.0 (Ok x) a.1 (then_ok (known (ts ++ more) a.0.0) _ b.0 (Ok x) (known_more ts more a.0.0 b.0 b.1) b.2)

del_more : (ts more : List (List ℕ)) (args : ℕ) (ws : List (List ℕ)) (x : ℕ × Operand) → del_words ts args ws ≡ Ok x → del_words (ts ++ more) args ws ≡ Ok x
unfolding del_words
del_more ts more args ws x e =
    let a = bind_ok (first ws) _ x e in
    let b = bind_ok (known ts a.0.0) _ x a.2 in
    then_ok (first ws) _ a.0 (Ok x) a.1 (then_ok (known (ts ++ more) a.0.0) _ b.0 (Ok x) (known_more ts more a.0.0 b.0 b.1) b.2)

step_more : (ts more : List (List ℕ)) (args : ℕ) (h : StepHead) (ws : List (List ℕ)) (x : Step) → step_line ts args h ws ≡ Ok x → step_line (ts ++ more) args h ws ≡ Ok x
unfolding step_line
step_more ts more args inner.Get ws x e = let p = bind_ok (get_words ts args ws) _ x e in then_ok (get_words (ts ++ more) args ws) _ p.0 (Ok x) (get_more ts more args ws p.0 p.1) p.2
step_more ts more args inner.Put ws x e = let p = bind_ok (put_words ts args ws) _ x e in then_ok (put_words (ts ++ more) args ws) _ p.0 (Ok x) (put_more ts more args ws p.0 p.1) p.2
step_more ts more args inner.Del ws x e = let p = bind_ok (del_words ts args ws) _ x e in then_ok (del_words (ts ++ more) args ws) _ p.0 (Ok x) (del_more ts more args ws p.0 p.1) p.2
step_more ts more args inner.Add ws x e = e
step_more ts more args inner.Sub ws x e = e
step_more ts more args inner.Mul ws x e = e
step_more ts more args inner.Min ws x e = e
step_more ts more args inner.Max ws x e = e
step_more ts more args inner.Cat ws x e = e
step_more ts more args inner.Need ws x e = e
step_more ts more args inner.When ws x e = e
step_more ts more args inner.Done ws x e = e
step_more ts more args inner.Reply ws x e = e
step_more ts more args inner.End ws x e = absurd cc

pub added_more : (ts more : List (List ℕ)) (p q : Proc) (h : StepHead) (ws : List (List ℕ)) → step_added ts p h ws ≡ Ok q → step_added (ts ++ more) p h ws ≡ Ok q
unfolding step_added
added_more ts more p q h ws e =
    let a = bind_ok (step_line ts p.args h ws) _ q e in
    then_ok (step_line (ts ++ more) p.args h ws) _ a.0 (Ok q) (step_more ts more p.args h ws a.0 a.1) a.2

-- the step that a line adds
pub one_step : (ts : List (List ℕ)) (p q : Proc) (h : StepHead) (ws : List (List ℕ)) → step_added ts p h ws ≡ Ok q → (x : Step) × (step_line ts p.args h ws ≡ Ok x) × (with_step p x ≡ q)
unfolding step_added
one_step ts p q h ws e =
    let a = bind_ok (step_line ts p.args h ws) (λ x. room MAX_STEPS (length p.steps) >>= λ _. Ok (with_step p x)) q e in
    let b = bind_ok (room MAX_STEPS (length p.steps)) (λ _. Ok (with_step p a.0)) q a.2 in
    let same : with_step p a.0 ≡ q = cc b.2 in
    (a.0, a.1, same)
