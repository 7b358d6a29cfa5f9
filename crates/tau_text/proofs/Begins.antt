-- A begun procedure stays within the limits.
use Rattle.std.proofs.Common.{◌≡◌, ℕ, zero, suc, ◌<◌, List, [], ◌∷◌, ◌++◌, length, Option, None, Some, Ok, IfSome, IsTrue, refl, ap, ◌∙◌, subst, arith, length-append}
use Rattle.std.proofs.lemmas.List.Elements.{All-append, All-cons, All-nil}
use Rattle.tau_base.specs.declared.limits.TheConstants.{MAX_CALLS, MAX_STEPS}
use Rattle.tau_base.specs.declared.value.Call.{Call}
use Rattle.tau_proc.specs.declared.proc.Proc.{Proc}
use Rattle.tau_proc.specs.declared.step.Step.{Step}
use Rattle.tau_proc.specs.declared.step.Step.TheVariants as steps
use Rattle.tau_proc.specs.Limits.{open_after, open_whens, IsWellFormed}
use Rattle.tau_proc.specs.Takes.{takes}
use Rattle.tau_text.specs.declared.heads.StepHead.{StepHead}
use Rattle.tau_text.specs.declared.heads.StepHead.TheVariants as inner
use Rattle.tau_text.specs.declared.reading.Reading.{Reading}
use Rattle.tau_text.specs.declared.reading.Begun.{Begun}
use Rattle.tau_text.specs.Given.{◌>>=◌}
use Rattle.tau_text.specs.Spelled.{ended}
use Rattle.tau_text.specs.Forms.{room, get_words, put_words, del_words, sum_words, test_words, reply_words, step_line, step_added, depth_at, with_step}
use Rattle.tau_text.specs.Kept.{IsBegun, AreCalls}
use Rattle.tau_text.proofs.Binds.{bind_ok, after_ok}

open_nil : (o : Option ℕ) → open_whens o [] ≡ o
open_nil None = refl
open_nil (Some n) = refl

opens_snoc : (o : Option ℕ) (xs : List Step) (x : Step) (n : ℕ) → open_whens o xs ≡ Some n → open_whens o (xs ++ x ∷ []) ≡ open_after x n
opens_snoc None xs x n e = absurd cc
opens_snoc (Some a) [] x n e =
    let k : a ≡ n = cc in
    rw k (open_nil (open_after x n))
opens_snoc (Some a) (s ∷ ss) x n e = opens_snoc (open_after s a) ss x n e

opens_step : (ts : List (List ℕ)) (args : ℕ) (h : StepHead) (ws : List (List ℕ)) (x : Step) (d e : ℕ) → step_line ts args h ws ≡ Ok x → depth_at d h ≡ Ok e → open_after x d ≡ Some e
unfolding step_line depth_at
opens_step ts args inner.Get ws x d e p q = after_ok (λ (y : Step). open_after y d ≡ Some e) (get_words ts args ws) (λ w. steps.Get w.0 w.1 w.2) x (λ w k. rw (← k) cc) p
opens_step ts args inner.Put ws x d e p q = after_ok (λ (y : Step). open_after y d ≡ Some e) (put_words ts args ws) (λ w. steps.Put w.0 w.1 w.2) x (λ w k. rw (← k) cc) p
opens_step ts args inner.Del ws x d e p q = after_ok (λ (y : Step). open_after y d ≡ Some e) (del_words ts args ws) (λ w. steps.Del w.0 w.1) x (λ w k. rw (← k) cc) p
opens_step ts args inner.Add ws x d e p q = after_ok (λ (y : Step). open_after y d ≡ Some e) (sum_words args ws) (λ w. steps.Add w.0 w.1 w.2) x (λ w k. rw (← k) cc) p
opens_step ts args inner.Sub ws x d e p q = after_ok (λ (y : Step). open_after y d ≡ Some e) (sum_words args ws) (λ w. steps.Sub w.0 w.1 w.2) x (λ w k. rw (← k) cc) p
opens_step ts args inner.Mul ws x d e p q = after_ok (λ (y : Step). open_after y d ≡ Some e) (sum_words args ws) (λ w. steps.Mul w.0 w.1 w.2) x (λ w k. rw (← k) cc) p
opens_step ts args inner.Min ws x d e p q = after_ok (λ (y : Step). open_after y d ≡ Some e) (sum_words args ws) (λ w. steps.Min w.0 w.1 w.2) x (λ w k. rw (← k) cc) p
opens_step ts args inner.Max ws x d e p q = after_ok (λ (y : Step). open_after y d ≡ Some e) (sum_words args ws) (λ w. steps.Max w.0 w.1 w.2) x (λ w k. rw (← k) cc) p
opens_step ts args inner.Cat ws x d e p q = after_ok (λ (y : Step). open_after y d ≡ Some e) (sum_words args ws) (λ w. steps.Cat w.0 w.1 w.2) x (λ w k. rw (← k) cc) p
opens_step ts args inner.Need ws x d e p q = after_ok (λ (y : Step). open_after y d ≡ Some e) (test_words args ws) (λ w. steps.Need w.0 w.1 w.2) x (λ w k. rw (← k) cc) p
opens_step ts args inner.When ws x d e p q = after_ok (λ (y : Step). open_after y d ≡ Some e) (test_words args ws) (λ w. steps.When w.0 w.1 w.2) x (λ w k. rw (← k) cc) p
opens_step ts args inner.Done ws x zero e p q = absurd cc
opens_step ts args inner.Done ws x (suc d) e p q = after_ok (λ (y : Step). open_after y (suc d) ≡ Some e) (ended ws) (λ w. steps.Done) x (λ w k. rw (← k) cc) p
opens_step ts args inner.Reply ws x d e p q = after_ok (λ (y : Step). open_after y d ≡ Some e) (reply_words args ws) (λ w. steps.Reply w) x (λ w k. rw (← k) cc) p
opens_step ts args inner.End ws x d e p q = absurd cc

-- the step that a line adds
pub one_step : (ts : List (List ℕ)) (p q : Proc) (h : StepHead) (ws : List (List ℕ)) → step_added ts p h ws ≡ Ok q → (x : Step) × (step_line ts p.args h ws ≡ Ok x) × (with_step p x ≡ q)
unfolding step_added
one_step ts p q h ws e =
    let a = bind_ok (step_line ts p.args h ws) (λ x. room MAX_STEPS (length p.steps) >>= λ _. Ok (with_step p x)) q e in
    let b = bind_ok (room MAX_STEPS (length p.steps)) (λ _. Ok (with_step p a.0)) q a.2 in
    let same : with_step p a.0 ≡ q = cc b.2 in
    (a.0, a.1, same)

pub opens_more : (ts : List (List ℕ)) (p q : Proc) (h : StepHead) (ws : List (List ℕ)) (d e : ℕ) → step_added ts p h ws ≡ Ok q → depth_at d h ≡ Ok e → open_whens (Some 0) p.steps ≡ Some d → open_whens (Some 0) q.steps ≡ Some e
opens_more ts p q h ws d e a k o =
    let x = one_step ts p q h ws a in
    let s : open_after x.0 d ≡ Some e = opens_step ts p.args h ws x.0 d e x.1 k in
    subst (λ (r : Proc). open_whens (Some 0) r.steps ≡ Some e) x.2 (opens_snoc (Some 0) p.steps x.0 d o ∙ s)

none_open : (d e : ℕ) → depth_at d inner.End ≡ Ok e → d ≡ 0
unfolding depth_at
none_open zero e q = refl
none_open (suc d) e q = absurd cc

pub well_formed : (procs : List Proc) (b : Begun) (e : ℕ) → IsBegun procs b → depth_at b.depth inner.End ≡ Ok e → IsWellFormed b.proc
well_formed procs b e h k = record {
  steps = h.steps;
  args = h.args;
  names = h.names;
  closed = h.whens ∙ ap Some (none_open b.depth e k);
}

pub one_more_call : (procs : List Proc) (calls : List Call) (c : Call) → AreCalls procs calls → IsTrue (takes procs c) → length calls < MAX_CALLS → AreCalls procs (calls ++ c ∷ [])
one_more_call procs calls c h t lt = record {
  taken = All-append (λ (d : Call). IsTrue (takes procs d)) calls (c ∷ []) h.taken (All-cons (λ (d : Call). IsTrue (takes procs d)) c [] t (All-nil (λ (d : Call). IsTrue (takes procs d))));
  count = omega (arith, length-append calls (c ∷ []), lt);
}

pub none_begun : (s : Reading) → s.begun ≡ None → IfSome s.begun (λ b. IsBegun s.procs b × (s.calls ≡ []))
none_begun s e = rw e tt
