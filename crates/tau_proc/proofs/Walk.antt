-- What one step makes of where a call stands.
use Rattle.std.proofs.Common.{◌≡◌, ℕ, zero, suc, Bool, ◌+◌, ◌≤◌, ◌<◌, List, [], ◌∷◌, length, drop, get_or, refl, sym, ap, subst, ◌∙◌, arith, drop-cons, add-one}
use Rattle.std.specs.Prelude.{IsTrue}
use Rattle.std.specs.List.{list_all}
use Rattle.std.proofs.lemmas.List.{drop_all}
use Rattle.std.proofs.lemmas.Bool.{and_parts}
use Rattle.std.specs.FinMap.{put}
use Rattle.tau_base.specs.Database.{key_cmp}
use Rattle.tau_base.specs.declared.value.Key.{Key}
use Rattle.tau_base.specs.declared.value.Value.{Value}
use Rattle.tau_proc.specs.declared.machine.Stop.TheVariants.{Row}
use Rattle.tau_proc.specs.declared.machine.Use.TheVariants as use_of
use Rattle.tau_proc.specs.declared.reply.Reply.TheVariants.{Ok, Refused}
use Rattle.tau_proc.specs.declared.running.Did.TheVariants as did
use Rattle.tau_proc.specs.declared.step.Step.{Step}
use Rattle.tau_proc.specs.Did.{did_of, after}
use Rattle.tau_proc.specs.Limits.{is_register, step_fits}
use Rattle.tau_proc.specs.Meaning.{Running, Action, Go, Ask, Refuse, action, set_register}
use Rattle.tau_proc.specs.Progress.{at_stop, KeepsCourse}
use Rattle.tau_proc.specs.Stage.{Stage, Wants, Ends, given, stage_of}
use Rattle.tau_proc.proofs.Bounds.{Bounded, action_bounded, length_put}

-- each step of a list that fits fits
fits_at : (test : Step → Bool) (steps : List Step) (i : ℕ) (d : Step) → i < length steps → IsTrue (list_all test steps) → IsTrue (test (get_or steps i d))
fits_at test [] i d lt h = absurd (omega (arith, lt))
fits_at test (s ∷ ss) zero d lt h = (and_parts (test s) (list_all test ss) h).0
fits_at test (s ∷ ss) (suc i) d lt h = fits_at test ss i d (omega (arith, lt)) (and_parts (test s) (list_all test ss) h).1

keeps_step : (args : List Value) (steps : List Step) (done : ℕ) (r : Running) → KeepsCourse args steps done r → done < length steps → (a : Action) → Bounded r a →
    KeepsCourse args steps (done + 1) (after a r)
keeps_step args steps done r k lt (Go next) b = record {
  in_bounds = omega (arith, lt);
  short = k.short;
  fits = k.fits;
  room = omega (arith, k.room, b.0);
  skips = omega (arith, k.skips, b.1);
}
keeps_step args steps done r k lt (Ask key into) b = record { in_bounds = omega (arith, lt); short = k.short; fits = k.fits; room = omega (arith, k.room); skips = omega (arith, k.skips) }
keeps_step args steps done r k lt Refuse b = record { in_bounds = omega (arith, lt); short = k.short; fits = k.fits; room = omega (arith, k.room); skips = omega (arith, k.skips) }

pub keeps_forget : (args : List Value) (steps : List Step) (done : ℕ) (r : Running) → KeepsCourse args steps done r → KeepsCourse args steps done (record r { writes = [] })
keeps_forget args steps done r k = record { in_bounds = k.in_bounds; short = k.short; fits = k.fits; room = omega (arith, k.in_bounds, k.short); skips = k.skips }

-- a built-in that wrote nothing writes a row
pub keeps_put : (args : List Value) (steps : List Step) (done : ℕ) (r : Running) (key : Key) (v : Value) → KeepsCourse args steps done r → r.writes ≡ [] → steps ≡ [] →
    KeepsCourse args steps done (record r { writes = put key_cmp key v r.writes })
keeps_put args steps done r key v k none no_steps = record {
  in_bounds = k.in_bounds;
  short = k.short;
  fits = k.fits;
  room = omega (arith, length_put key v r.writes, ap length none, ap length no_steps);
  skips = k.skips;
}

-- after the last step
pub stage_done : (args : List Value) (steps : List Step) (done : ℕ) (r : Running) → length steps ≤ done → (vs : List Value) →
    stage_of args (drop done steps) (done + 1) r vs ≡ Ends r.writes (Ok r.reply)
unfolding stage_of
stage_done args steps done r le vs = ap (λ (l : List Step). stage_of args l (done + 1) r vs) (drop_all done steps le)

goes : (r : Running) (n : ℕ) (rest : Running → List Value → Stage) (a : Action) → did_of a ≡ did.Goes → (vs : List Value) → given a r n vs rest ≡ rest (after a r) vs
goes r n rest (Go next) e vs = refl
goes r n rest (Ask key into) e vs = cc
goes r n rest Refuse e vs = cc

refuses : (r : Running) (n : ℕ) (rest : Running → List Value → Stage) (a : Action) → did_of a ≡ did.Refuses → (vs : List Value) → given a r n vs rest ≡ Ends [] (Refused n)
refuses r n rest (Go next) e vs = cc
refuses r n rest (Ask key into) e vs = cc
refuses r n rest Refuse e vs = refl

asks : (args : List Value) (steps : List Step) (done : ℕ) (r : Running) (a : Action) (key : Key) (into : ℕ) → did_of a ≡ did.Asks key into → (vs : List Value) →
    given a r done vs (λ next left. stage_of args (drop done steps) (done + 1) next left) ≡ at_stop args steps done (after a r) (Row key (use_of.Register into)) vs
asks args steps done r (Go next) key into e vs = cc
asks args steps done r Refuse key into e vs = cc
asks args steps done r (Ask k i) key into e [] = let same : k ≡ key = cc in ap Wants same
asks args steps done r (Ask k i) key into e (v ∷ vs) =
    let same : i ≡ into = cc in ap (λ (j : ℕ). stage_of args (drop done steps) (done + 1) (set_register r j v) vs) same

asks_register : (r : Running) (a : Action) (key : Key) (into : ℕ) → did_of a ≡ did.Asks key into → Bounded r a → IsTrue (is_register into)
asks_register r (Go next) key into e b = cc
asks_register r Refuse key into e b = cc
asks_register r (Ask k i) key into e b = let same : i ≡ into = cc in subst (λ (j : ℕ). IsTrue (is_register j)) same b

-- one step s, number done + 1, after which the call stands as new
module _ (args : List Value) (steps : List Step) (done : ℕ) (r : Running) (s : Step) (new : Running) (lt : done < length steps) (is : s ≡ get_or steps done s) (stands : new ≡ after (action args r s) r) where
  -- the next step stands in front of those after it
  next_step : (vs : List Value) → stage_of args (drop done steps) (done + 1) r vs ≡ given (action args r s) r (done + 1) vs (λ next left. stage_of args (drop (done + 1) steps) ((done + 1) + 1) next left)
  unfolding stage_of
  next_step vs =
      let whole : drop done steps ≡ s ∷ drop (done + 1) steps = rw add-one (drop-cons steps done s lt ∙ ap (λ (y : Step). y ∷ drop (suc done) steps) (sym is)) in
      ap (λ (l : List Step). stage_of args l (done + 1) r vs) whole

  bounded : IsTrue (list_all (step_fits (length args)) steps) → Bounded r (action args r s)
  bounded fits = action_bounded (length args) args r s (subst (λ (y : Step). IsTrue (step_fits (length args) y)) (sym is) (fits_at (step_fits (length args)) steps done s lt fits))

  pub step_keeps : KeepsCourse args steps done r → KeepsCourse args steps (done + 1) new
  step_keeps k = subst (KeepsCourse args steps (done + 1)) (sym stands) (keeps_step args steps done r k lt (action args r s) (bounded k.fits))

  pub step_goes : did_of (action args r s) ≡ did.Goes → (vs : List Value) → stage_of args (drop (done + 1) steps) ((done + 1) + 1) new vs ≡ stage_of args (drop done steps) (done + 1) r vs
  step_goes e vs = ap (λ (next : Running). stage_of args (drop (done + 1) steps) ((done + 1) + 1) next vs) stands
      ∙ sym (goes r (done + 1) (λ next left. stage_of args (drop (done + 1) steps) ((done + 1) + 1) next left) (action args r s) e vs) ∙ sym (next_step vs)

  pub step_asks : (key : Key) (into : ℕ) → did_of (action args r s) ≡ did.Asks key into → (vs : List Value) →
      at_stop args steps (done + 1) new (Row key (use_of.Register into)) vs ≡ stage_of args (drop done steps) (done + 1) r vs
  step_asks key into e vs = ap (λ (next : Running). at_stop args steps (done + 1) next (Row key (use_of.Register into)) vs) stands
      ∙ sym (asks args steps (done + 1) r (action args r s) key into e vs) ∙ sym (next_step vs)

  pub step_register : KeepsCourse args steps done r → (key : Key) (into : ℕ) → did_of (action args r s) ≡ did.Asks key into → IsTrue (is_register into)
  step_register k key into e = asks_register r (action args r s) key into e (bounded k.fits)

  pub step_refuses : did_of (action args r s) ≡ did.Refuses → (vs : List Value) → Ends [] (Refused (done + 1)) ≡ stage_of args (drop done steps) (done + 1) r vs
  step_refuses e vs = sym (refuses r (done + 1) (λ next left. stage_of args (drop (done + 1) steps) ((done + 1) + 1) next left) (action args r s) e vs) ∙ sym (next_step vs)
