-- Runs by turns as small steps: how they are put together.
use Rattle.std.proofs.Common.{ℕ, Bool, true, false, ◌≡◌, List, [], ◌∷◌, ◌++◌, refl, sym, subst, append_assoc, append-nil}
use Rattle.tau_machine.specs.State.{Setting}
use Rattle.tau_occ.specs.declared.style.Style.{Style}
use Rattle.tau_run.specs.Turns.{IfSo}
use Rattle.tau_run.specs.Schedule.{Todo, RunState, Does, Steps, here, on, Leaves, Began}

pub if_known : (b : Bool) (A B R : Type 0) → IfSo b A B → (b ≡ true → A → R) → (b ≡ false → B → R) → R
if_known true A B R h f g = f refl h
if_known false A B R h f g = g refl h

pub if_yes : (b : Bool) (A B : Type 0) → b ≡ true → A → IfSo b A B
if_yes b A B e a = subst (λ (x : Bool). IfSo x A B) (sym e) a

pub if_not : (b : Bool) (A B : Type 0) → b ≡ false → B → IfSo b A B
if_not b A B e a = subst (λ (x : Bool). IfSo x A B) (sym e) a

module _ (set : Setting) (m n : ℕ) (style : Style) where
  -- these things were done
  abbrev pub Did : List Todo → RunState → RunState → Type 0
  Did todos x y = Leaves set m n style todos [] x y

  -- steps after steps
  pub steps_on : (todos mid rest : List Todo) (x y z : RunState) → Steps set m n style todos x mid y → Steps set m n style mid y rest z → Steps set m n style todos x rest z
  steps_on todos mid rest x y z here more = more
  steps_on todos mid rest x y z (on {todos = others} {y = a} first d s) more = on first d (steps_on (first ++ others) mid rest a y z s more)

  pub did_nothing : (x : RunState) → Did [] x x
  did_nothing x = λ later rest z s. s

  -- one step, and what it leaves to do
  pub did_step : (todo : Todo) (more : List Todo) (x y z : RunState) → Does set m n style todo x more y → Did more y z → Did (todo ∷ []) x z
  did_step todo more x y z d all = λ later rest w s. on more d (all later rest w s)

  pub did_after : (first second : List Todo) (x y z : RunState) → Did first x y → Did second y z → Did (first ++ second) x z
  did_after first second x y z a b = λ later rest w s.
      subst (λ (l : List Todo). Steps set m n style l x rest w) (sym (append_assoc first second later)) (a (second ++ later) rest w (b later rest w s))

  -- what is left becomes less
  pub leaves_on : (todos left less : List Todo) (x y z : RunState) → Leaves set m n style todos left x y → Leaves set m n style left less y z → Leaves set m n style todos less x z
  leaves_on todos left less x y z a b = λ later rest w s. a later rest w (b later rest w s)

  -- the first of what is left are done
  pub leaves_did : (todos first left : List Todo) (x y z : RunState) → Leaves set m n style todos (first ++ left) x y → Did first y z → Leaves set m n style todos left x z
  leaves_did todos first left x y z a b = λ later rest w s.
      a later rest w (subst (λ (l : List Todo). Steps set m n style l y rest w) (sym (append_assoc first left later)) (b (left ++ later) rest w s))

  -- or a part of it
  pub leaves_began : (todos left : List Todo) (x y z : RunState) → Leaves set m n style todos left x y → Began set m n style left y z → Began set m n style todos x z
  leaves_began todos left x y z a b = λ later. ((b later).0, a later (b later).0 z (b later).1)

  pub began_all : (todos : List Todo) (x y : RunState) → Did todos x y → Began set m n style todos x y
  began_all todos x y a = λ later. (later, a later later y here)

  -- nothing of them
  pub began_none : (todos : List Todo) (x : RunState) → Began set m n style todos x x
  began_none todos x = λ later. (todos ++ later, here)

  pub began_step : (todo : Todo) (more : List Todo) (x y z : RunState) → Does set m n style todo x more y → Began set m n style more y z → Began set m n style (todo ∷ []) x z
  began_step todo more x y z d part = λ later. ((part later).0, on more d (part later).1)

  -- the first ones, and a part of the second ones
  pub began_after : (first second : List Todo) (x y z : RunState) → Did first x y → Began set m n style second y z → Began set m n style (first ++ second) x z
  began_after first second x y z a b = λ later.
      ((b later).0, subst (λ (l : List Todo). Steps set m n style l x (b later).0 z) (sym (append_assoc first second later)) (a (second ++ later) (b later).0 z (b later).1))

  -- a part of the first ones
  pub began_first : (first second : List Todo) (x y : RunState) → Began set m n style first x y → Began set m n style (first ++ second) x y
  began_first first second x y a = λ later. (
    (a (second ++ later)).0,
    subst (λ (l : List Todo). Steps set m n style l x (a (second ++ later)).0 y) (sym (append_assoc first second later)) (a (second ++ later)).1,
  )

  pub did_steps : (todos : List Todo) (x y : RunState) → Did todos x y → Steps set m n style todos x [] y
  did_steps todos x y a = subst (λ (l : List Todo). Steps set m n style l x [] y) (append-nil todos) (a [] [] y here)

  pub began_steps : (todos : List Todo) (x y : RunState) → Began set m n style todos x y → (rest : List Todo) × Steps set m n style todos x rest y
  began_steps todos x y a = ((a []).0, subst (λ (l : List Todo). Steps set m n style l x (a []).0 y) (append-nil todos) (a []).1)
