-- The calls left over and the last drains of a run, in the style Locking: each thing to do as one relation.
use Rattle.std.proofs.Common.{ℕ, ◌<◌, Bool, true, false, ◌≡◌, List, [], ◌∷◌, ◌++◌, map, refl, sym, subst}
use Rattle.std.specs.Prelude.{◌&&◌, not}
use Rattle.std.proofs.lemmas.Bool.{and_parts}
use Rattle.tau_machine.specs.State.{Setting}
use Rattle.tau_machine.specs.Events.{Resume}
use Rattle.tau_occ.specs.declared.style.Style.TheVariants.{Locking}
use Rattle.tau_text.specs.declared.load.Turn.TheVariants as turn
use Rattle.tau_run.specs.Run.{below}
use Rattle.tau_run.specs.Turns.{Progress, Stays, IfSo, is_going, is_raised, any_left, Goes, Gathers, Flushed}
use Rattle.tau_run.specs.Schedule as todo
use Rattle.tau_run.specs.Schedule.{Todo, RunState, still, Does, Becomes, Acts, Steps, here, on, is_flushed, has_covered}
use Rattle.tau_run.proofs.LateSteps.{IsLate, AllLate, late_step, late_append}
use Rattle.tau_run.proofs.Still.{kept_still}
use Rattle.tau_run.proofs.Steps.{if_known, if_yes, if_not}
use Rattle.tau_step.specs.TurnParts.{has_work, Worked, Cleared, OneByOne, Clerked}

module _ (set : Setting) (m n : ℕ) where
  -- a worker's turns, until it has nothing to do
  pub data Alone (w : ℕ) : Progress → Progress → Type 0 where
    over : {p : Progress} → has_work set m n p.state w ≡ false → Alone w p p
    again : {p q p' : Progress} → Worked set m n w p q → Alone w q p' → Alone w p p'

  -- the calls left over, each alone, where no disk has failed
  pub data LeftOver : Progress → Progress → Type 0 where
    over : {p : Progress} → (not (is_raised set m n p.state) && any_left set m n p.state) ≡ false → LeftOver p p
    again : {p a b p' : Progress} (w : ℕ) → is_raised set m n p.state ≡ false → w < m → Goes set m n (Resume w) p a → Alone w a b → LeftOver b p' → LeftOver p p'

  -- the manager's turns, until it is idle or its disk has failed
  pub data Idled (j : ℕ) : Progress → Progress → Type 0 where
    failed : {p : Progress} → is_going set m n p.state j ≡ false → Idled j p p
    idle : {p p' : Progress} → Gathers set m n j p p' → is_flushed set m n j p'.state ≡ true → Idled j p p'
    again : {p p' : Progress} (q r : Progress) → is_going set m n p.state j ≡ true → Gathers set m n j p q → Flushed set m n j q r → Idled j r p' → Idled j p p'

  -- all that is meant by one of the last things to do
  abbrev pub Whole : Todo → Progress → Progress → Type 0
  Whole (todo.Word turn.Clerk) p q = Clerked set m n true p q
  Whole (todo.Clear w) p q = Cleared set m n w true p q
  Whole todo.LeftOver p q = LeftOver p q
  Whole (todo.Alone w) p q = Alone w p q
  Whole (todo.Drain j) p q = Idled j p q
  Whole (todo.Drained j) p q = IfSo (is_flushed set m n j p.state) (Stays p q) ((r : Progress) × Flushed set m n j p r × Idled j r q)
  Whole other p q = ⊥

  abbrev pub Wholes : List Todo → Progress → Progress → Type 0
  Wholes [] p q = Stays p q
  Wholes (t ∷ ts) p q = (r : Progress) × Whole t p r × Wholes ts r q

  pub wholes_append : (xs ys : List Todo) (p q : Progress) → Wholes (xs ++ ys) p q → (r : Progress) × Wholes xs p r × Wholes ys r q
  wholes_append [] ys p q h = (p, refl, h)
  wholes_append (x ∷ xs) ys p q h = let (r, a, b) = wholes_append xs ys h.0 q h.2 in (r, (h.0, h.1, a), b)

  -- one thing, and no more
  pub only : (R : Progress → Progress → Type 0) (p r q : Progress) → R p r → Stays r q → R p q
  only R p r q h e = subst (λ (x : Progress). R p x) (sym e) h

  -- of things of one kind
  each : (step : Bool → ℕ → Progress → Progress → Type 0) (word : ℕ → Todo) → ((i : ℕ) (p q : Progress) → Whole (word i) p q → step true i p q) → (xs : List ℕ) (p q : Progress) → Wholes (map word xs) p q → OneByOne set m n step true xs p q
  each step word whole [] p q h = h
  each step word whole (x ∷ xs) p q h = (h.0, whole x p h.0 h.1, each step word whole xs h.0 q h.2)

  not_raised : (p : Progress) → (not (is_raised set m n p.state) && any_left set m n p.state) ≡ true → is_raised set m n p.state ≡ false
  not_raised p e = unless (is_raised set m n p.state) (and_parts (not (is_raised set m n p.state)) (any_left set m n p.state) e).0
    where
      unless : (b : Bool) → not b ≡ true → b ≡ false
      unless false f = refl
      unless true f = absurd (let bad : false ≡ true = f in cc)

  acts_worked : (w : ℕ) (p : Progress) (y : RunState) → has_work set m n p.state w ≡ true → Acts set m n Locking w (still p) y → Worked set m n w p y.progress
  acts_worked w p y works a = if_yes (has_work set m n p.state w) _ _ works (a.event, a.own, a.goes, a.newest, a.busy, a.lowest)

  -- what is left to do of a step, in the state that it leads to
  module _ (p r : Progress) (more : List Todo) (y : RunState) where
    left : (others : List Todo) → more ≡ others → Wholes more y.progress r → Wholes others y.progress r
    left others e h = subst (λ (l : List Todo). Wholes l y.progress r) e h

    from : (others : List Todo) → Becomes others (still p) more y → Wholes more y.progress r → Wholes others p r
    from others d h = subst (λ (x : RunState). Wholes others x.progress r) d.1 (left others d.0 h)

  drained_by : (j : ℕ) (p r a : Progress) → is_going set m n p.state j ≡ true → Gathers set m n j p a → Whole (todo.Drained j) a r → Idled j p r
  drained_by j p r a going g h = if_known (is_flushed set m n j a.state) _ _ (Idled j p r) h
      (λ e x. subst (λ (q : Progress). Idled j p q) (sym x) (Idled.idle g e))
      (λ e x. Idled.again a x.0 going g x.1 x.2)

  whole_by : (t : Todo) (p r : Progress) (more : List Todo) (y : RunState) → IsLate set m n t → Does set m n Locking t (still p) more y → Wholes more y.progress r → Whole t p r
  whole_by (todo.Word (turn.Worker w)) p r more y l d h = absurd l
  whole_by (todo.Word (turn.Manager j)) p r more y l d h = absurd l
  whole_by (todo.Word (turn.Anchor j)) p r more y l d h = absurd l
  whole_by (todo.Word turn.Clerk) p r more y l d h = each (λ b w. Cleared set m n w b) todo.Clear (λ w a b k. k) (below m) p r (from p r more y (map todo.Clear (below m)) d h)
  whole_by (todo.Word turn.Drop) p r more y l d h = absurd l
  whole_by (todo.Flush j) p r more y l d h = absurd l
  whole_by (todo.Clear w) p r more y l d h = if_known (has_covered set m n w p.state) _ _ (Cleared set m n w true p r) d
      (λ e x. let c = left p r more y (todo.Clear w ∷ []) x.0 h in only (Cleared set m n w true) p c.0 r (Cleared.next x.1 c.1) c.2)
      (λ e x. only (Cleared set m n w true) p p r (Cleared.none e) (from p r more y [] x h))
  whole_by (todo.Remove i) p r more y l d h = absurd l
  whole_by todo.Rounds p r more y l d h = absurd l
  whole_by todo.LeftOver p r more y l d h = if_known (not (is_raised set m n p.state) && any_left set m n p.state) _ _ (LeftOver p r) d
      (λ e x. let (w, lt, go) = x in let c = left p r more y (todo.Alone w ∷ todo.LeftOver ∷ []) go.0 h in
      only LeftOver p c.2.0 r (LeftOver.again w (not_raised p e) lt go.1 c.1 c.2.1) c.2.2)
      (λ e x. only LeftOver p p r (LeftOver.over e) (from p r more y [] x h))
  whole_by (todo.Alone w) p r more y l d h = if_known (has_work set m n p.state w) _ _ (Alone w p r) d
      (λ e x. let c = left p r more y (todo.Alone w ∷ []) x.0 h in only (Alone w) p c.0 r (Alone.again (acts_worked w p y e x.1) c.1) c.2)
      (λ e x. only (Alone w) p p r (Alone.over e) (from p r more y [] x h))
  whole_by (todo.Drain j) p r more y l d h = if_known (is_going set m n p.state j) _ _ (Idled j p r) d
      (λ e x. let c = left p r more y (todo.Drained j ∷ []) x.0 h in only (Idled j) p c.0 r (drained_by j p c.0 y.progress e x.1 c.1) c.2)
      (λ e x. only (Idled j) p p r (Idled.failed e) (from p r more y [] x h))
  whole_by (todo.Drained j) p r more y l d h = if_known (is_flushed set m n j p.state) _ _ (Whole (todo.Drained j) p r) d
      (λ e x. if_yes (is_flushed set m n j p.state) _ _ e (from p r more y [] x h))
      (λ e x. let c = left p r more y (todo.Drain j ∷ []) x.0 h in if_not (is_flushed set m n j p.state) _ _ e (y.progress, x.1, only (Idled j) y.progress c.0 r c.1 c.2))

  pub wholes : (todos : List Todo) (x y : RunState) → Steps set m n Locking todos x [] y → AllLate set m n todos → x ≡ still x.progress → Wholes todos x.progress y.progress
  wholes todos x y here l e = refl
  wholes todos x y (on {todo = t} {todos = ts} {y = a} more d s) l e =
      let d' = subst (λ (z : RunState). Does set m n Locking t z more a) e d in
      let less = (late_step set m n Locking t x more a l.0 d).0 in
      let (q, first, second) = wholes_append more ts a.progress y.progress (wholes (more ++ ts) a y s (late_append set m n more ts less l.1) (kept_still set m n t x.progress more a d')) in
      (q, whole_by t x.progress q more a l.0 d' first, second)

  -- turns of all managers
  pub drains : (p q : Progress) → Wholes (map todo.Drain (below n)) p q → OneByOne set m n (λ b j. Idled j) true (below n) p q
  drains p q h = each (λ b j. Idled j) todo.Drain (λ j a b k. k) (below n) p q h
