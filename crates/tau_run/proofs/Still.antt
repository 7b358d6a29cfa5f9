-- In the style Locking no worker peeks.
use Rattle.std.proofs.Common.{ℕ, ◌≡◌, List, [], ◌∷◌, ◌++◌, map, refl, ap, subst}
use Rattle.std.specs.Prelude.{◌&&◌, not}
use Rattle.tau_base.specs.declared.value.Key.{Key}
use Rattle.tau_base.specs.declared.value.Value.{Value}
use Rattle.tau_base.specs.declared.limits.TheConstants.{SHARDS}
use Rattle.tau_machine.specs.State.{Setting}
use Rattle.tau_occ.specs.declared.style.Style.TheVariants.{Locking}
use Rattle.tau_text.specs.declared.load.Turn.TheVariants as turn
use Rattle.tau_run.specs.Run.{below}
use Rattle.tau_run.specs.Turns.{Progress, begun, is_going, is_raised, any_left, round}
use Rattle.tau_run.specs.Schedule as todo
use Rattle.tau_run.specs.Schedule.{Todo, RunState, still, Does, Becomes, Steps, here, on, todos_of, is_flushed, has_covered, has_turn, any_turn}
use Rattle.tau_run.specs.ScheduleLaws.{LockingIsStill}
use Rattle.tau_run.proofs.Steps.{if_known}

abbrev none : ℕ → List (Key × Value)
none = λ w. []

module _ (set : Setting) (m n : ℕ) where
  -- no worker peeks
  pub kept_still : (t : Todo) (p : Progress) (more : List Todo) (y : RunState) → Does set m n Locking t (still p) more y → y ≡ still y.progress
  kept_still t p more y d = ap (λ (f : ℕ → List (Key × Value)). record { progress = y.progress; peeks = f }) (unpeeked t d)
    where
      same : (others : List Todo) → Becomes others (still p) more y → y.peeks ≡ none
      same others x = ap (λ (z : RunState). z.peeks) x.1

      unpeeked : (t : Todo) → Does set m n Locking t (still p) more y → y.peeks ≡ none
      unpeeked (todo.Word (turn.Worker w)) d = if_known (has_turn set m n (still p) w) _ _ (y.peeks ≡ none) d (λ e x. x.1.peeks) (λ e x. same [] x)
      unpeeked (todo.Word (turn.Manager j)) d = if_known (is_going set m n p.state j) _ _ (y.peeks ≡ none) d (λ e x. x.2) (λ e x. same [] x)
      unpeeked (todo.Word (turn.Anchor j)) d = d.2
      unpeeked (todo.Word turn.Clerk) d = same (map todo.Clear (below m)) d
      unpeeked (todo.Word turn.Drop) d = same (map todo.Remove (below SHARDS)) d
      unpeeked (todo.Flush j) d = d.2
      unpeeked (todo.Clear w) d = if_known (has_covered set m n w p.state) _ _ (y.peeks ≡ none) d (λ e x. x.2) (λ e x. same [] x)
      unpeeked (todo.Remove i) d = d.2
      unpeeked todo.Rounds d = if_known (any_turn set m n (still p)) _ _ (y.peeks ≡ none) d (λ e x. same (map todo.Word (round set m n) ++ todo.Rounds ∷ []) x) (λ e x. same [] x)
      unpeeked todo.LeftOver d = if_known (not (is_raised set m n p.state) && any_left set m n p.state) _ _ (y.peeks ≡ none) d (λ e x. x.2.2) (λ e x. same [] x)
      unpeeked (todo.Alone w) d = if_known (has_turn set m n (still p) w) _ _ (y.peeks ≡ none) d (λ e x. x.1.peeks) (λ e x. same [] x)
      unpeeked (todo.Drain j) d = if_known (is_going set m n p.state j) _ _ (y.peeks ≡ none) d (λ e x. x.2) (λ e x. same [] x)
      unpeeked (todo.Drained j) d = if_known (is_flushed set m n j p.state) _ _ (y.peeks ≡ none) d (λ e x. same [] x) (λ e x. x.2)

  pub steps_still : (todos rest : List Todo) (x y : RunState) → Steps set m n Locking todos x rest y → x ≡ still x.progress → y ≡ still y.progress
  steps_still todos rest x y here e = e
  steps_still todos rest x y (on {todo = t} {todos = ts} {y = a} more d s) e =
      steps_still (more ++ ts) rest a y s (kept_still t x.progress more a (subst (λ (z : RunState). Does set m n Locking t z more a) e d))

pub still_law : LockingIsStill
still_law set m n turns opening x s = steps_still set m n (todos_of set m n turns) s.0 (still (begun opening)) x s.1 refl
