-- Small steps in either style are a run of the machine, and what was told are the acknowledgements.
use Rattle.std.proofs.Common.{ℕ, ◌≡◌, inl, inr, List, ◌++◌, sym, subst}
use Rattle.std.specs.Prelude.{◌==◌, ◌&&◌, not, slice_index}
use Rattle.tau_machine.specs.State.{Setting, Core}
use Rattle.tau_machine.specs.Events.{Event, Drop, Gather, Persist, PlaceAnchor, Stop, Resume}
use Rattle.tau_machine.specs.Runs.{IsOpening}
use Rattle.tau_occ.specs.declared.style.Style.{Style}
use Rattle.tau_occ.specs.declared.style.Style.TheVariants.{Locking, Optimistic}
use Rattle.tau_text.specs.declared.load.Turn.TheVariants as turn
use Rattle.tau_run.specs.Turns.{Progress, begun, is_going, is_raised, any_left, Goes, Tells, Flushed}
use Rattle.tau_run.specs.Schedule as todo
use Rattle.tau_run.specs.Schedule.{Todo, RunState, still, Does, Acts, Steps, here, on, TakesTurn, todos_of, is_flushed, has_covered, has_turn, any_turn}
use Rattle.tau_run.specs.ScheduleLaws.{TurnsAreARun}
use Rattle.tau_run.proofs.Led.{IsQuiet, own_keeps}
use Rattle.tau_run.proofs.Acks.{IsTold, goes_told, tells_told, begun_told}
use Rattle.tau_run.proofs.Steps.{if_known}

-- what every event keeps, all steps keep
module _ (set : Setting) (m n : ℕ) (Q : Progress → Type 0) (goes : (e : Event) (p q : Progress) → IsQuiet e → Q p → Goes set m n e p q → Q q) (tells : (w : ℕ) (p q : Progress) → Q p → Tells set m n w p q → Q q) where
  same : (x y : RunState) → Q x.progress → y ≡ x → Q y.progress
  same x y q e = subst (λ (z : RunState). Q z.progress) (sym e) q

  acts : (style : Style) (w : ℕ) (x y : RunState) → Q x.progress → Acts set m n style w x y → Q y.progress
  acts style w x y q a = goes a.event x.progress y.progress (own_keeps w a.event a.own) q a.goes

  takes : (style : Style) (w : ℕ) (x y : RunState) → Q x.progress → TakesTurn set m n style w x y → Q y.progress
  takes Locking w x y q a = acts Locking w x y q a
  takes Optimistic w x y q (inl p) = subst (λ (z : RunState). Q z.progress) (sym p.after) q
  takes Optimistic w x y q (inr a) = acts Optimistic w x y q a.1

  flushed : (j : ℕ) (p q : Progress) → Q p → Flushed set m n j p q → Q q
  flushed j p q k h = if_known (slice_index p.state.gathered j == slice_index p.state.plv j) _ _ (Q q) h (λ e x. subst Q (sym x) k) (λ e x. elim x [
    | inl g ↦ goes (Persist j (slice_index p.state.gathered j)) p q tt k g
    | inr g ↦ goes (Stop j (slice_index p.state.plv j)) p q tt k g
  ])

  does : (style : Style) (t : Todo) (x : RunState) (more : List Todo) (y : RunState) → Q x.progress → Does set m n style t x more y → Q y.progress
  does style (todo.Word (turn.Worker w)) x more y q d = if_known (has_turn set m n x w) _ _ (Q y.progress) d (λ e a. takes style w x y q a.1) (λ e a. same x y q a.1)
  does style (todo.Word (turn.Manager j)) x more y q d = if_known (is_going set m n x.progress.state j) _ _ (Q y.progress) d (λ e a. goes (Gather j) x.progress y.progress tt q a.1.0) (λ e a. same x y q a.1)
  does style (todo.Word (turn.Anchor j)) x more y q d = if_known _ _ _ (Q y.progress) d.1 (λ e a. goes (PlaceAnchor j x.progress.state.plv) x.progress y.progress tt q a) (λ e a. subst Q (sym a) q)
  does style (todo.Word turn.Clerk) x more y q d = same x y q d.1
  does style (todo.Word turn.Drop) x more y q d = same x y q d.1
  does style (todo.Flush j) x more y q d = flushed j x.progress y.progress q d.1
  does style (todo.Clear w) x more y q d = if_known (has_covered set m n w x.progress.state) _ _ (Q y.progress) d (λ e a. tells w x.progress y.progress q a.1) (λ e a. same x y q a.1)
  does style (todo.Remove i) x more y q d = goes (Drop i x.progress.state.plv) x.progress y.progress tt q d.1
  does style todo.Rounds x more y q d = if_known (any_turn set m n x) _ _ (Q y.progress) d (λ e a. same x y q a.1) (λ e a. same x y q a.1)
  does style todo.LeftOver x more y q d = if_known (not (is_raised set m n x.progress.state) && any_left set m n x.progress.state) _ _ (Q y.progress) d
      (λ e a. goes (Resume a.0) x.progress y.progress tt q a.2.1) (λ e a. same x y q a.1)
  does style (todo.Alone w) x more y q d = if_known (has_turn set m n x w) _ _ (Q y.progress) d (λ e a. acts Locking w x y q a.1) (λ e a. same x y q a.1)
  does style (todo.Drain j) x more y q d = if_known (is_going set m n x.progress.state j) _ _ (Q y.progress) d (λ e a. goes (Gather j) x.progress y.progress tt q a.1.0) (λ e a. same x y q a.1)
  does style (todo.Drained j) x more y q d = if_known (is_flushed set m n j x.progress.state) _ _ (Q y.progress) d (λ e a. same x y q a.1) (λ e a. flushed j x.progress y.progress q a.1)

  pub steps_keep : (style : Style) (todos rest : List Todo) (x y : RunState) → Q x.progress → Steps set m n style todos x rest y → Q y.progress
  steps_keep style todos rest x y q here = q
  steps_keep style todos rest x y q (on {todo = t} {todos = ts} {y = a} more d s) = steps_keep style (more ++ ts) rest a y (does style t x more a q d) s

pub steps_told : (set : Setting) (m n : ℕ) (opening : Core) → IsOpening set opening → (style : Style) (todos rest : List Todo) (x : RunState) → Steps set m n style todos (still (begun opening)) rest x → IsTold set opening x.progress
steps_told set m n opening opens style todos rest x s =
    steps_keep set m n (IsTold set opening) (goes_told set m n opening opens) (tells_told set m n opening opens) style todos rest (still (begun opening)) x (begun_told set m n opening opens) s

pub turns_law : TurnsAreARun
turns_law set m n style turns opening x opens s =
    let t = steps_told set m n opening opens style (todos_of set m n turns) s.0 x s.1 in
    (record { opens = opens; leads = t.led.leads }, t.led.keep, t.told)
