-- What calls commit in a run by turns with the word `optimistic`.
use Rattle.std.proofs.Common.{ℕ, true, false, List, [], ◌∷◌, ◌++◌}
use Rattle.tau_machine.specs.Runs.{IsOpening}
use Rattle.tau_machine.specs.State.{Core, Setting}
use Rattle.tau_core.specs.View.{setting_of}
use Rattle.tau_text.specs.declared.load.Turn.{Turn}
use Rattle.tau_text.specs.declared.load.Turn.TheVariants as turn
use Rattle.tau_occ.specs.declared.style.Style.TheVariants.{Optimistic}
use Rattle.tau_run.specs.RunFacts.{turns_of}
use Rattle.tau_run.specs.Schedule as todo
use Rattle.tau_run.specs.Schedule.{RunState, Steps, Todo, here, on, peeked, still, todos_of}
use Rattle.tau_run.specs.Turns.{begun}
use Rattle.tau_run.proofs.Optimistic.{peeked_law}
use Rattle.tau_run.proofs.Steps.{steps_on}
use Rattle.tau_engine.specs.Committed.{AllCommitPeeked, CommitsPeeked, CommitsWhatItPeeked}

module _ (set : Setting) (m n : ℕ) (turns : List Turn) (opening : Core) (opens : IsOpening set opening) where
  abbrev start : RunState
  start = still (begun opening)

  at_turn : (t : Todo) (ts : List Todo) (x y : RunState) → Steps set m n Optimistic (todos_of set m n turns) start (t ∷ ts) x → CommitsPeeked set m n t x y
  at_turn (todo.Word (turn.Worker w)) ts x y before =
      λ acts t q. let p = peeked_law set m n turns opening opens w ts x y before acts t q in record { hand = p.0; is = p.1; call = p.2; seen = p.3; ended = p.4 }
  at_turn (todo.Word (turn.Manager j)) ts x y before = tt
  at_turn (todo.Word (turn.Anchor j)) ts x y before = tt
  at_turn (todo.Word turn.Clerk) ts x y before = tt
  at_turn (todo.Word turn.Drop) ts x y before = tt
  at_turn (todo.Flush j) ts x y before = tt
  at_turn (todo.Clear w) ts x y before = tt
  at_turn (todo.Remove i) ts x y before = tt
  at_turn todo.Rounds ts x y before = tt
  at_turn todo.LeftOver ts x y before = tt
  at_turn (todo.Alone w) ts x y before = tt
  at_turn (todo.Drain j) ts x y before = tt
  at_turn (todo.Drained j) ts x y before = tt

  -- what follows steps from the opening
  pub all_peeked : (todos rest : List Todo) (x y : RunState) → Steps set m n Optimistic (todos_of set m n turns) start todos x → (steps : Steps set m n Optimistic todos x rest y) → AllCommitPeeked set m n todos rest x y steps
  all_peeked todos rest x y before here = tt
  all_peeked todos rest x y before (on {todo = t} {todos = ts} {y = z} more does steps) =
      (at_turn t ts x z before, all_peeked (more ++ ts) rest z y (steps_on set m n Optimistic (todos_of set m n turns) (t ∷ ts) (more ++ ts) start x z before (on more does here)) steps)

pub peeked_committed : CommitsWhatItPeeked
peeked_committed true n m mode load stops run core =
    all_peeked (setting_of core.stands_on) m n (turns_of load) core.opening core.led.opens (todos_of (setting_of core.stands_on) m n (turns_of load)) [] (still (begun core.opening)) (peeked core.progress core.chosen.0) here core.chosen.1
peeked_committed false n m mode load stops run core =
    all_peeked (setting_of core.stands_on) m n (turns_of load) core.opening core.led.opens (todos_of (setting_of core.stands_on) m n (turns_of load)) core.chosen.1.0 (still (begun core.opening)) (peeked core.progress core.chosen.0) here core.chosen.1.1
