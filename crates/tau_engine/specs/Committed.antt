-- What calls commit in a run by turns with the word `optimistic`.
use Rattle.std.specs.Prelude.{ℕ, ◌≡◌, Bool, true, false, Some, Option, List, [], ◌∷◌, ◌++◌}
use Rattle.tau_base.specs.declared.value.LogMode.{LogMode}
use Rattle.tau_model.specs.History.{Act, Member}
use Rattle.tau_machine.specs.Events.{ready}
use Rattle.tau_machine.specs.Hands.{Hand, Txn}
use Rattle.tau_machine.specs.Stage.{Ends, stage}
use Rattle.tau_machine.specs.State.{Core, Setting}
use Rattle.tau_text.specs.declared.load.Turn.TheVariants as turn
use Rattle.tau_text.specs.declared.load.Workload.{Workload}
use Rattle.tau_core.specs.declared.state.Load.{Load}
use Rattle.tau_core.specs.View.{setting_of}
use Rattle.tau_occ.specs.declared.style.Style.TheVariants.{Optimistic}
use Rattle.tau_run.specs.Run.{Run}
use Rattle.tau_run.specs.RunFacts.{IsCoreRun, by_turns, turns_of}
use Rattle.tau_run.specs.Schedule.{Acts, RunState, Steps, Todo, Word, here, on, peeked, state_of, still, todos_of}
use Rattle.tau_run.specs.Turns.{Progress, begun}

module _ (set : Setting) (m n : ℕ) where
  -- The call that the worker commits has seen, under its locks, what it had peeked in this try; its reply and its writes are
  -- those that it had come to on what it peeked, before it took a lock.
  pub record IsAsPeeked (w : ℕ) (x : RunState) (t : Act Txn) : Type 0 where
    pub hand : Hand
    pub is : (ready set (state_of x) w).hand ≡ Some hand
    pub call : t.call.call ≡ hand.call
    pub seen : hand.seen ≡ x.peeks w
    pub ended : stage set.procs hand.call.call (x.peeks w) ≡ Ends t.effect

  -- so it is of each call that commits as the first of these things is done, if that is a worker's turn: it was not left over
  abbrev pub CommitsPeeked : Todo → RunState → RunState → Type 0
  CommitsPeeked (Word (turn.Worker w)) x y = (acts : Acts set m n Optimistic w x y) (t : Act Txn) → Member t acts.goes.new → IsAsPeeked w x t
  CommitsPeeked _ x y = Unit {0}

  -- and as each of these steps is done
  abbrev pub AllCommitPeeked : (todos rest : List Todo) (x y : RunState) → Steps set m n Optimistic todos x rest y → Type 0
  AllCommitPeeked todos rest x y here = Unit {0}
  AllCommitPeeked todos rest x y (on {todo = t} {todos = ts} {y = z} more does steps) = CommitsPeeked t x z × AllCommitPeeked (more ++ ts) rest z y steps

-- so it is of the steps of a run, whole (true) or a first part
abbrev pub RunCommitsPeeked : (whole : Bool) (n m : ℕ) (load : Workload) (l : Load) (opening : Core) (p : Progress) → by_turns Optimistic n m load whole l opening p → Type 0
RunCommitsPeeked true n m load l opening p ran = AllCommitPeeked (setting_of l) m n (todos_of (setting_of l) m n (turns_of load)) [] (still (begun opening)) (peeked p ran.0) ran.1
RunCommitsPeeked false n m load l opening p ran = AllCommitPeeked (setting_of l) m n (todos_of (setting_of l) m n (turns_of load)) ran.1.0 (still (begun opening)) (peeked p ran.0) ran.1.1

-- It is of every run of the core by turns in this style; what is said of a run of the program names one (`core` of its facts).
abbrev pub CommitsWhatItPeeked : Type 0
CommitsWhatItPeeked = (whole : Bool) (n m : ℕ) (mode : LogMode) (load : Workload) (stops : ℕ → Option ℕ) (run : Run) (core : IsCoreRun (by_turns Optimistic n m load whole) n m mode load stops run) →
    RunCommitsPeeked whole n m load core.stands_on core.opening core.progress core.chosen
