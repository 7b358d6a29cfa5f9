-- What holds of runs by turns as small steps.
use Rattle.std.specs.Prelude.{ℕ, ◌≡◌, ◌==◌, false, Some, List, [], ◌∷◌, ◌++◌, map}
use Rattle.std.specs.List.{filter}
use Rattle.tau_model.specs.History.{Act, Member}
use Rattle.tau_machine.specs.Stage.{Ends, stage}
use Rattle.tau_machine.specs.Hands.{Txn, Hand}
use Rattle.tau_machine.specs.State.{Setting, Core}
use Rattle.tau_machine.specs.Events.{ready}
use Rattle.tau_machine.specs.Runs as machine
use Rattle.tau_machine.specs.Runs.{IsOpening}
use Rattle.tau_occ.specs.declared.style.Style.{Style}
use Rattle.tau_occ.specs.declared.style.Style.TheVariants.{Locking, Optimistic}
use Rattle.tau_text.specs.declared.load.Turn.{Turn}
use Rattle.tau_text.specs.declared.load.Turn.TheVariants as turn
use Rattle.tau_run.specs.Run.{pair_of, below}
use Rattle.tau_run.specs.Turns.{begun}
use Rattle.tau_run.specs.Laws.{KeepCalls}
use Rattle.tau_run.specs.Schedule.{Todo, Word, LeftOver, Drain, RunState, still, state_of, any_turn, Acts, Steps, todos_of, IsWhole, IsPart}

-- No worker peeks in the style Locking.
abbrev pub LockingIsStill : Type 0
LockingIsStill = (set : Setting) (m n : ℕ) (turns : List Turn) (opening : Core) (x : RunState) → IsPart set m n Locking turns opening x → x ≡ still x.progress

-- A run by turns in either style, whole or a first part, is a run of the machine by its events, with its commit order; no call is
-- given up in it; and what it told are the acknowledgements of each worker, in their order.
abbrev pub TurnsAreARun : Type 0
TurnsAreARun = (set : Setting) (m n : ℕ) (style : Style) (turns : List Turn) (opening : Core) (x : RunState) → IsOpening set opening → IsPart set m n style turns opening x →
    machine.Run set opening x.progress.events x.progress.joined (state_of x) × KeepCalls x.progress.events
    × ((w : ℕ) → filter (λ (a : ℕ × List ℕ). set.worker_of a.0 == w) x.progress.told ≡ map pair_of ((state_of x).acked w))

-- If a call of an optimistic worker commits at its worker's turn, which is not the turn of a call that was left over, then
-- the values that it has seen under its locks are those that it peeked in this try, and its reply and its writes are those
-- that it has come to on what it peeked, before it took a lock.
abbrev pub CommitsWhatItPeeked : Type 0
CommitsWhatItPeeked = (set : Setting) (m n : ℕ) (turns : List Turn) (opening : Core) → IsOpening set opening → (w : ℕ) (rest : List Todo) (x y : RunState) →
    Steps set m n Optimistic (todos_of set m n turns) (still (begun opening)) (Word (turn.Worker w) ∷ rest) x → (acts : Acts set m n Optimistic w x y) → (t : Act Txn) → Member t acts.goes.new →
    (hand : Hand) × ((ready set (state_of x) w).hand ≡ Some hand) × (t.call.call ≡ hand.call) × (hand.seen ≡ x.peeks w) × (stage set.procs hand.call.call (x.peeks w) ≡ Ends t.effect)

-- Once the rounds of a whole run in either style have ended no worker has anything to do, nor has one peeked; and what
-- follows, the calls left over and the last drains, is done as in the style Locking.
abbrev pub EndsInLocking : Type 0
EndsInLocking = (set : Setting) (m n : ℕ) (style : Style) (turns : List Turn) (opening : Core) (x : RunState) → IsWhole set m n style turns opening x →
    (y : RunState) × (y ≡ still y.progress) × (any_turn set m n y ≡ false) × Steps set m n Locking (LeftOver ∷ (map Drain (below n) ++ Word turn.Clerk ∷ [])) y [] x
