-- What a worker that gives no call up keeps.
use Rattle.std.specs.Prelude.{ℕ, ◌≤◌, ◌≡◌, false, Some}
use Rattle.tau_machine.specs.State.{Core}
use Rattle.tau_machine.specs.Accounts.{in_worker}
use Rattle.tau_machine.specs.Events.{Event, Quit}
use Rattle.tau_machine.specs.Hands.{Hand}
use Rattle.tau_machine.specs.Worker.{Worker}

-- the call in hand is not given up
abbrev pub Steady : Worker → Type 0
Steady wk = (h : Hand) → wk.hand ≡ Some h → h.given_up ≡ false

-- it has lost no call
pub record Keeps (wk wk' : Worker) : Type 0 where
  pub all : (n : ℕ) → in_worker n wk ≤ in_worker n wk'
  pub steady : Steady wk'

-- the event gives no call of worker u up
abbrev pub KeepsOf : ℕ → Event → Type 0
KeepsOf u (Quit w up) = u ≡ w → up ≡ false
KeepsOf u _ = Unit {0}

-- each of so many calls is still with some worker
abbrev pub NoneLost : ℕ → Core → Type 0
NoneLost calls s = (k : ℕ) → 1 ≤ k → k ≤ calls → (w : ℕ) × (1 ≤ in_worker k (s.workers w))
