-- How far a run has come: the core in the words of runs by turns.
use Rattle.std.specs.Prelude.{ℕ, ◌≡◌, Bool, true, List}
use Rattle.tau_base.specs.declared.limits.TheConstants.{SHARDS}
use Rattle.tau_model.specs.History.{Act}
use Rattle.tau_machine.specs.Hands.{Txn}
use Rattle.tau_machine.specs.Events.{Event}
use Rattle.tau_core.specs.State.{Plain}
use Rattle.tau_core.specs.declared.state.Load.{Load}
use Rattle.tau_core.specs.View.{Hidden, setting_of, core_of}
use Rattle.tau_core.specs.Stands.{Stands}
use Rattle.tau_run.specs.Run.{below}
use Rattle.tau_run.specs.Turns.{Progress, Stays, Tells}
use Rattle.tau_step.specs.TurnParts.{Worked, Cleared, Clerked, OneByOne, DropOf, AnchoredPart}

-- these events led to the core, these calls committed in this order, and these acknowledgements were told
abbrev pub progress : Plain → Hidden → List Event → List (Act Txn) → List (ℕ × List ℕ) → Progress
progress p h es K told = record { state = core_of p h; events = es; joined = K; told = told }

-- From a core that stands comes one that stands, and R is what happened on the way. No bytes were handed out.
pub record Comes (R : Load → Progress → Progress → Type 0) (p p' : Plain) (told told' : List (ℕ × List ℕ)) (K : List (Act Txn)) (h : Hidden) (es : List Event) : Type 0 where
  pub hidden : Hidden
  pub order : List (Act Txn)
  pub events : List Event
  pub stands : Stands p' order hidden
  pub load : p'.load ≡ p.load
  pub taken : hidden.taken ≡ h.taken
  pub moved : R p.load (progress p h es K told) (progress p' hidden events order told')

-- what happens in turns of the run that stands on this
abbrev pub stays : Load → Progress → Progress → Type 0
stays l P P' = Stays P P'

abbrev pub works : ℕ → Load → Progress → Progress → Type 0
works w l P P' = Worked (setting_of l) l.workers l.streams w P P'

abbrev pub tells : ℕ → Load → Progress → Progress → Type 0
tells w l P P' = Tells (setting_of l) l.workers l.streams w P P'

abbrev pub clears : ℕ → Bool → Load → Progress → Progress → Type 0
clears w whole l P P' = Cleared (setting_of l) l.workers l.streams w whole P P'

abbrev pub clerks : Bool → Load → Progress → Progress → Type 0
clerks whole l P P' = Clerked (setting_of l) l.workers l.streams whole P P'

abbrev pub drops_one : ℕ → Load → Progress → Progress → Type 0
drops_one i l P P' = DropOf (setting_of l) l.workers l.streams true i P P'

abbrev pub drops : Bool → Load → Progress → Progress → Type 0
drops whole l P P' = OneByOne (setting_of l) l.workers l.streams (DropOf (setting_of l) l.workers l.streams) whole (below SHARDS) P P'

abbrev pub anchors : Bool → ℕ → Load → Progress → Progress → Type 0
anchors whole j l P P' = AnchoredPart (setting_of l) l.workers l.streams whole j P P'
