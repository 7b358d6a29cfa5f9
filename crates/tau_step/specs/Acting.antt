-- Turns of workers.
use Rattle.std.specs.Prelude.{ℕ, ◌≡◌, Bool, true, false, None, List, Result, Ok, Err}
use Rattle.tau_base.specs.declared.value.NoMemory.{NoMemory}
use Rattle.tau_model.specs.History.{Act}
use Rattle.tau_machine.specs.Hands.{Txn}
use Rattle.tau_machine.specs.Events as machine
use Rattle.tau_core.specs.declared.event.Event.{Event}
use Rattle.tau_core.specs.declared.event.Outcome.{Outcome}
use Rattle.tau_core.specs.declared.event.Outcome.TheVariants as outcome
use Rattle.tau_core.specs.State.{Plain}
use Rattle.tau_core.specs.View.{Hidden, setting_of, core_of, worker_at}
use Rattle.tau_core.specs.Phases.{hand_phase}
use Rattle.tau_core.specs.declared.event.Phase.TheVariants.{Quitting}
use Rattle.tau_core.specs.Stands.{Stands}
use Rattle.tau_core.specs.Steps.{Steps}
use Rattle.tau_run.specs.Turns.{is_raised}
use Rattle.tau_step.specs.TurnParts.{has_work}
use Rattle.tau_step.specs.Progressed.{Comes, stays, works}

-- what an outcome means for a turn: whether anything was done, or out of memory
abbrev pub Tells : Outcome → Result Bool NoMemory → Type 0
Tells outcome.NoMemory (Ok did) = ⊥
Tells outcome.NoMemory (Err e) = Unit {0}
Tells (outcome.NotNow phase) r = r ≡ Ok false
Tells outcome.Went r = r ≡ Ok true
Tells (outcome.Granted value) r = r ≡ Ok true
Tells (outcome.Busy holder) r = r ≡ Ok true
Tells (outcome.Placed start) r = r ≡ Ok true
Tells (outcome.Gathered upto) r = r ≡ Ok true
Tells (outcome.Acked number lv) r = r ≡ Ok true
Tells outcome.NothingCovered r = r ≡ Ok true

-- an event of the core, and what it means for the turn
pub record Acts (event : Event) (r : Result Bool NoMemory) (p p' : Plain) : Type 0 where
  pub outcome : Outcome
  pub tells : Tells outcome r
  pub steps : (K : List (Act Txn)) (h : Hidden) → Stands p K h → Steps p p' K h event outcome

-- a disk has failed
abbrev pub raised : Plain → Hidden → Bool
raised p h = is_raised (setting_of p.load) p.load.workers p.load.streams (core_of p h)

abbrev pub has_work_in : Plain → Hidden → ℕ → Bool
has_work_in p h w = has_work (setting_of p.load) p.load.workers p.load.streams (core_of p h) w

-- the call in hand, where there is one, is not to quit
abbrev pub IsSettling : ℕ → Plain → Type 0
IsSettling w p = hand_phase p.load.procs (worker_at p w).hand ≡ Quitting → ⊥

-- no other worker has a call in hand
abbrev pub IsAlone : ℕ → Plain → Type 0
IsAlone w p = (u : ℕ) → (u ≡ w → ⊥) → (worker_at p u).hand ≡ None

-- the worker settles its call and leaves none over, and the others have in hand what they had
pub record Settles (w : ℕ) (p p' : Plain) : Type 0 where
  pub settling : IsSettling w p'
  pub left : (worker_at p' w).left ≡ (worker_at p w).left
  pub others : (u : ℕ) → (u ≡ w → ⊥) → (worker_at p' u).hand ≡ (worker_at p u).hand

module _ (w : ℕ) (p p' : Plain) (K : List (Act Txn)) (h : Hidden) (es : List machine.Event) (told : List (ℕ × List ℕ)) where
  -- the turn of a worker, and whether it had anything to do
  abbrev pub WorkerTurned : Result Bool NoMemory → Type 0
  WorkerTurned (Ok did) = (did ≡ has_work_in p h w) × Comes (works w) p p' told told K h es
  WorkerTurned (Err e) = Comes stays p p' told told K h es
