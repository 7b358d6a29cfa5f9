-- What the clerk tells.
use Rattle.std.specs.Prelude.{ℕ, Bool, true, false, List, length, take, slice_get, Result, Ok, Err}
use Rattle.tau_base.specs.declared.value.NoMemory.{NoMemory}
use Rattle.tau_model.specs.History.{Act}
use Rattle.tau_machine.specs.Hands.{Txn}
use Rattle.tau_machine.specs.Events.{Event}
use Rattle.tau_core.specs.State.{Plain}
use Rattle.tau_core.specs.View.{Hidden, pending_in}
use Rattle.tau_core.specs.declared.state.Load.{Load}
use Rattle.tau_run.specs.Heard.{Heard}
use Rattle.tau_run.specs.Turns.{Progress}
use Rattle.tau_step.specs.Progressed.{Comes, tells, clears}

-- A pass of the clerk, whole or cut off when out of memory. Then one call more may be acknowledged than was told, and the
-- sink was given so many lines.
module _ (R : Bool → Load → Progress → Progress → Type 0) (p p' : Plain) (acks acks' : List (ℕ × List ℕ)) (failed failed' : Bool) (heeds : Type 0) (held held' : List ℕ)
    (K : List (Act Txn)) (h : Hidden) (es : List Event) where
  pub record CutOff : Type 0 where
    pub told : List (ℕ × List ℕ)
    pub count : ℕ
    pub comes : Comes (R false) p p' acks told K h es
    pub heard : heeds → (base : List ℕ) → Heard base acks failed held → Heard base (take count told) failed' held'

  abbrev pub Passed : {A : Type 0} → Result A NoMemory → Type 0
  Passed (Ok done) = Comes (R true) p p' acks acks' K h es
  Passed (Err e) = CutOff

-- the call that is told next
module _ (w : ℕ) (p p' : Plain) (acks acks' : List (ℕ × List ℕ)) (failed failed' : Bool) (heeds : Type 0) (held held' : List ℕ)
    (K : List (Act Txn)) (h : Hidden) (es : List Event) where
  abbrev pub NextTold : Result Bool NoMemory → Type 0
  NextTold (Ok true) = Comes (tells w) p p' acks acks' K h es
  NextTold (Ok false) = Comes (clears w true) p p' acks acks' K h es
  NextTold (Err e) = CutOff (clears w) p p' acks acks' failed failed' heeds held held' K h es

-- how many calls of a worker wait
abbrev pub waiting_of : Plain → ℕ → ℕ
waiting_of p w = length (pending_in (slice_get p.seats w))
