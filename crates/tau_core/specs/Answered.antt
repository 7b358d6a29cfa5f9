-- What an answer stands for: an outcome.
use Rattle.std.specs.Prelude.{ℕ, Bool, true, false, Result, Ok, Err}
use Rattle.tau_base.specs.declared.value.Value.{Value}
use Rattle.tau_ack.specs.declared.Waiting.{Waiting}
use Rattle.tau_core.specs.declared.event.Acted.{Acted}
use Rattle.tau_core.specs.declared.event.Acted.TheVariants as acted
use Rattle.tau_core.specs.declared.event.Gathering.{Gathering}
use Rattle.tau_core.specs.declared.event.Gathering.TheVariants as gathering
use Rattle.tau_core.specs.declared.event.Phase.{Phase}
use Rattle.tau_core.specs.declared.event.Phase.TheVariants.{Stopped}
use Rattle.tau_core.specs.declared.event.Outcome.{Outcome}
use Rattle.tau_core.specs.declared.event.Outcome.TheVariants as outcome
use Rattle.tau_core.specs.Phases.{phase_of_kind}

-- an event of a worker, which has this outcome where it happened
abbrev pub outcome_by : Outcome → Acted → Outcome
outcome_by so acted.Went = so
outcome_by so (acted.Busy holder) = outcome.Busy holder
outcome_by so (acted.Other kind) = outcome.NotNow (phase_of_kind kind)
outcome_by so acted.NoMemory = outcome.NoMemory

abbrev pub went_by : Acted → Outcome
went_by a = outcome_by outcome.Went a

abbrev pub placed_by : ℕ → Acted → Outcome
placed_by start a = outcome_by (outcome.Placed start) a

abbrev pub granted_by : Value → Acted → Outcome
granted_by value a = outcome_by (outcome.Granted value) a

-- so it is of a lock, with the value of a row
pub record WithValue (holds : Outcome → Type 0) (a : Acted) : Type 0 where
  pub value : Value
  pub is : holds (granted_by value a)

-- a Gather
abbrev pub gathered_by : Gathering → Outcome
gathered_by (gathering.Upto upto) = outcome.Gathered upto
gathered_by (gathering.Stopped position) = outcome.NotNow (Stopped position)
gathered_by gathering.NoMemory = outcome.NoMemory

-- a Persist or a Stop, which may be barred
abbrev pub reached_by : {A : Type 0} → Result A Phase → Outcome
reached_by (Ok done) = outcome.Went
reached_by (Err phase) = outcome.NotNow phase

-- an Ack: whether a call is acknowledged, and which
abbrev pub acked_by : Bool → Waiting → Outcome
acked_by true call = outcome.Acked call.number call.lv
acked_by false call = outcome.NothingCovered
