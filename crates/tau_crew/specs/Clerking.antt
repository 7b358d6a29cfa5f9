-- What the clerk has told, and what it is to tell.
use Rattle.std.specs.Prelude.{ℕ, ◌≡◌, Bool, true, false, Option, Some, None, List, [], ◌∷◌, ◌++◌}
use Rattle.tau_report.specs.Report.{ack_lines}
use Rattle.tau_core.specs.declared.state.Load.{Load}
use Rattle.tau_run.specs.Heard.{HeardFront}
use Rattle.tau_desk.specs.Manages.{acked_in}
use Rattle.tau_desk.specs.Seats.{PlainClerkSeat}
use Rattle.tau_crew_facts.specs.Telling.{IsTelling}
use Rattle.tau_crew.specs.declared.told.Told.{Told}
use Rattle.tau_crew.specs.Gathering.{raised_in}

-- the sink holds the lines of the first of these calls after what it held at first, and those of the others are still to be written
pub record IsWaiting (base : List ℕ) (acks : List (ℕ × List ℕ)) (lines held : List ℕ) : Type 0 where
  pub told : List (ℕ × List ℕ)
  pub more : List (ℕ × List ℕ)
  pub is : acks ≡ told ++ more
  pub held_is : held ≡ base ++ ack_lines told
  pub lines_are : lines ≡ ack_lines more

-- or it has failed, and holds a first part
abbrev pub IsSoFar : List ℕ → List (ℕ × List ℕ) → List ℕ → Bool → List ℕ → Type 0
IsSoFar base acks lines false held = IsWaiting base acks lines held
IsSoFar base acks lines true held = HeardFront base acks held

abbrev pub IsToldSoFar : List ℕ → Told → List ℕ → Type 0
IsToldSoFar base t held = IsSoFar base t.acks t.lines.items t.sink_failed held

-- all calls that were acknowledged, with one that is missing for lack of memory
abbrev pub with_missing : List (ℕ × List ℕ) → Option (ℕ × List ℕ) → List (ℕ × List ℕ)
with_missing acks None = acks
with_missing acks (Some a) = acks ++ a ∷ []

abbrev pub all_told : Told → List (ℕ × List ℕ)
all_told t = with_missing t.acks t.missing

-- what the view has acknowledged is what was told, and what it has seen covers that
abbrev pub Tells : Load → PlainClerkSeat → Told → Type 0
Tells l s t = IsTelling l (acked_in s.me.0) s.seen (all_told t)

abbrev pub KeepsTelling : Load → PlainClerkSeat → PlainClerkSeat → Told → Told → Type 0
KeepsTelling l s s' t t' = Tells l s t → Tells l s' t'

-- the seat stays at its desk
pub record IsSameClerk (s s' : PlainClerkSeat) : Type 0 where
  pub table : s'.table_id ≡ s.table_id
  pub opened : s'.me.0.opened ≡ s.me.0.opened

-- The clerk has acknowledged calls of what it has seen, and put them to what it tells; nothing is written by that.
pub record Acknowledges (l : Load) (s s' : PlainClerkSeat) (t t' : Told) : Type 0 where
  pub tells : KeepsTelling l s s' t t'
  pub same : IsSameClerk s s'
  pub raised : raised_in s'.me.0 ≡ raised_in s.me.0
  pub heard : (base held : List ℕ) → IsToldSoFar base t held → IsToldSoFar base t' held
  pub sink : t'.sink_failed ≡ t.sink_failed
