-- No event changes what the run stands on.
use Rattle.std.proofs.Common.{◌≡◌, inl, inr, List}
use Rattle.tau_model.specs.History.{Act}
use Rattle.tau_machine.specs.Hands.{Txn}
use Rattle.tau_core.specs.declared.event.Event.{Event}
use Rattle.tau_core.specs.declared.event.Event.TheVariants as event
use Rattle.tau_core.specs.declared.event.Outcome.{Outcome}
use Rattle.tau_core.specs.declared.event.Outcome.TheVariants as outcome
use Rattle.tau_core.specs.State.{Plain}
use Rattle.tau_core.specs.View.{Hidden}
use Rattle.tau_core.specs.Stands.{Stands, Stood}
use Rattle.tau_core.specs.Steps.{Steps}

module _ (p p' : Plain) (K : List (Act Txn)) (h : Hidden) where
  steps_load : (e : Event) (o : Outcome) → Steps p p' K h e o → p'.load ≡ p.load
  steps_load (event.Lock w) outcome.Went q = absurd q
  steps_load (event.Lock w) (outcome.Granted v) q = q.0.load
  steps_load (event.Lock w) (outcome.Busy u') q = q.0.load
  steps_load (event.Lock w) (outcome.Placed at) q = absurd q
  steps_load (event.Lock w) (outcome.Gathered at) q = absurd q
  steps_load (event.Lock w) (outcome.Acked n lv) q = absurd q
  steps_load (event.Lock w) outcome.NothingCovered q = absurd q
  steps_load (event.Lock w) (outcome.NotNow phase) q = q.0.load
  steps_load (event.Lock w) outcome.NoMemory q = q.0.load
  steps_load (event.Quit w) outcome.Went q = q.0.load
  steps_load (event.Quit w) (outcome.Granted v) q = absurd q
  steps_load (event.Quit w) (outcome.Busy u') q = absurd q
  steps_load (event.Quit w) (outcome.Placed at) q = absurd q
  steps_load (event.Quit w) (outcome.Gathered at) q = absurd q
  steps_load (event.Quit w) (outcome.Acked n lv) q = absurd q
  steps_load (event.Quit w) outcome.NothingCovered q = absurd q
  steps_load (event.Quit w) (outcome.NotNow phase) q = q.0.load
  steps_load (event.Quit w) outcome.NoMemory q = absurd q
  steps_load (event.Commit w) outcome.Went q = absurd q
  steps_load (event.Commit w) (outcome.Granted v) q = absurd q
  steps_load (event.Commit w) (outcome.Busy u') q = absurd q
  steps_load (event.Commit w) (outcome.Placed at) q = q.0.load
  steps_load (event.Commit w) (outcome.Gathered at) q = absurd q
  steps_load (event.Commit w) (outcome.Acked n lv) q = absurd q
  steps_load (event.Commit w) outcome.NothingCovered q = absurd q
  steps_load (event.Commit w) (outcome.NotNow phase) q = q.0.load
  steps_load (event.Commit w) outcome.NoMemory q = q.0.load
  steps_load (event.Post w) outcome.Went q = q.load
  steps_load (event.Post w) (outcome.Granted v) q = absurd q
  steps_load (event.Post w) (outcome.Busy u') q = absurd q
  steps_load (event.Post w) (outcome.Placed at) q = absurd q
  steps_load (event.Post w) (outcome.Gathered at) q = absurd q
  steps_load (event.Post w) (outcome.Acked n lv) q = absurd q
  steps_load (event.Post w) outcome.NothingCovered q = absurd q
  steps_load (event.Post w) (outcome.NotNow phase) q = q.0.load
  steps_load (event.Post w) outcome.NoMemory q = absurd q
  steps_load (event.Free w) outcome.Went (inl q) = q.load
  steps_load (event.Free w) outcome.Went (inr q) = q.load
  steps_load (event.Free w) (outcome.Granted v) q = absurd q
  steps_load (event.Free w) (outcome.Busy u') q = absurd q
  steps_load (event.Free w) (outcome.Placed at) q = absurd q
  steps_load (event.Free w) (outcome.Gathered at) q = absurd q
  steps_load (event.Free w) (outcome.Acked n lv) q = absurd q
  steps_load (event.Free w) outcome.NothingCovered q = absurd q
  steps_load (event.Free w) (outcome.NotNow phase) q = q.0.load
  steps_load (event.Free w) outcome.NoMemory q = absurd q
  steps_load (event.Done w) outcome.Went (inl q) = q.load
  steps_load (event.Done w) outcome.Went (inr q) = q.load
  steps_load (event.Done w) (outcome.Granted v) q = absurd q
  steps_load (event.Done w) (outcome.Busy u') q = absurd q
  steps_load (event.Done w) (outcome.Placed at) q = absurd q
  steps_load (event.Done w) (outcome.Gathered at) q = absurd q
  steps_load (event.Done w) (outcome.Acked n lv) q = absurd q
  steps_load (event.Done w) outcome.NothingCovered q = absurd q
  steps_load (event.Done w) (outcome.NotNow phase) q = q.0.load
  steps_load (event.Done w) outcome.NoMemory q = q.0.load
  steps_load (event.Drop i) outcome.Went q = q.load
  steps_load (event.Drop i) (outcome.Granted v) q = absurd q
  steps_load (event.Drop i) (outcome.Busy u') q = absurd q
  steps_load (event.Drop i) (outcome.Placed at) q = absurd q
  steps_load (event.Drop i) (outcome.Gathered at) q = absurd q
  steps_load (event.Drop i) (outcome.Acked n lv) q = absurd q
  steps_load (event.Drop i) outcome.NothingCovered q = absurd q
  steps_load (event.Drop i) (outcome.NotNow phase) q = absurd q
  steps_load (event.Drop i) outcome.NoMemory q = absurd q
  steps_load (event.Gather j) outcome.Went q = absurd q
  steps_load (event.Gather j) (outcome.Granted v) q = absurd q
  steps_load (event.Gather j) (outcome.Busy u') q = absurd q
  steps_load (event.Gather j) (outcome.Placed at) q = absurd q
  steps_load (event.Gather j) (outcome.Gathered at) q = q.0.load
  steps_load (event.Gather j) (outcome.Acked n lv) q = absurd q
  steps_load (event.Gather j) outcome.NothingCovered q = absurd q
  steps_load (event.Gather j) (outcome.NotNow phase) q = q.0.load
  steps_load (event.Gather j) outcome.NoMemory q = q.load
  steps_load (event.Anchor j) outcome.Went q = absurd q
  steps_load (event.Anchor j) (outcome.Granted v) q = absurd q
  steps_load (event.Anchor j) (outcome.Busy u') q = absurd q
  steps_load (event.Anchor j) (outcome.Placed at) q = q.0.load
  steps_load (event.Anchor j) (outcome.Gathered at) q = absurd q
  steps_load (event.Anchor j) (outcome.Acked n lv) q = absurd q
  steps_load (event.Anchor j) outcome.NothingCovered q = absurd q
  steps_load (event.Anchor j) (outcome.NotNow phase) q = q.0.load
  steps_load (event.Anchor j) outcome.NoMemory q = q.load
  steps_load (event.Persist j u) outcome.Went q = q.load
  steps_load (event.Persist j u) (outcome.Granted v) q = absurd q
  steps_load (event.Persist j u) (outcome.Busy u') q = absurd q
  steps_load (event.Persist j u) (outcome.Placed at) q = absurd q
  steps_load (event.Persist j u) (outcome.Gathered at) q = absurd q
  steps_load (event.Persist j u) (outcome.Acked n lv) q = absurd q
  steps_load (event.Persist j u) outcome.NothingCovered q = absurd q
  steps_load (event.Persist j u) (outcome.NotNow phase) q = q.0.load
  steps_load (event.Persist j u) outcome.NoMemory q = absurd q
  steps_load (event.Ack w) outcome.Went q = absurd q
  steps_load (event.Ack w) (outcome.Granted v) q = absurd q
  steps_load (event.Ack w) (outcome.Busy u') q = absurd q
  steps_load (event.Ack w) (outcome.Placed at) q = absurd q
  steps_load (event.Ack w) (outcome.Gathered at) q = absurd q
  steps_load (event.Ack w) (outcome.Acked n lv) q = q.0.load
  steps_load (event.Ack w) outcome.NothingCovered q = q.0.load
  steps_load (event.Ack w) (outcome.NotNow phase) q = absurd q
  steps_load (event.Ack w) outcome.NoMemory q = absurd q
  steps_load (event.Stop j u) outcome.Went q = q.load
  steps_load (event.Stop j u) (outcome.Granted v) q = absurd q
  steps_load (event.Stop j u) (outcome.Busy u') q = absurd q
  steps_load (event.Stop j u) (outcome.Placed at) q = absurd q
  steps_load (event.Stop j u) (outcome.Gathered at) q = absurd q
  steps_load (event.Stop j u) (outcome.Acked n lv) q = absurd q
  steps_load (event.Stop j u) outcome.NothingCovered q = absurd q
  steps_load (event.Stop j u) (outcome.NotNow phase) q = q.0.load
  steps_load (event.Stop j u) outcome.NoMemory q = absurd q

pub step_load : (p p' : Plain) (e : Event) (o : Outcome) → Stood p → ((K : List (Act Txn)) (h : Hidden) → Stands p K h → Steps p p' K h e o) → p'.load ≡ p.load
step_load p p' e o g steps = steps_load p p' g.0 g.1 e o (steps g.0 g.1 g.2)
