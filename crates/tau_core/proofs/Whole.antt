-- After any event the core stands.
use Rattle.std.proofs.Common.{false, ◌≡◌, inl, inr, List, ◌++◌, sym, subst}
use Rattle.tau_model.specs.History.{Act}
use Rattle.tau_machine.specs.Hands.{Txn}
use Rattle.tau_machine.specs.Events as machine
use Rattle.tau_core.specs.declared.event.Event.{Event}
use Rattle.tau_core.specs.declared.event.Event.TheVariants as event
use Rattle.tau_core.specs.declared.event.Outcome.{Outcome}
use Rattle.tau_core.specs.declared.event.Outcome.TheVariants as outcome
use Rattle.tau_core.specs.State.{Plain}
use Rattle.tau_core.specs.View.{Hidden}
use Rattle.tau_core.specs.Stands.{Stands, Stood}
use Rattle.tau_core.specs.Steps.{Happened, Unmoved, Steps, IsThere}

happened_stood : (e : machine.Event) (p p' : Plain) (K : List (Act Txn)) (h : Hidden) → Happened e p p' K h → Stood p'
happened_stood e p p' K h q = (K ++ q.joined, q.hidden, q.stands)

unmoved_stood : (p p' : Plain) (K : List (Act Txn)) (h : Hidden) → Unmoved p p' K h → Stood p'
unmoved_stood p p' K h q = (K, q.hidden, q.stands)

module _ (p p' : Plain) (K : List (Act Txn)) (h : Hidden) where
  pub steps_stood : (e : Event) (o : Outcome) → Steps p p' K h e o → Stood p'
  steps_stood (event.Lock w) outcome.Went q = absurd q
  steps_stood (event.Lock w) (outcome.Granted v) q = happened_stood (machine.Lock w) p p' K h q.0
  steps_stood (event.Lock w) (outcome.Busy u') q = happened_stood (machine.Busy w) p p' K h q.0
  steps_stood (event.Lock w) (outcome.Placed at) q = absurd q
  steps_stood (event.Lock w) (outcome.Gathered at) q = absurd q
  steps_stood (event.Lock w) (outcome.Acked n lv) q = absurd q
  steps_stood (event.Lock w) outcome.NothingCovered q = absurd q
  steps_stood (event.Lock w) (outcome.NotNow phase) q = unmoved_stood p p' K h q.0
  steps_stood (event.Lock w) outcome.NoMemory q = unmoved_stood p p' K h q.0
  steps_stood (event.Quit w) outcome.Went q = happened_stood (machine.Quit w false) p p' K h q.0
  steps_stood (event.Quit w) (outcome.Granted v) q = absurd q
  steps_stood (event.Quit w) (outcome.Busy u') q = absurd q
  steps_stood (event.Quit w) (outcome.Placed at) q = absurd q
  steps_stood (event.Quit w) (outcome.Gathered at) q = absurd q
  steps_stood (event.Quit w) (outcome.Acked n lv) q = absurd q
  steps_stood (event.Quit w) outcome.NothingCovered q = absurd q
  steps_stood (event.Quit w) (outcome.NotNow phase) q = unmoved_stood p p' K h q.0
  steps_stood (event.Quit w) outcome.NoMemory q = absurd q
  steps_stood (event.Commit w) outcome.Went q = absurd q
  steps_stood (event.Commit w) (outcome.Granted v) q = absurd q
  steps_stood (event.Commit w) (outcome.Busy u') q = absurd q
  steps_stood (event.Commit w) (outcome.Placed at) q = happened_stood (machine.Commit w) p p' K h q.0
  steps_stood (event.Commit w) (outcome.Gathered at) q = absurd q
  steps_stood (event.Commit w) (outcome.Acked n lv) q = absurd q
  steps_stood (event.Commit w) outcome.NothingCovered q = absurd q
  steps_stood (event.Commit w) (outcome.NotNow phase) q = unmoved_stood p p' K h q.0
  steps_stood (event.Commit w) outcome.NoMemory q = unmoved_stood p p' K h q.0
  steps_stood (event.Post w) outcome.Went q = happened_stood (machine.Post w) p p' K h q
  steps_stood (event.Post w) (outcome.Granted v) q = absurd q
  steps_stood (event.Post w) (outcome.Busy u') q = absurd q
  steps_stood (event.Post w) (outcome.Placed at) q = absurd q
  steps_stood (event.Post w) (outcome.Gathered at) q = absurd q
  steps_stood (event.Post w) (outcome.Acked n lv) q = absurd q
  steps_stood (event.Post w) outcome.NothingCovered q = absurd q
  steps_stood (event.Post w) (outcome.NotNow phase) q = unmoved_stood p p' K h q.0
  steps_stood (event.Post w) outcome.NoMemory q = absurd q
  steps_stood (event.Free w) outcome.Went (inl q) = happened_stood (machine.Free w) p p' K h q
  steps_stood (event.Free w) outcome.Went (inr q) = happened_stood (machine.FirstFree w) p p' K h q
  steps_stood (event.Free w) (outcome.Granted v) q = absurd q
  steps_stood (event.Free w) (outcome.Busy u') q = absurd q
  steps_stood (event.Free w) (outcome.Placed at) q = absurd q
  steps_stood (event.Free w) (outcome.Gathered at) q = absurd q
  steps_stood (event.Free w) (outcome.Acked n lv) q = absurd q
  steps_stood (event.Free w) outcome.NothingCovered q = absurd q
  steps_stood (event.Free w) (outcome.NotNow phase) q = unmoved_stood p p' K h q.0
  steps_stood (event.Free w) outcome.NoMemory q = absurd q
  steps_stood (event.Done w) outcome.Went (inl q) = happened_stood (machine.Done w) p p' K h q
  steps_stood (event.Done w) outcome.Went (inr q) = happened_stood (machine.DoneReading w) p p' K h q
  steps_stood (event.Done w) (outcome.Granted v) q = absurd q
  steps_stood (event.Done w) (outcome.Busy u') q = absurd q
  steps_stood (event.Done w) (outcome.Placed at) q = absurd q
  steps_stood (event.Done w) (outcome.Gathered at) q = absurd q
  steps_stood (event.Done w) (outcome.Acked n lv) q = absurd q
  steps_stood (event.Done w) outcome.NothingCovered q = absurd q
  steps_stood (event.Done w) (outcome.NotNow phase) q = unmoved_stood p p' K h q.0
  steps_stood (event.Done w) outcome.NoMemory q = unmoved_stood p p' K h q.0
  steps_stood (event.Drop i) outcome.Went q = happened_stood (machine.Drop i p.plv) p p' K h q
  steps_stood (event.Drop i) (outcome.Granted v) q = absurd q
  steps_stood (event.Drop i) (outcome.Busy u') q = absurd q
  steps_stood (event.Drop i) (outcome.Placed at) q = absurd q
  steps_stood (event.Drop i) (outcome.Gathered at) q = absurd q
  steps_stood (event.Drop i) (outcome.Acked n lv) q = absurd q
  steps_stood (event.Drop i) outcome.NothingCovered q = absurd q
  steps_stood (event.Drop i) (outcome.NotNow phase) q = absurd q
  steps_stood (event.Drop i) outcome.NoMemory q = absurd q
  steps_stood (event.Gather j) outcome.Went q = absurd q
  steps_stood (event.Gather j) (outcome.Granted v) q = absurd q
  steps_stood (event.Gather j) (outcome.Busy u') q = absurd q
  steps_stood (event.Gather j) (outcome.Placed at) q = absurd q
  steps_stood (event.Gather j) (outcome.Gathered at) q = happened_stood (machine.Gather j) p p' K h q.0
  steps_stood (event.Gather j) (outcome.Acked n lv) q = absurd q
  steps_stood (event.Gather j) outcome.NothingCovered q = absurd q
  steps_stood (event.Gather j) (outcome.NotNow phase) q = unmoved_stood p p' K h q.0
  steps_stood (event.Gather j) outcome.NoMemory q = unmoved_stood p p' K h q
  steps_stood (event.Anchor j) outcome.Went q = absurd q
  steps_stood (event.Anchor j) (outcome.Granted v) q = absurd q
  steps_stood (event.Anchor j) (outcome.Busy u') q = absurd q
  steps_stood (event.Anchor j) (outcome.Placed at) q = happened_stood (machine.PlaceAnchor j p.plv) p p' K h q.0
  steps_stood (event.Anchor j) (outcome.Gathered at) q = absurd q
  steps_stood (event.Anchor j) (outcome.Acked n lv) q = absurd q
  steps_stood (event.Anchor j) outcome.NothingCovered q = absurd q
  steps_stood (event.Anchor j) (outcome.NotNow phase) q = unmoved_stood p p' K h q.0
  steps_stood (event.Anchor j) outcome.NoMemory q = unmoved_stood p p' K h q
  steps_stood (event.Persist j u) outcome.Went q = happened_stood (machine.Persist j u) p p' K h q
  steps_stood (event.Persist j u) (outcome.Granted v) q = absurd q
  steps_stood (event.Persist j u) (outcome.Busy u') q = absurd q
  steps_stood (event.Persist j u) (outcome.Placed at) q = absurd q
  steps_stood (event.Persist j u) (outcome.Gathered at) q = absurd q
  steps_stood (event.Persist j u) (outcome.Acked n lv) q = absurd q
  steps_stood (event.Persist j u) outcome.NothingCovered q = absurd q
  steps_stood (event.Persist j u) (outcome.NotNow phase) q = unmoved_stood p p' K h q.0
  steps_stood (event.Persist j u) outcome.NoMemory q = absurd q
  steps_stood (event.Ack w) outcome.Went q = absurd q
  steps_stood (event.Ack w) (outcome.Granted v) q = absurd q
  steps_stood (event.Ack w) (outcome.Busy u') q = absurd q
  steps_stood (event.Ack w) (outcome.Placed at) q = absurd q
  steps_stood (event.Ack w) (outcome.Gathered at) q = absurd q
  steps_stood (event.Ack w) (outcome.Acked n lv) q = happened_stood (machine.Ack w p.plv) p p' K h q.0
  steps_stood (event.Ack w) outcome.NothingCovered q = unmoved_stood p p' K h q.0
  steps_stood (event.Ack w) (outcome.NotNow phase) q = absurd q
  steps_stood (event.Ack w) outcome.NoMemory q = absurd q
  steps_stood (event.Stop j u) outcome.Went q = happened_stood (machine.Stop j u) p p' K h q
  steps_stood (event.Stop j u) (outcome.Granted v) q = absurd q
  steps_stood (event.Stop j u) (outcome.Busy u') q = absurd q
  steps_stood (event.Stop j u) (outcome.Placed at) q = absurd q
  steps_stood (event.Stop j u) (outcome.Gathered at) q = absurd q
  steps_stood (event.Stop j u) (outcome.Acked n lv) q = absurd q
  steps_stood (event.Stop j u) outcome.NothingCovered q = absurd q
  steps_stood (event.Stop j u) (outcome.NotNow phase) q = unmoved_stood p p' K h q.0
  steps_stood (event.Stop j u) outcome.NoMemory q = absurd q

pub stood_at : (p p' : Plain) (e : Event) (o : Outcome) → Stood p → ((K : List (Act Txn)) (h : Hidden) → Stands p K h → Steps p p' K h e o) → Stood p'
stood_at p p' e o g f = steps_stood p p' g.0 g.1 e o (f g.0 g.1 g.2)

pub there_at : (p now : Plain) (e e' : Event) → p ≡ now → e ≡ e' → IsThere now e → IsThere p e'
there_at p now e e' same is there = subst (λ (x : Plain × Event). IsThere x.0 x.1) (λ i. (sym same i, is i)) there

pub steps_at : (p now p' : Plain) (e e' : Event) (o : Outcome) → p ≡ now → e ≡ e' → ((K : List (Act Txn)) (h : Hidden) → Stands p K h → Steps p p' K h e' o) → (K : List (Act Txn)) (h : Hidden) → Stands now K h → Steps now p' K h e o
steps_at p now p' e e' o same is f = subst (λ (x : Plain × Event). (K : List (Act Txn)) (h : Hidden) → Stands x.0 K h → Steps x.0 p' K h x.1 o) (λ i. (same i, sym is i)) f

-- an event with its outcome, told by another call
pub told_at : (p p' : Plain) (K : List (Act Txn)) (h : Hidden) (e e' : Event) (o o' : Outcome) → e ≡ e' → o ≡ o' → Steps p p' K h e' o' → Steps p p' K h e o
told_at p p' K h e e' o o' is same q = subst (λ (x : Event × Outcome). Steps p p' K h x.0 x.1) (λ i. (sym is i, sym same i)) q
