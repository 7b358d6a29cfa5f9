-- A core that stands does so after each event, and what it stands on is the same.
use Rattle.std.proofs.Common.{◌≡◌, ◌++◌, inl, inr, List}
use Rattle.std.specs.Prelude.{false}
use Rattle.tau_model.specs.History.{Act}
use Rattle.tau_machine.specs.Hands.{Txn}
use Rattle.tau_machine.specs.Events as machine
use Rattle.tau_core.specs.declared.event.Event.{Event}
use Rattle.tau_core.specs.declared.event.Event.TheVariants as event
use Rattle.tau_core.specs.declared.event.Outcome.{Outcome}
use Rattle.tau_core.specs.declared.event.Outcome.TheVariants as outcome
use Rattle.tau_core.specs.State.{Plain}
use Rattle.tau_core.specs.View.{Hidden}
use Rattle.tau_core.specs.Stands.{Stands, Stood}
use Rattle.tau_core.specs.Steps.{Steps, Happened, Unmoved}

module _ (p p' : Plain) (K : List (Act Txn)) (h : Hidden) where
  abbrev Stays : Type 0
  Stays = (p'.load ≡ p.load) × Stood p'

  happened : (e : machine.Event) → Happened e p p' K h → Stays
  happened e q = (q.load, (K ++ q.joined, q.hidden, q.stands))

  unmoved : Unmoved p p' K h → Stays
  unmoved u = (u.load, (K, u.hidden, u.stands))

  pub steps_stand : (e : Event) (o : Outcome) → Steps p p' K h e o → (p'.load ≡ p.load) × Stood p'
  steps_stand (event.Lock w) outcome.Went t = absurd t
  steps_stand (event.Lock w) (outcome.Granted value) t = happened (machine.Lock w) t.0
  steps_stand (event.Lock w) (outcome.Busy holder) t = happened (machine.Busy w) t.0
  steps_stand (event.Lock w) (outcome.Placed start) t = absurd t
  steps_stand (event.Lock w) (outcome.Gathered upto) t = absurd t
  steps_stand (event.Lock w) (outcome.Acked number lv) t = absurd t
  steps_stand (event.Lock w) outcome.NothingCovered t = absurd t
  steps_stand (event.Lock w) (outcome.NotNow phase) t = unmoved t.0
  steps_stand (event.Lock w) outcome.NoMemory t = unmoved t.0
  steps_stand (event.Quit w) outcome.Went t = happened (machine.Quit w false) t.0
  steps_stand (event.Quit w) (outcome.Granted value) t = absurd t
  steps_stand (event.Quit w) (outcome.Busy holder) t = absurd t
  steps_stand (event.Quit w) (outcome.Placed start) t = absurd t
  steps_stand (event.Quit w) (outcome.Gathered upto) t = absurd t
  steps_stand (event.Quit w) (outcome.Acked number lv) t = absurd t
  steps_stand (event.Quit w) outcome.NothingCovered t = absurd t
  steps_stand (event.Quit w) (outcome.NotNow phase) t = unmoved t.0
  steps_stand (event.Quit w) outcome.NoMemory t = absurd t
  steps_stand (event.Commit w) outcome.Went t = absurd t
  steps_stand (event.Commit w) (outcome.Granted value) t = absurd t
  steps_stand (event.Commit w) (outcome.Busy holder) t = absurd t
  steps_stand (event.Commit w) (outcome.Placed start) t = happened (machine.Commit w) t.0
  steps_stand (event.Commit w) (outcome.Gathered upto) t = absurd t
  steps_stand (event.Commit w) (outcome.Acked number lv) t = absurd t
  steps_stand (event.Commit w) outcome.NothingCovered t = absurd t
  steps_stand (event.Commit w) (outcome.NotNow phase) t = unmoved t.0
  steps_stand (event.Commit w) outcome.NoMemory t = unmoved t.0
  steps_stand (event.Post w) outcome.Went t = happened (machine.Post w) t
  steps_stand (event.Post w) (outcome.Granted value) t = absurd t
  steps_stand (event.Post w) (outcome.Busy holder) t = absurd t
  steps_stand (event.Post w) (outcome.Placed start) t = absurd t
  steps_stand (event.Post w) (outcome.Gathered upto) t = absurd t
  steps_stand (event.Post w) (outcome.Acked number lv) t = absurd t
  steps_stand (event.Post w) outcome.NothingCovered t = absurd t
  steps_stand (event.Post w) (outcome.NotNow phase) t = unmoved t.0
  steps_stand (event.Post w) outcome.NoMemory t = absurd t
  steps_stand (event.Free w) outcome.Went t = elim t [ inl q ↦ happened (machine.Free w) q | inr q ↦ happened (machine.FirstFree w) q ]
  steps_stand (event.Free w) (outcome.Granted value) t = absurd t
  steps_stand (event.Free w) (outcome.Busy holder) t = absurd t
  steps_stand (event.Free w) (outcome.Placed start) t = absurd t
  steps_stand (event.Free w) (outcome.Gathered upto) t = absurd t
  steps_stand (event.Free w) (outcome.Acked number lv) t = absurd t
  steps_stand (event.Free w) outcome.NothingCovered t = absurd t
  steps_stand (event.Free w) (outcome.NotNow phase) t = unmoved t.0
  steps_stand (event.Free w) outcome.NoMemory t = absurd t
  steps_stand (event.Done w) outcome.Went t = elim t [ inl q ↦ happened (machine.Done w) q | inr q ↦ happened (machine.DoneReading w) q ]
  steps_stand (event.Done w) (outcome.Granted value) t = absurd t
  steps_stand (event.Done w) (outcome.Busy holder) t = absurd t
  steps_stand (event.Done w) (outcome.Placed start) t = absurd t
  steps_stand (event.Done w) (outcome.Gathered upto) t = absurd t
  steps_stand (event.Done w) (outcome.Acked number lv) t = absurd t
  steps_stand (event.Done w) outcome.NothingCovered t = absurd t
  steps_stand (event.Done w) (outcome.NotNow phase) t = unmoved t.0
  steps_stand (event.Done w) outcome.NoMemory t = unmoved t.0
  steps_stand (event.Drop i) outcome.Went t = happened (machine.Drop i p.plv) t
  steps_stand (event.Drop i) (outcome.Granted value) t = absurd t
  steps_stand (event.Drop i) (outcome.Busy holder) t = absurd t
  steps_stand (event.Drop i) (outcome.Placed start) t = absurd t
  steps_stand (event.Drop i) (outcome.Gathered upto) t = absurd t
  steps_stand (event.Drop i) (outcome.Acked number lv) t = absurd t
  steps_stand (event.Drop i) outcome.NothingCovered t = absurd t
  steps_stand (event.Drop i) (outcome.NotNow phase) t = absurd t
  steps_stand (event.Drop i) outcome.NoMemory t = absurd t
  steps_stand (event.Gather j) outcome.Went t = absurd t
  steps_stand (event.Gather j) (outcome.Granted value) t = absurd t
  steps_stand (event.Gather j) (outcome.Busy holder) t = absurd t
  steps_stand (event.Gather j) (outcome.Placed start) t = absurd t
  steps_stand (event.Gather j) (outcome.Gathered upto) t = happened (machine.Gather j) t.0
  steps_stand (event.Gather j) (outcome.Acked number lv) t = absurd t
  steps_stand (event.Gather j) outcome.NothingCovered t = absurd t
  steps_stand (event.Gather j) (outcome.NotNow phase) t = unmoved t.0
  steps_stand (event.Gather j) outcome.NoMemory t = unmoved t
  steps_stand (event.Anchor j) outcome.Went t = absurd t
  steps_stand (event.Anchor j) (outcome.Granted value) t = absurd t
  steps_stand (event.Anchor j) (outcome.Busy holder) t = absurd t
  steps_stand (event.Anchor j) (outcome.Placed start) t = happened (machine.PlaceAnchor j p.plv) t.0
  steps_stand (event.Anchor j) (outcome.Gathered upto) t = absurd t
  steps_stand (event.Anchor j) (outcome.Acked number lv) t = absurd t
  steps_stand (event.Anchor j) outcome.NothingCovered t = absurd t
  steps_stand (event.Anchor j) (outcome.NotNow phase) t = unmoved t.0
  steps_stand (event.Anchor j) outcome.NoMemory t = unmoved t
  steps_stand (event.Persist j at) outcome.Went t = happened (machine.Persist j at) t
  steps_stand (event.Persist j at) (outcome.Granted value) t = absurd t
  steps_stand (event.Persist j at) (outcome.Busy holder) t = absurd t
  steps_stand (event.Persist j at) (outcome.Placed start) t = absurd t
  steps_stand (event.Persist j at) (outcome.Gathered upto) t = absurd t
  steps_stand (event.Persist j at) (outcome.Acked number lv) t = absurd t
  steps_stand (event.Persist j at) outcome.NothingCovered t = absurd t
  steps_stand (event.Persist j at) (outcome.NotNow phase) t = unmoved t.0
  steps_stand (event.Persist j at) outcome.NoMemory t = absurd t
  steps_stand (event.Ack w) outcome.Went t = absurd t
  steps_stand (event.Ack w) (outcome.Granted value) t = absurd t
  steps_stand (event.Ack w) (outcome.Busy holder) t = absurd t
  steps_stand (event.Ack w) (outcome.Placed start) t = absurd t
  steps_stand (event.Ack w) (outcome.Gathered upto) t = absurd t
  steps_stand (event.Ack w) (outcome.Acked number lv) t = happened (machine.Ack w p.plv) t.0
  steps_stand (event.Ack w) outcome.NothingCovered t = unmoved t.0
  steps_stand (event.Ack w) (outcome.NotNow phase) t = absurd t
  steps_stand (event.Ack w) outcome.NoMemory t = absurd t
  steps_stand (event.Stop j at) outcome.Went t = happened (machine.Stop j at) t
  steps_stand (event.Stop j at) (outcome.Granted value) t = absurd t
  steps_stand (event.Stop j at) (outcome.Busy holder) t = absurd t
  steps_stand (event.Stop j at) (outcome.Placed start) t = absurd t
  steps_stand (event.Stop j at) (outcome.Gathered upto) t = absurd t
  steps_stand (event.Stop j at) (outcome.Acked number lv) t = absurd t
  steps_stand (event.Stop j at) outcome.NothingCovered t = absurd t
  steps_stand (event.Stop j at) (outcome.NotNow phase) t = unmoved t.0
  steps_stand (event.Stop j at) outcome.NoMemory t = absurd t

pub all_stand : (p p' : Plain) → Stood p → (e : Event) (o : Outcome) → ((K : List (Act Txn)) (h : Hidden) → Stands p K h → Steps p p' K h e o) → (p'.load ≡ p.load) × Stood p'
all_stand p p' s e o f = steps_stand p p' s.0 s.1 e o (f s.0 s.1 s.2)
