-- A seat is of the same desk as before.
use Rattle.std.specs.Prelude.{◌≡◌, ◌<◌, ℕ, Some, Result, Ok, Err}
use Rattle.tau_desk.specs.declared.desk.Desk.{Desk}
use Rattle.tau_desk.specs.Seats.{PlainClerkSeat, PlainHead, PlainManagerSeat, PlainWorkerSeat}

abbrev pub IsSameHead : PlainHead → PlainHead → Type 0
IsSameHead s s' = (s'.table_id ≡ s.table_id) × (s'.me.0.opened ≡ s.me.0.opened)

abbrev pub IsSameManager : PlainManagerSeat → PlainManagerSeat → Type 0
IsSameManager s s' = (s'.table_id ≡ s.table_id) × (s'.me.0.opened ≡ s.me.0.opened) × (s'.stream ≡ s.stream)

abbrev pub IsSameClerk : PlainClerkSeat → PlainClerkSeat → Type 0
IsSameClerk s s' = (s'.table_id ≡ s.table_id) × (s'.me.0.opened ≡ s.me.0.opened)

-- The seat of a worker, of the manager of the stream of this number, or of the clerk, is of the desk.
abbrev pub IsSeatOf : Desk → ℕ → Result PlainWorkerSeat (Result PlainManagerSeat PlainClerkSeat) → Type 0
IsSeatOf d number (Ok s) = (s.table_id ≡ d.table.shared.table_id) × (s.me.0.opened ≡ Some d.table.shared.key.value)
IsSeatOf d number (Err (Ok s)) = (s.table_id ≡ d.table.shared.table_id) × (s.me.0.opened ≡ Some d.table.shared.key.value) × (s.stream ≡ number) × (number < d.streams)
IsSeatOf d number (Err (Err s)) = (s.table_id ≡ d.table.shared.table_id) × (s.me.0.opened ≡ Some d.table.shared.key.value)
