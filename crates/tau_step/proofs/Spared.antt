-- Events that are none of a stream's manager.
use Rattle.std.specs.Prelude.{ℕ, ◌≡◌}
use Rattle.tau_machine.specs.Events.{Event, Gather, Persist, Stop}

-- the event is none of the manager of this stream
abbrev pub Spares : ℕ → Event → Type 0
Spares i (Gather j) = i ≡ j → ⊥
Spares i (Persist j upto) = i ≡ j → ⊥
Spares i (Stop j upto) = i ≡ j → ⊥
Spares i _ = Unit {0}
