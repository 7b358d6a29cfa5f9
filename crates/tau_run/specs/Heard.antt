-- What a sink holds of the acknowledgements that it was told.
use Rattle.std.specs.Prelude.{ℕ, ◌≡◌, Bool, true, false, List, ◌++◌, take}
use Rattle.tau_report.specs.Report.{ack_lines}

-- after what it held at first the sink holds a first part of the lines
abbrev pub HeardFront : List ℕ → List (ℕ × List ℕ) → List ℕ → Type 0
HeardFront base acks held = (k : ℕ) × (held ≡ base ++ take k (ack_lines acks))

-- all of them, where it has not failed
abbrev pub Heard : List ℕ → List (ℕ × List ℕ) → Bool → List ℕ → Type 0
Heard base acks false held = held ≡ base ++ ack_lines acks
Heard base acks true held = HeardFront base acks held
