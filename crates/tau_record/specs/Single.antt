-- One record that is read by itself.
use Rattle.std.specs.Prelude.{◌≡◌, ℕ, List, length, Result, Ok, Err, ◌==◌, if◌then◌else◌}
use Rattle.tau_record.specs.Field.{◌>>=◌}
use Rattle.tau_record.specs.declared.entry.Entry.{Entry}
use Rattle.tau_record.specs.declared.fault.RecordCause.{RecordCause}
use Rattle.tau_record.specs.declared.fault.RecordCause.TheVariants.{BadLength}
use Rattle.tau_record.specs.declared.fault.RecordRefusal.{RecordRefusal}
use Rattle.tau_record.specs.declared.fault.RecordRefusal.TheVariants as refusals

-- the record, if its fields take all of its bytes
abbrev pub whole : Entry × List ℕ → Result Entry RecordCause
whole x = if length x.1 == 0 then Ok x.0 else Err BadLength

-- what is read, where it is read of all bytes
abbrev pub wholly : Result (Entry × List ℕ) RecordCause → Result Entry RecordCause
wholly read = read >>= whole

-- what was refused is the cause, of the record at this place, unless memory ran out
abbrev pub RefusedAt : {Y : Type 0} → ℕ → RecordRefusal → Result Y RecordCause → Type 0
RefusedAt at refusals.NoMemory read = Unit {0}
RefusedAt at (refusals.Bad fault) read = (fault.at ≡ at) × (read ≡ Err fault.cause)

-- What a function returned, seen by view, is what reading gives, unless memory ran out.
abbrev pub GivesAt : {X Y : Type 0} → ℕ → (X → Y) → Result X RecordRefusal → Result Y RecordCause → Type 0
GivesAt at view (Ok x) read = read ≡ Ok (view x)
GivesAt at view (Err e) read = RefusedAt at e read
