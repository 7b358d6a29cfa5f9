-- What a follower has read of the bytes that it was fed.
use Rattle.std.specs.Prelude.{ℕ, Bool, true, false, List, take, length, Result, Ok, Err, if◌then◌else◌}
use Rattle.tau_base.specs.declared.format.Format.{Format}
use Rattle.tau_record.specs.declared.entry.Placed.{Placed}
use Rattle.tau_record.specs.declared.fault.RecordCause.{RecordCause}
use Rattle.tau_record.specs.declared.fault.RecordCause.TheVariants.{Short, BadKind, BadLength, BadAnchor, BadMask, BadBody}
use Rattle.tau_record.specs.declared.fault.RecordFault.{RecordFault}
use Rattle.tau_scan.specs.declared.fault.LogFault.{LogFault}
use Rattle.tau_scan.specs.Reading.{each_from, recorded, records_of}

-- whether more bytes may make the record good
abbrev pub is_short : RecordCause → Bool
is_short Short = true
is_short BadKind = false
is_short BadLength = false
is_short BadAnchor = false
is_short BadMask = false
is_short BadBody = false

-- the records before one that is cut short
abbrev pub or_front : Format → ℕ → List ℕ → Result (List Placed) RecordFault → Result (List Placed) RecordFault
or_front f n bytes (Ok ps) = Ok ps
or_front f n bytes (Err fault) = if is_short fault.cause then records_of f n (take fault.at bytes) else Err fault

-- The whole records at the front of what was fed of a stream, one of n, or the first bad one. One that is cut short is not
-- bad yet: it is read once all bytes of its length are there. Its kind is tested with its first byte.
unfoldable pub front_of : Format → ℕ → List ℕ → Result (List Placed) RecordFault
front_of f n bytes = or_front f n bytes (records_of f n bytes)

-- those of all streams, or the first bad one of the first stream that has one
unfoldable pub fronts_of : Format → List (List ℕ) → Result (List (List Placed)) LogFault
fronts_of f fed = each_from (λ j bytes. recorded j (front_of f (length fed) bytes)) 0 fed
