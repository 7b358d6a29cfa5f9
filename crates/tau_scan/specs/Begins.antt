-- Why a run cannot go on from a log.
use Rattle.std.specs.Prelude.{ℕ, suc, Bool, ◌||◌, ◌==◌, nat_lt, max, bytes_eq, if◌then◌else◌, List, [], ◌∷◌, length, Option, Some, None}
use Rattle.tau_record.specs.declared.entry.Placed.{Placed}
use Rattle.tau_record.specs.Content.{anchors_of}
use Rattle.tau_epoch.specs.Epochs.{Mark, largest}
use Rattle.tau_base.specs.declared.limits.TheConstants.{MAX_IMAGE, MAX_ANCHORS, LAST_EPOCH}
use Rattle.tau_scan.specs.declared.fault.LogCause.TheVariants as cause
use Rattle.tau_scan.specs.declared.fault.LogFault.{LogFault}
use Rattle.tau_scan.specs.declared.log.Log.{Log}
use Rattle.tau_scan.specs.Epochs.{marks_from}
use Rattle.tau_scan.specs.Reading.{alike, catalogue_of, lowest_with, or_else}

-- the largest number of these marks and this one
abbrev pub largest_with : List Mark → ℕ → ℕ
largest_with [] n = n
largest_with (m ∷ ms) n = max m.number (largest_with ms n)

-- the fault of a stream with this catalogue, if it is another text; without one, that of the streams after it
abbrev pub if_declared : List ℕ → ℕ → Option (List ℕ) → Option LogFault → Option LogFault
if_declared text j None rest = rest
if_declared text j (Some found) rest = if bytes_eq text found then None else Some (record { stream = j; cause = cause.Declared (alike text found) })

-- the catalogue of the lowest stream that has one, from number j on, is not this text
abbrev pub declared_fault : List ℕ → ℕ → List (List Placed) → Option LogFault
declared_fault text j [] = None
declared_fault text j (ps ∷ streams) = if_declared text j (catalogue_of ps) (declared_fault text (suc j) streams)

-- an image of so many bytes with these records is too long to go on from
abbrev pub is_long : ℕ → List Placed → Bool
is_long size ps = nat_lt MAX_IMAGE size || nat_lt MAX_ANCHORS (length (anchors_of ps))

-- the lowest stream, from number j on, whose image is
abbrev pub long_fault : ℕ → List ℕ → List (List Placed) → Option LogFault
long_fault j (size ∷ sizes) (ps ∷ streams) = if is_long size ps then Some (record { stream = j; cause = cause.Long size }) else long_fault (suc j) sizes streams
long_fault j _ _ = None

-- no number is left after the largest one: the lowest stream that has it
abbrev pub last_fault : List (List Placed) → Option LogFault
last_fault streams = if largest (marks_from streams) == LAST_EPOCH then Some (record { stream = lowest_with LAST_EPOCH 0 streams; cause = cause.Last }) else None

-- The first cause why a run of a workload with this text of declarations cannot go on from the log of images of these
-- lengths.
abbrev pub begins_fault : List ℕ → List ℕ → Log → Option LogFault
begins_fault text sizes log = or_else (declared_fault text 0 log.streams) (or_else (long_fault 0 sizes log.streams) (last_fault log.streams))
