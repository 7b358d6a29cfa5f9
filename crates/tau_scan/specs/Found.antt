-- What the answer of a step says of its definition.
use Rattle.std.specs.Prelude.{◌≡◌, ℕ, ◌≤◌, List, length, Option, Some, None, Result, Ok, Err, bytes_eq, if◌then◌else◌}
use Rattle.tau_base.specs.declared.limits.TheConstants.{MAX_CATALOGUE}
use Rattle.tau_record.specs.declared.fault.RecordFault.{RecordFault}
use Rattle.tau_record.specs.declared.fault.RecordRefusal.{RecordRefusal}
use Rattle.tau_record.specs.declared.fault.RecordRefusal.TheVariants as of_records
use Rattle.tau_scan.specs.declared.fault.LogCause.TheVariants as cause
use Rattle.tau_scan.specs.declared.fault.LogFault.{LogFault}
use Rattle.tau_scan.specs.declared.fault.LogRefusal.{LogRefusal}
use Rattle.tau_scan.specs.declared.fault.LogRefusal.TheVariants as of_logs
use Rattle.tau_scan.specs.Reading.{alike}

-- What a function returned is what the definition gives, unless memory ran out.
abbrev pub Lost : {A : Type 0} → LogRefusal → Result A LogFault → Type 0
Lost of_logs.NoMemory read = Unit {0}
Lost (of_logs.Bad fault) read = read ≡ Err fault

abbrev pub Found : {A : Type 0} → Result A LogRefusal → Result A LogFault → Type 0
Found (Ok x) read = read ≡ Ok x
Found (Err e) read = Lost e read

-- likewise of what a function returned this part
abbrev pub FoundAs : {A B : Type 0} → (A → B) → Result A LogRefusal → Result B LogFault → Type 0
FoundAs f (Ok x) read = read ≡ Ok (f x)
FoundAs f (Err e) read = Lost e read

-- what was refused is this fault, unless memory ran out
abbrev pub IsFault : LogRefusal → Option LogFault → Type 0
IsFault of_logs.NoMemory found = Unit {0}
IsFault (of_logs.Bad fault) found = found ≡ Some fault

-- likewise what a function returned for the records of one stream
abbrev pub Spoilt : {A : Type 0} → RecordRefusal → Result A RecordFault → Type 0
Spoilt of_records.NoMemory read = Unit {0}
Spoilt (of_records.Bad fault) read = read ≡ Err fault

abbrev pub Judged : {A : Type 0} → Result A RecordRefusal → Result A RecordFault → Type 0
Judged (Ok x) read = read ≡ Ok x
Judged (Err e) read = Spoilt e read

-- the text of a catalogue is within its limit
abbrev pub IsShort : Option (List ℕ) → Type 0
IsShort None = Unit {0}
IsShort (Some text) = length text ≤ MAX_CATALOGUE

-- the fault of a stream whose text is another one than this of stream `first`
abbrev pub other_text : ℕ → List ℕ → ℕ → Option (List ℕ) → Option LogFault
other_text first text j None = None
other_text first text j (Some other) = if bytes_eq text other then None else Some (record { stream = j; cause = cause.Catalogue first (alike text other) })
