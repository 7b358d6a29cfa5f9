-- The one line of a refusal.
use Rattle.std.specs.Prelude.{ℕ, Bool, true, false, ◌≡◌, ◌⊎◌, List, [], ◌∷◌, codes}
use Rattle.std.specs.Fmt.{decimal}
use Rattle.tau_commands.specs.declared.status.Status.{Status}
use Rattle.tau_commands.specs.declared.status.Status.TheVariants as status
use Rattle.tau_block.specs.declared.fault.ImageFault.{ImageFault}
use Rattle.tau_block.specs.declared.fault.ImageFault.TheVariants as image
use Rattle.tau_record.specs.declared.fault.RecordCause.{RecordCause}
use Rattle.tau_record.specs.declared.fault.RecordCause.TheVariants as body
use Rattle.tau_scan.specs.declared.fault.LogCause.{LogCause}
use Rattle.tau_scan.specs.declared.fault.LogCause.TheVariants as log
use Rattle.tau_report.specs.Lines.{line}
use Rattle.tau_text.specs.Causes.{cause_number}
use Rattle.tau_run.specs.RunFacts.{WroteFront}

abbrev pub image_fault_number : ImageFault → ℕ
image_fault_number image.BadMagic = 1
image_fault_number image.BadCount = 2
image_fault_number image.BadIndex = 3
image_fault_number image.OpenGateWithoutBlock = 4

abbrev pub record_cause_number : RecordCause → ℕ
record_cause_number body.Short = 1
record_cause_number body.BadKind = 2
record_cause_number body.BadLength = 3
record_cause_number body.BadAnchor = 4
record_cause_number body.BadMask = 5
record_cause_number body.BadBody = 6

abbrev pub log_cause_words : LogCause → List (List ℕ)
log_cause_words (log.Image fault) = codes "image" ∷ decimal (image_fault_number fault) ∷ []
log_cause_words (log.Format asked found) = codes "format" ∷ decimal asked ∷ decimal found ∷ []
log_cause_words (log.Count asked found) = codes "count" ∷ decimal asked ∷ decimal found ∷ []
log_cause_words (log.Body fault) = codes "record" ∷ decimal (record_cause_number fault.cause) ∷ decimal fault.at ∷ []
log_cause_words (log.Catalogue with_stream at) = codes "catalogue" ∷ decimal with_stream ∷ decimal at ∷ []
log_cause_words (log.Epoch with_stream number) = codes "epoch" ∷ decimal with_stream ∷ decimal number ∷ []
log_cause_words (log.Declared at) = codes "declared" ∷ decimal at ∷ []
log_cause_words (log.Long size) = codes "long" ∷ decimal size ∷ []
log_cause_words log.Last = codes "last" ∷ []
log_cause_words (log.Tangled at) = codes "tangled" ∷ decimal at ∷ []
log_cause_words (log.Late at) = codes "late" ∷ decimal at ∷ []

-- the line of a stream that is at fault
abbrev pub log_fault_text : ℕ → LogCause → List ℕ
log_fault_text stream cause = line (codes "fault" ∷ codes "7" ∷ decimal stream ∷ log_cause_words cause)

-- the one line of a refusal, and nothing for what is none
abbrev pub fault_text : Status → List ℕ
fault_text status.Usage = line (codes "fault" ∷ codes "2" ∷ [])
fault_text (status.BadText at cause) = line (codes "fault" ∷ codes "3" ∷ decimal at ∷ decimal (cause_number cause) ∷ [])
fault_text status.ReadFault = line (codes "fault" ∷ codes "4" ∷ [])
fault_text (status.DiskFault j) = line (codes "fault" ∷ codes "6" ∷ decimal j ∷ [])
fault_text (status.BadLog fault) = log_fault_text fault.stream fault.cause
fault_text status.TooLong = line (codes "fault" ∷ codes "9" ∷ [])
fault_text (status.BadFeed at) = line (codes "fault" ∷ codes "10" ∷ decimal at ∷ [])
fault_text (status.BadReport number) = line (codes "fault" ∷ codes "11" ∷ decimal number ∷ [])
fault_text _ = []

-- the code with which the program ends, which a fault line names too
abbrev pub code_of : Status → ℕ
code_of status.Ok = 0
code_of status.NoMemory = 1
code_of status.Usage = 2
code_of (status.BadText at cause) = 3
code_of status.ReadFault = 4
code_of status.WriteFault = 5
code_of (status.DiskFault j) = 6
code_of (status.BadLog fault) = 7
code_of status.TooLong = 9
code_of (status.BadFeed at) = 10
code_of (status.BadReport number) = 11

-- the answer is told by the one fault line, whatever the command
abbrev pub is_refusal : Status → Bool
is_refusal status.Usage = true
is_refusal (status.BadText at cause) = true
is_refusal status.ReadFault = true
is_refusal (status.BadLog fault) = true
is_refusal status.TooLong = true
is_refusal (status.BadFeed at) = true
is_refusal (status.BadReport number) = true
is_refusal _ = false

-- the refusal was told and is the answer, or memory ran out and nothing was told
abbrev pub TellsFault : (List ℕ → Type 0) → Type 0 → Status → Status → Type 0
TellsFault wrote sink_rose refusal answer = ((answer ≡ refusal) × WroteFront wrote sink_rose (fault_text refusal)) ⊎ ((answer ≡ status.NoMemory) × wrote [])
