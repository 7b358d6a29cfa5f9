-- What the images of all streams hold together, or the first cause why they hold no log.
use Rattle.std.specs.Prelude.{ℕ, suc, ◌≡◌, Bool, true, false, ◌&&◌, nat_lt, nat_le, ◌==◌, if◌then◌else◌, bytes_eq, nat_abs, List, [], ◌∷◌, length, map, take, Option, Some, None, Result, Ok, Err, is_ok, is_some}
use Rattle.std.specs.List.{list_all, AllZip}
use Rattle.tau_base.specs.declared.format.Format.{Format}
use Rattle.tau_base.specs.declared.format.Format.TheVariants.{One, Two}
use Rattle.tau_base.specs.Modes.{format_number, most_streams, same_format}
use Rattle.tau_base.specs.declared.value.Key.{Key}
use Rattle.tau_base.specs.declared.value.Value.{Value}
use Rattle.tau_base.specs.declared.value.Value.TheVariants.{Int}
use Rattle.tau_base.specs.declared.value.Call.{Call}
use Rattle.tau_block.specs.declared.fault.ImageFault.{ImageFault}
use Rattle.tau_block.specs.Image.{Reading as ImageReading, image_of, stated_in}
use Rattle.tau_proc.specs.declared.procs.TheConstants.{FIRST_DECLARED}
use Rattle.tau_proc.specs.Takes.{takes}
use Rattle.tau_record.specs.declared.entry.Entry.{Entry}
use Rattle.tau_record.specs.declared.entry.Entry.TheVariants.{Written, Command, Anchor, Catalogue, Epoch}
use Rattle.tau_record.specs.declared.entry.Placed.{Placed}
use Rattle.tau_record.specs.declared.fault.RecordCause.TheVariants.{BadBody}
use Rattle.tau_record.specs.declared.fault.RecordFault.{RecordFault}
use Rattle.tau_record.specs.Content.{IsContent, content_at}
use Rattle.tau_epoch.specs.Epochs.{Mark}
use Rattle.tau_epoch.specs.Known.{vector_of}
use Rattle.tau_text.specs.declared.load.Declarations.{Declarations}
use Rattle.tau_text.specs.declared.fault.TextFault.{TextFault}
use Rattle.tau_text.specs.Alone.{declarations_of}
use Rattle.tau_scan.specs.declared.fault.LogCause.TheVariants as cause
use Rattle.tau_scan.specs.declared.fault.LogFault.{LogFault}
use Rattle.tau_scan.specs.declared.fault.ScanRefusal.{ScanRefusal}
use Rattle.tau_scan.specs.declared.fault.ScanRefusal.TheVariants as refusals
use Rattle.tau_scan.specs.declared.log.Log.{Log}
use Rattle.tau_scan.specs.Epochs.{marks_in, marks_from}

-- ---- steps that may fail

infixl 10 ◌>>=◌
abbrev pub ◌>>=◌ : {A B E : Type 0} → Result A E → (A → Result B E) → Result B E
(Ok x) >>= f = f x
(Err e) >>= f = Err e

abbrev pub in_front : {A E : Type 0} → A → Result (List A) E → Result (List A) E
in_front x (Ok xs) = Ok (x ∷ xs)
in_front x (Err e) = Err e

-- each stream from this number on in its order, or the first cause
abbrev pub each_from : {A B : Type 0} → (ℕ → A → Result B LogFault) → ℕ → List A → Result (List B) LogFault
each_from f j [] = Ok []
each_from f j (x ∷ xs) = f j x >>= λ y. in_front y (each_from f (suc j) xs)

-- the value, or the fault where there is one
abbrev pub unless : {A E : Type 0} → Option E → A → Result A E
unless None x = Ok x
unless (Some e) x = Err e

-- ---- the records of a stream

-- the text of the catalogue, where there are records
abbrev pub text_of : Entry → Option (List ℕ)
text_of (Written number anchor dep writes) = None
text_of (Command number anchor dep call) = None
text_of (Anchor lv) = None
text_of (Catalogue text) = Some text
text_of (Epoch number lv) = None

abbrev pub catalogue_of : List Placed → Option (List ℕ)
catalogue_of [] = None
catalogue_of (p ∷ ps) = text_of p.entry

abbrev pub none_declared : Declarations
none_declared = record { tables = []; procs = [] }

abbrev pub or_none : Result Declarations TextFault → Declarations
or_none (Ok d) = d
or_none (Err fault) = none_declared

-- what a catalogue declares; nothing without one
abbrev pub declared_by : Option (List ℕ) → Declarations
declared_by None = none_declared
declared_by (Some text) = or_none (declarations_of text)

-- whether the table is declared
abbrev pub has_table : Declarations → ℕ → Bool
has_table d table = nat_lt table (length d.tables)

abbrev pub has_row : Declarations → Key × Value → Bool
has_row d w = has_table d w.0.table

abbrev pub names_table : Declarations → List Value → Bool
names_table d (Int table ∷ args) = has_table d (nat_abs table)
names_table d _ = false

-- a built-in procedure is called for a declared table
abbrev pub is_of_table : Declarations → Call → Bool
is_of_table d c = if nat_lt c.proc FIRST_DECLARED then names_table d c.args.items else true

-- whether what the record names is declared: each table that it writes; the procedure, which takes these arguments. A
-- catalogue is the canonical text of declarations.
abbrev pub is_declared : Declarations → Entry → Bool
is_declared d (Written number anchor dep writes) = list_all (has_row d) writes
is_declared d (Command number anchor dep call) = takes d.procs call && is_of_table d call
is_declared d (Anchor lv) = true
is_declared d (Catalogue text) = is_ok (declarations_of text)
is_declared d (Epoch number lv) = true

-- the first record that names what is not declared
unfoldable pub first_undeclared : Declarations → List Placed → Option RecordFault
first_undeclared d [] = None
first_undeclared d (p ∷ ps) = if is_declared d p.entry then first_undeclared d ps else Some (record { at = p.start; cause = BadBody })

abbrev pub undeclared : List Placed → Option RecordFault
undeclared ps = first_undeclared (declared_by (catalogue_of ps)) ps

abbrev pub or_no_records : Result (List Placed) RecordFault → List Placed
or_no_records (Ok ps) = ps
or_no_records (Err fault) = []

-- the fault that is found, else this one
abbrev pub or_fault : Option RecordFault → RecordFault → RecordFault
or_fault None fault = fault
or_fault (Some found) fault = found

-- The records, where the bytes alone give these or this first bad one. What stands before a record that is bad by its
-- bytes is records, of which one may be bad by the declarations.
abbrev pub judged : Format → ℕ → List ℕ → Result (List Placed) RecordFault → Result (List Placed) RecordFault
judged f n content (Ok ps) = unless (undeclared ps) ps
judged f n content (Err fault) = Err (or_fault (undeclared (or_no_records (content_at f n (take fault.at content)))) fault)

-- the records of the content of a stream, one of n, in a format, or its first bad record with the cause
unfoldable pub records_of : Format → ℕ → List ℕ → Result (List Placed) RecordFault
records_of f n content = judged f n content (content_at f n content)

-- ---- the format that is asked

-- the first of two
abbrev pub first_of : Option Format → Option Format → Option Format
first_of None other = other
first_of (Some f) other = Some f

-- the format that the lowest born stream states
abbrev pub stated_by : List (List ℕ) → Option Format
stated_by [] = None
stated_by (image ∷ images) = first_of (stated_in image) (stated_by images)

-- without a born stream there is no format, and no record: the first that has room for so many streams
abbrev pub or_roomy : ℕ → Option Format → Format
or_roomy n None = if nat_le n (most_streams One) then One else Two
or_roomy n (Some f) = f

-- the one given, else that of the lowest born stream
abbrev pub asked_format : Option Format → List (List ℕ) → Format
asked_format asked images = or_roomy (length images) (first_of asked (stated_by images))

-- ---- all streams

-- the content, unless its header counts other streams
abbrev pub counted : ℕ → ℕ → Option ℕ → List ℕ → Result (List ℕ) LogFault
counted n j None bytes = Ok bytes
counted n j (Some found) bytes = if found == n then Ok bytes else Err (record { stream = j; cause = cause.Count n found })

-- what is found there, unless the header states another format than this, which is asked
abbrev pub formatted : Format → ℕ → Option Format → Result (List ℕ) LogFault → Result (List ℕ) LogFault
formatted f j None content = content
formatted f j (Some found) content = if same_format f found then content else Err (record { stream = j; cause = cause.Format (format_number f) (format_number found) })

abbrev pub opened : Format → ℕ → ℕ → Result ImageReading ImageFault → Result (List ℕ) LogFault
opened f n j (Ok r) = formatted f j r.format (counted n j r.count r.bytes)
opened f n j (Err fault) = Err (record { stream = j; cause = cause.Image fault })

abbrev pub recorded : ℕ → Result (List Placed) RecordFault → Result (List Placed) LogFault
recorded j (Ok ps) = Ok ps
recorded j (Err fault) = Err (record { stream = j; cause = cause.Body fault })

-- with how many bytes two texts begin alike
abbrev pub alike : List ℕ → List ℕ → ℕ
alike [] ys = 0
alike (x ∷ xs) [] = 0
alike (x ∷ xs) (y ∷ ys) = if x == y then suc (alike xs ys) else 0

-- this text of stream `first`, unless that of a stream from number j on differs
abbrev pub unless_other : ℕ → List ℕ → ℕ → List (Option (List ℕ)) → Result (Option (List ℕ)) LogFault
unless_other first text j [] = Ok (Some text)
unless_other first text j (None ∷ rest) = unless_other first text (suc j) rest
unless_other first text j (Some other ∷ rest) =
    if bytes_eq text other then unless_other first text (suc j) rest
    else Err (record { stream = j; cause = cause.Catalogue first (alike text other) })

-- the one catalogue of all streams from number j on that have one
abbrev pub catalogue_from : ℕ → List (Option (List ℕ)) → Result (Option (List ℕ)) LogFault
catalogue_from j [] = Ok None
catalogue_from j (None ∷ rest) = catalogue_from (suc j) rest
catalogue_from j (Some text ∷ rest) = unless_other j text (suc j) rest

-- the contents of these images, or the first image that has none, states another format or counts other streams
unfoldable pub contents_of : Format → List (List ℕ) → Result (List (List ℕ)) LogFault
contents_of f images = each_from (λ j image. opened f (length images) j (image_of j image)) 0 images

-- the records of these contents, or the first bad record of the first stream that has one
unfoldable pub streams_of : Format → List (List ℕ) → Result (List (List Placed)) LogFault
streams_of f contents = each_from (λ j content. recorded j (records_of f (length contents) content)) 0 contents

-- the one catalogue of these streams, or the first stream that has another than the first
unfoldable pub catalogue_in : List (List Placed) → Result (Option (List ℕ)) LogFault
catalogue_in streams = catalogue_from 0 (map catalogue_of streams)

-- what the one catalogue of these streams declares
unfoldable pub declared_in : List (List Placed) → Result Declarations LogFault
declared_in streams = catalogue_in streams >>= λ catalogue. Ok (declared_by catalogue)

-- the lowest stream, from number j on, that has an epoch with this number
abbrev pub lowest_with : ℕ → ℕ → List (List Placed) → ℕ
lowest_with number j [] = j
lowest_with number j (ps ∷ streams) = if is_some (vector_of number (marks_in ps)) then j else lowest_with number (suc j) streams

abbrev pub is_vector : List ℕ → Option (List ℕ) → Bool
is_vector lv None = false
is_vector lv (Some first) = bytes_eq first lv

-- the first fault, or the second where there is none
abbrev pub or_else : Option LogFault → Option LogFault → Option LogFault
or_else None fault = fault
or_else (Some first) fault = Some first

-- the fault of a mark of stream j whose vector is not that of its number in the lowest stream that has it
abbrev pub mark_fault : List (List Placed) → ℕ → Mark → Option LogFault
mark_fault streams j m =
    if is_vector m.lv (vector_of m.number (marks_from streams)) then None
    else Some (record { stream = j; cause = cause.Epoch (lowest_with m.number 0 streams) m.number })

-- the first one of these marks
abbrev pub marks_fault : List (List Placed) → ℕ → List Mark → Option LogFault
marks_fault streams j [] = None
marks_fault streams j (m ∷ ms) = or_else (mark_fault streams j m) (marks_fault streams j ms)

-- the first one of the streams from number j on
abbrev pub epochs_fault : List (List Placed) → ℕ → List (List Placed) → Option LogFault
epochs_fault streams j [] = None
epochs_fault streams j (ps ∷ rest) = or_else (marks_fault streams j (marks_in ps)) (epochs_fault streams (suc j) rest)

-- the first epoch record, by stream and place, whose vector is not that of its number in the lowest stream that has it
unfoldable pub epoch_fault : List (List Placed) → Option LogFault
epoch_fault streams = epochs_fault streams 0 streams

-- The log of these contents in a format, one for each stream, or the first cause why they hold none: those of records by
-- stream, then those of catalogues, then those of epochs.
abbrev pub log_of_contents : Format → List (List ℕ) → Result Log LogFault
log_of_contents f contents = do
  streams ← streams_of f contents
  declarations ← declared_in streams
  unless (epoch_fault streams) (record { elv = map length contents; declarations = declarations; streams = streams })

-- The log of these images, one for each stream, of which those that are born are of this format, or the first cause why
-- they hold none: those of images, formats and counts by stream, then those of their contents.
unfoldable pub log_as : Format → List (List ℕ) → Result Log LogFault
log_as f images = do
  contents ← contents_of f images
  log_of_contents f contents

-- the same, if this format is asked, or none
abbrev pub log_of : Option Format → List (List ℕ) → Result Log LogFault
log_of asked images = log_as (asked_format asked images) images

-- What a function returned is what the definition gives, unless memory ran out or a disk failed.
abbrev pub Misses : {A : Type 0} → ScanRefusal → Result A LogFault → Type 0
Misses refusals.NoMemory read = Unit {0}
Misses (refusals.Failed stream) read = Unit {0}
Misses (refusals.Bad fault) read = read ≡ Err fault

abbrev pub Gives : {A : Type 0} → Result A ScanRefusal → Result A LogFault → Type 0
Gives (Ok x) read = read ≡ Ok x
Gives (Err e) read = Misses e read

-- the log of what was read, without the contents
abbrev pub log_read : {A : Type 0} → Result (Log × A) ScanRefusal → Result Log ScanRefusal
log_read (Ok r) = Ok r.0
log_read (Err e) = Err e

-- What was answered is what these images give; a disk that tells gave the bytes that a read gives.
pub record HasRead {D : Type 0} (tells : Type 0) (seen : D → List ℕ) (asked : Option Format) (disks : List D) (result : Result Log ScanRefusal) : Type 0 where
  pub images : List (List ℕ)
  pub as_seen : tells → images ≡ map seen disks
  pub gives : Gives result (log_of asked images)

-- these records are the one reading of the content of a stream, one of n, in a format, and name only what their catalogue declares
pub record IsReading (f : Format) (n : ℕ) (content : List ℕ) (ps : List Placed) : Type 0 where
  pub spelled : IsContent f n content ps
  pub declared : undeclared ps ≡ None

-- the log has the records of some contents, their lengths, and what their one catalogue declares
pub record IsLog (log : Log) : Type 0 where
  pub format : Format
  pub contents : List (List ℕ)
  pub lengths : log.elv ≡ map length contents
  pub read : AllZip (IsReading format (length contents)) contents log.streams
  pub declared : declared_in log.streams ≡ Ok log.declarations
