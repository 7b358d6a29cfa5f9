-- A content: records one after the other, each with its place.
use Rattle.std.specs.Prelude.{◌≡◌, ℕ, zero, suc, ◌<◌, ◌+◌, ◌-◌, List, [], ◌∷◌, ◌++◌, length, take, drop, Result, Ok, Err, ◌==◌, if◌then◌else◌}
use Rattle.std.specs.Global.{Vec}
use Rattle.tau_record.specs.declared.entry.Entry.{Entry}
use Rattle.tau_record.specs.declared.entry.Entry.TheVariants.{Written, Command, Anchor, Catalogue, Epoch}
use Rattle.tau_record.specs.declared.entry.Placed.{Placed}
use Rattle.tau_record.specs.declared.fault.RecordCause.{RecordCause}
use Rattle.tau_record.specs.declared.fault.RecordCause.TheVariants.{BadLength}
use Rattle.tau_record.specs.declared.fault.FieldError.{FieldError}
use Rattle.tau_record.specs.declared.fault.FieldError.TheVariants as errors
use Rattle.tau_record.specs.declared.fault.RecordFault.{RecordFault}
use Rattle.tau_record.specs.declared.fault.RecordRefusal.{RecordRefusal}
use Rattle.tau_record.specs.declared.fault.RecordRefusal.TheVariants as refusals
use Rattle.tau_record.specs.Field.{◌>>=◌, Fails}
use Rattle.tau_record.specs.Format.{Format}
use Rattle.tau_record.specs.Record.{named, spelling, Fits, IsNext, epoch_after, lv_at, record_at}

abbrev pub placed : Entry → ℕ → ℕ → Placed
placed e start past = record { entry = e; start = start; past = past }

-- the vectors that are named after a record
abbrev pub named_after : List (List ℕ) → Entry → List (List ℕ)
named_after vectors (Written number anchor dep writes) = vectors
named_after vectors (Command number anchor dep call) = vectors
named_after vectors (Anchor lv) = vectors ++ lv ∷ []
named_after vectors (Catalogue text) = vectors
named_after vectors (Epoch number lv) = vectors

-- the vectors that are named after these records
abbrev pub named_behind : List (List ℕ) → List Placed → List (List ℕ)
named_behind vectors [] = vectors
named_behind vectors (p ∷ ps) = named_behind (named_after vectors p.entry) ps

-- the vectors of the anchors among these records, in their order
abbrev pub anchors_of : List Placed → List (List ℕ)
anchors_of [] = []
anchors_of (p ∷ ps) = named_after [] p.entry ++ anchors_of ps

-- the number of the last epoch among these records, or k where there is none
abbrev pub last_epoch : ℕ → List Placed → ℕ
last_epoch k [] = k
last_epoch k (p ∷ ps) = last_epoch (epoch_after k p.entry) ps

-- ---- the relation: this content from this place on is these records

-- the content begins with the spelling of the record, and the rest follows it
pub record Begins (f : Format) (n at k : ℕ) (vectors : List (List ℕ)) (content rest : List ℕ) (p : Placed) : Type 0 where
  pub parts : content ≡ spelling f vectors p.entry ++ rest
  pub fits : Fits n vectors (at == 0) p.entry
  pub next : IsNext k p.entry
  pub starts : p.start ≡ at
  pub ends : p.past ≡ at + length (spelling f vectors p.entry)

abbrev pub Reads : Format → ℕ → ℕ → ℕ → List (List ℕ) → List ℕ → List Placed → Type 0
Reads f n at k vectors content [] = content ≡ []
Reads f n at k vectors content (p ∷ ps) = (rest : List ℕ) × Begins f n at k vectors content rest p × Reads f n p.past (epoch_after k p.entry) (named_after vectors p.entry) rest ps

abbrev pub IsContent : Format → ℕ → List ℕ → List Placed → Type 0
IsContent f n content ps = Reads f n 0 0 (named n []) content ps

-- The first bad record: what stands before it is records, and it fails with the cause.
pub record FirstBad (f : Format) (n : ℕ) (content : List ℕ) (fault : RecordFault) : Type 0 where
  pub before : List Placed
  pub there : fault.at < length content
  pub good : IsContent f n (take fault.at content) before
  pub bad : record_at f n (last_epoch 0 before) (named_behind (named n []) before) (fault.at == 0) (drop fault.at content) ≡ Err fault.cause

-- the answer is these records, unless memory ran out
abbrev pub IsAnswer : List Placed → Result (Vec Placed) RecordRefusal → Type 0
IsAnswer ps (Ok v) = v.items ≡ ps
IsAnswer ps (Err refusals.NoMemory) = Unit {0}
IsAnswer ps (Err (refusals.Bad fault)) = ⊥

-- ---- the reading, record after record

abbrev pub found_at : ℕ → Result (Entry × List ℕ) RecordCause → (Entry × List ℕ → Result (List Placed) RecordFault) → Result (List Placed) RecordFault
found_at at (Ok x) f = f x
found_at at (Err cause) f = Err (record { at = at; cause = cause })

abbrev pub in_front : Placed → Result (List Placed) RecordFault → Result (List Placed) RecordFault
in_front p (Ok ps) = Ok (p ∷ ps)
in_front p (Err e) = Err e

-- with more fuel than there are records
unfoldable pub records_at : Format → ℕ → ℕ → ℕ → ℕ → List (List ℕ) → List ℕ → Result (List Placed) RecordFault
records_at f n fuel at k vectors [] = Ok []
records_at f n zero at k vectors (b ∷ bytes) = Ok []
records_at f n (suc fuel) at k vectors (b ∷ bytes) = found_at at (record_at f n k vectors (at == 0) (b ∷ bytes)) (λ x.
    let past = at + (length (b ∷ bytes) - length x.1) in
    in_front (placed x.0 at past) (records_at f n fuel past (epoch_after k x.0) (named_after vectors x.0) x.1))

unfoldable pub content_at : Format → ℕ → List ℕ → Result (List Placed) RecordFault
content_at f n content = records_at f n (length content) 0 0 (named n []) content

-- the records with one more after them, whose fields take all of its bytes, and the vectors and the epoch that are named then
abbrev pub put_at : List (List ℕ) → ℕ → List Placed → ℕ → ℕ → Entry × List ℕ → Result (List Placed × List (List ℕ) × ℕ) RecordCause
put_at vectors k before start past x = if length x.1 == 0 then Ok (before ++ placed x.0 start past ∷ [], named_after vectors x.0, epoch_after k x.0) else Err BadLength

-- the same with the record that is read, where one is
abbrev pub puts : Result (Entry × List ℕ) RecordCause → List (List ℕ) → ℕ → List Placed → ℕ → ℕ → Result (List Placed × List (List ℕ) × ℕ) RecordCause
puts read vectors k before start past = read >>= put_at vectors k before start past

abbrev pub anchor_at : ℕ → List ℕ → Result (Entry × List ℕ) RecordCause
anchor_at n bytes = lv_at n bytes >>= λ v. Ok (Anchor v.0, v.1)

-- the record at the front of the bytes stands after those before it
pub record Joined (f : Format) (n at k number : ℕ) (vectors names : List (List ℕ)) (bytes after : List ℕ) (before now : List Placed) : Type 0 where
  pub entry : Entry
  pub read : record_at f n k vectors (at == 0) bytes ≡ Ok (entry, after)
  pub behind : now ≡ before ++ placed entry at (at + (length bytes - length after)) ∷ []
  pub names_are : names ≡ named_after vectors entry
  pub number_is : number ≡ epoch_after k entry

-- what a function did that returned, seen by view, the bytes after a record, unless memory ran out
abbrev pub Joins : {X : Type 0} → (X → List ℕ) → Format → ℕ → ℕ → ℕ → ℕ → List (List ℕ) → List (List ℕ) → List ℕ → List Placed → List Placed → Result X FieldError → Type 0
Joins view f n at k number vectors names bytes before now (Ok x) = Joined f n at k number vectors names bytes (view x) before now
Joins view f n at k number vectors names bytes before now (Err e) = Fails e (record_at f n k vectors (at == 0) bytes)

-- the refusal of a record at a place
abbrev pub refused : ℕ → FieldError → RecordRefusal
refused at errors.Memory = refusals.NoMemory
refused at (errors.Bad cause) = refusals.Bad (record { at = at; cause = cause })

-- What a function returned is what reading gives, unless memory ran out.
abbrev pub GivesAll : Result (Vec Placed) RecordRefusal → Result (List Placed) RecordFault → Type 0
GivesAll (Ok v) read = read ≡ Ok v.items
GivesAll (Err refusals.NoMemory) read = Unit {0}
GivesAll (Err (refusals.Bad f)) read = read ≡ Err f
