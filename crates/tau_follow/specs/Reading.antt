-- What a reader has read of a stream.
use Rattle.std.specs.Prelude.{ℕ, ◌≡◌, ◌≤◌, ◌<◌, ◌⊎◌, ◌==◌, ◌+◌, ◌-◌, Bool, nat_lt, List, [], ◌∷◌, ◌++◌, length, take, drop, slice_get, Some, None, Result, Ok, Err, if◌then◌else◌}
use Rattle.std.specs.Int.{w32, from_be_bytes}
use Rattle.tau_record.specs.declared.entry.Entry.{Entry}
use Rattle.tau_record.specs.declared.entry.Placed.{Placed}
use Rattle.tau_record.specs.declared.fault.RecordCause.{RecordCause}
use Rattle.tau_record.specs.declared.fault.RecordCause.TheVariants.{Short}
use Rattle.tau_record.specs.Format.{Format}
use Rattle.tau_record.specs.Record.{named, record_at, kind_fits}
use Rattle.tau_record.specs.Content.{named_behind, last_epoch, content_at}
use Rattle.tau_scan.specs.Reading.{catalogue_of, declared_by, undeclared}
use Rattle.tau_follow.specs.declared.reader.Reader.{Reader}
use Rattle.tau_follow.specs.declared.reader.Mark.{Mark}

-- Of a content, which ends with the bytes of the reader from this index on, these records are read, and the reader knows what
-- stands behind them.
pub record IsGoing (f : Format) (n : ℕ) (content : List ℕ) (ps : List Placed) (r : Reader) (from : ℕ) : Type 0 where
  pub front : List ℕ
  pub parts : content ≡ front ++ drop from r.rest.items
  pub read : content_at f n front ≡ Ok ps
  pub declared : undeclared ps ≡ None
  pub place : r.at ≡ length front
  pub vectors : r.vectors.items ≡ named_behind (named n []) ps
  pub last : r.last ≡ last_epoch 0 ps
  pub declarations : r.declarations ≡ declared_by (catalogue_of ps)
  pub within : from ≤ length r.rest.items

-- how many bytes more the record at the front of these bytes asks for at least, as its kind and length say
abbrev pub lacking : Bool → List ℕ → ℕ
lacking first [] = 0
lacking first (kind ∷ bytes) = if kind_fits first kind then (if nat_lt (length bytes) 4 then 4 - length bytes else from_be_bytes w32 (take 4 bytes) - (length (drop 4 bytes) + 5)) else 0

-- the same between two feeds: all of its bytes are left, and no more is known to be lacking than lacks
pub record IsRead (f : Format) (n : ℕ) (content : List ℕ) (ps : List Placed) (r : Reader) : Type 0 where
  pub going : IsGoing f n content ps r 0
  pub wants : r.lacks ≤ lacking (r.at == 0) r.rest.items

-- what the bytes of the reader from this index on are, as its next record
abbrev pub next_at : Format → ℕ → Reader → ℕ → Result (Entry × List ℕ) RecordCause
next_at f n r from = record_at f n r.last r.vectors.items (r.at == 0) (drop from r.rest.items)

-- no bytes are left, or too few for a record
abbrev pub IsStopped : Format → ℕ → Reader → ℕ → Type 0
IsStopped f n r from = (drop from r.rest.items ≡ []) ⊎ (next_at f n r from ≡ Err Short)

-- the second list begins with the first one
abbrev pub BeginsWith : {A : Type 0} → List A → List A → Type 0
BeginsWith xs ys = (more : List _) × (ys ≡ xs ++ more)

-- a reader has gone on from this one, with more records: what it knew is in front
pub record IsLonger (r t : Reader) (ps qs : List Placed) : Type 0 where
  pub records : BeginsWith ps qs
  pub vectors : BeginsWith r.vectors.items t.vectors.items
  pub at : r.at ≤ t.at
  pub declared : (r.at ≡ 0) ⊎ (t.declarations ≡ r.declarations)

-- the reader was so, with these records read
pub record IsMark (r : Reader) (ps : List Placed) (m : Mark) : Type 0 where
  pub rest : m.rest.items ≡ r.rest.items
  pub at : m.at ≡ r.at
  pub vectors : m.vectors ≡ length r.vectors.items
  pub last : m.last ≡ r.last
  pub records : m.records ≡ length ps

-- the next record of a stream is known not to be whole by so many bytes more
abbrev pub IsShortBy : List Reader → ℕ → ℕ → Type 0
IsShortBy readers j more = (r : Reader) → slice_get readers j ≡ Some r → more < r.lacks
