-- An order that is followed along the records of a log: each of its calls is the one that the reported history has next.
use Rattle.std.specs.Prelude.{ℕ, suc, ◌≡◌, ◌==◌, ◌≤◌, ◌<◌, Bool, true, false, List, [], ◌∷◌, length, Option, Some, None, slice_get, slice_index, slice_set, if◌then◌else◌}
use Rattle.std.specs.List.{filter}
use Rattle.tau_base.specs.Vectors.{covers}
use Rattle.tau_model.specs.History.{Numbered, Act, Member, means, updates}
use Rattle.tau_scan.specs.Taken.{Kept}
use Rattle.tau_inspect.specs.declared.walk.Walk.{Walk}
use Rattle.tau_inspect.specs.Audit.{Case, acts, records, has_ack, has_record, vector_in, due, AckAgrees, fate_of, FitsReply, reply_of, IsHome, IsWork, IsWhole}
use Rattle.tau_inspect.specs.Executed.{call_of, numbered}
use Rattle.tau_base.specs.Database.{Db, written}
use Rattle.tau_proc.specs.Effect.{Effect}
use Rattle.tau_proc.specs.declared.reply.Reply.{Reply}
use Rattle.tau_base.specs.declared.value.Key.{Key}
use Rattle.tau_base.specs.declared.value.Value.{Value}

abbrev pub of_stream : ℕ → Option Kept → Option Kept
of_stream stream None = None
of_stream stream (Some r) = if r.place.stream == stream then Some r else None

-- the record at this index, if it is in this stream
abbrev pub head_of : List Kept → ℕ → ℕ → Option Kept
head_of all index stream = of_stream stream (slice_get all index)

-- where it starts, or the end
abbrev pub start_or : Option Kept → ℕ → ℕ
start_or None end = end
start_or (Some r) end = r.place.start

-- whether there is one, and it is covered
abbrev pub head_passes : List ℕ → Option Kept → Bool
head_passes reach None = false
head_passes reach (Some r) = covers reach r.place.dep

-- the next record of a stream, as the walk takes it
abbrev pub next_of : List Kept → Walk → ℕ → Option Kept
next_of all w k = head_of all (slice_index w.nexts.items k) k

-- for each stream where the next record starts, of those with these indices, or where the stream ends
pub record IsReach (all : List Kept) (ends nexts reach : List ℕ) : Type 0 where
  pub long : length reach ≡ length ends
  pub starts : (k : ℕ) → k < length ends → slice_index reach k ≡ start_or (head_of all (slice_index nexts k) k) (slice_index ends k)

-- the walk has an index for each stream, and knows where its next record starts
pub record IsAt (all : List Kept) (ends : List ℕ) (w : Walk) : Type 0 where
  pub nexts : length w.nexts.items ≡ length ends
  pub reach : IsReach all ends w.nexts.items w.reach

-- the next record of this stream is covered, and that of no lower one
pub record IsLowest (all : List Kept) (w : Walk) (j : ℕ) : Type 0 where
  pub within : j < length w.nexts.items
  pub one : Kept
  pub next : next_of all w j ≡ Some one
  pub covered : covers w.reach one.place.dep ≡ true
  pub lower : (k : ℕ) → k < j → head_passes w.reach (next_of all w k) ≡ false

-- the walk passes the record of the call with this number, the next one that is covered
pub record Goes (all : List Kept) (ends : List ℕ) (Fits : Kept → Type 0) (number : ℕ) (w new : Walk) : Type 0 where
  pub lowest : IsLowest all w new.stream
  pub fits : Fits lowest.one
  pub named : lowest.one.number ≡ number
  pub nexts : new.nexts.items ≡ slice_set w.nexts.items new.stream (suc (slice_index w.nexts.items new.stream))
  pub reach : new.reach ≡ slice_set w.reach new.stream (start_or (next_of all new new.stream) (slice_index ends new.stream))
  pub rises : lowest.one.place.start ≤ start_or (next_of all new new.stream) (slice_index ends new.stream)
  pub passed : new.passed ≡ true
  pub start : new.start ≡ lowest.one.place.start

-- it passes a call that only reads, with this vector: it is covered, and was not before the last record, and has a greater number than the one before it
pub record Reads (dep : List ℕ) (number : ℕ) (w new : Walk) : Type 0 where
  pub covered : covers w.reach dep ≡ true
  pub late : w.passed ≡ true → w.start < slice_index dep w.stream
  pub above : w.last < number
  pub same : (new.nexts ≡ w.nexts) × (new.reach ≡ w.reach) × (new.passed ≡ w.passed) × (new.stream ≡ w.stream) × (new.start ≡ w.start)
  pub last : new.last ≡ number

-- it passes a call that writes, or one that only reads
abbrev pub Step : List Kept → List (ℕ × List ℕ) → List ℕ → (Kept → Type 0) → Bool → ℕ → Walk → Walk → Type 0
Step all acks ends Fits true number w new = Goes all ends Fits number w new
Step all acks ends Fits false number w new = Reads (vector_in number acks) number w new × (has_ack number acks ≡ true)

-- a record holds what the call did, in the stream of its worker, and the call's acknowledgement, if it has one, has the record's vector
pub record IsFor (c : Case) (number : ℕ) (writes : List (Key × Value)) (r : Kept) : Type 0 where
  pub work : IsWork r.content writes (call_of c.load.calls number)
  pub home : IsHome c r
  pub ack : AckAgrees c r

-- the walk passes these calls, each of which replied as it is told, one after another up to this end, and no record is left
abbrev pub Walks : Case → Walk → List (Act Numbered) → Walk → Type 0
Walks c w [] end = (end ≡ w) × ((k : ℕ) → k < length c.log.elv → next_of (records c) w k ≡ None)
Walks c w (x ∷ xs) end = (new : Walk) × Step (records c) c.report.acks c.log.elv (IsFor c x.call.number x.effect.writes) (updates x.effect) x.call.number w new × FitsReply c [] x × Walks c new xs end

-- each record lies before the end in its stream: the first one of the first stream is the first of all, and where one stream ends the next one begins
pub record IsPassed (count width : ℕ) (first last : List ℕ) : Type 0 where
  pub wide : 1 ≤ width
  pub begins : slice_index first 0 ≡ 0
  pub goes_on : (k : ℕ) → suc k < width → slice_index last k ≡ slice_index first (suc k)
  pub finishes : (k : ℕ) → suc k ≡ width → slice_index last k ≡ count

-- The order is the reported history, each call has its record or its acknowledgement, and the vectors of all records are covered.
pub record IsFollowed (c : Case) : Type 0 where
  pub order : due c ≡ c.report.order
  pub whole : IsWhole c
  pub taken : (x : Act Numbered) → Member x (acts c) → updates x.effect ≡ true → has_record x.call.number (filter (λ r. covers c.log.elv r.place.dep) (records c)) ≡ true

-- what a call of the order does on these rows
abbrev pub effect_on : Case → ℕ → Db → Effect
effect_on c number db = means c.load.declarations.procs (numbered c.load.calls number) db

-- The call was executed on these rows and left those, it replied as it is told, and the walk passed it.
pub record IsOneOn (c : Case) (all : List Kept) (acks : List (ℕ × List ℕ)) (number : ℕ) (w new : Walk) (db after : Db) : Type 0 where
  pub replied : reply_of (fate_of c number) ≡ Some (effect_on c number db).reply
  pub step : Step all acks c.log.elv (IsFor c number (effect_on c number db).writes) (updates (effect_on c number db)) number w new
  pub rows : after ≡ written (effect_on c number db).writes db

-- a call with this effect was gone through: what it writes is buffered, and if so it replied as it is told
pub record HasGone (told : Option Reply) (e : Effect) (buffer : List (Key × Value)) (so : Bool) : Type 0 where
  pub writes : buffer ≡ e.writes
  pub replied : so ≡ true → told ≡ Some e.reply
