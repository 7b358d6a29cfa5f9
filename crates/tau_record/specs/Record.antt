-- Records: the one spelling of each, what has one, and the reading of the fields in order.
use Rattle.std.specs.Prelude.{◌≡◌, ℕ, zero, suc, ◌<◌, ◌≤◌, ◌+◌, ◌-◌, ◌^◌, Bool, true, false, IsTrue, List, [], ◌∷◌, ◌++◌, length, take, drop, replicate, None, Result, Ok, Err, nat_lt, nat_le, ◌==◌, if◌then◌else◌, slice_index_or}
use Rattle.std.specs.FinMap.{is_sorted}
use Rattle.std.specs.List.{flat_map, AllByRecursion}
use Rattle.std.specs.Int.{Width, w16, w32, w64, byte_len, to_be_bytes, from_be_bytes}
use Rattle.tau_base.specs.Database.{key_cmp}
use Rattle.tau_base.specs.Vectors.{AtMost}
use Rattle.tau_base.specs.declared.limits.TheConstants.{MAX_ARGS, MAX_CATALOGUE, MAX_LSN, MAX_WRITES}
use Rattle.tau_record.specs.declared.entry.Entry.{Entry}
use Rattle.tau_record.specs.declared.entry.Entry.TheVariants.{Written, Command, Anchor, Catalogue, Epoch}
use Rattle.tau_record.specs.declared.fault.RecordCause.{RecordCause}
use Rattle.tau_record.specs.declared.fault.RecordCause.TheVariants.{Short, BadKind, BadLength, BadAnchor, BadBody}
use Rattle.tau_record.specs.Format.{Format}
use Rattle.tau_record.specs.Field.{◌>>=◌, number_at}
use Rattle.tau_record.specs.Vector.{ArePlaces, vector, vector_at}
use Rattle.tau_record.specs.Item.{value, FitsValue, write, FitsWrite, writes_at, args_at, byte_at}

-- ---- the spelling

-- The vectors that an anchor number names: 0 the zero vector, and then the anchors of the stream in order.
abbrev pub named : ℕ → List (List ℕ) → List (List ℕ)
named n anchors = replicate n 0 ∷ anchors

abbrev pub base_of : List (List ℕ) → ℕ → List ℕ
base_of vectors k = slice_index_or vectors k []

-- each vector that a number names has places alone, and as many as there are streams
abbrev pub AreVectors : ℕ → List (List ℕ) → Type 0
AreVectors n vectors = (k : ℕ) → k < length vectors → ArePlaces (base_of vectors k) × (length (base_of vectors k) ≡ n)

-- whose record it is: the call's number, the anchor's number, and the vector above that anchor's
abbrev pub origin : Format → List ℕ → ℕ → ℕ → List ℕ → List ℕ
origin f base number anchor dep = to_be_bytes w64 number ++ (to_be_bytes w32 anchor ++ vector f base dep)

abbrev pub kind_of : Entry → ℕ
kind_of (Written number anchor dep writes) = 1
kind_of (Command number anchor dep call) = 2
kind_of (Anchor lv) = 3
kind_of (Catalogue text) = 4
kind_of (Epoch number lv) = 5

abbrev pub body : Format → List (List ℕ) → Entry → List ℕ
body f vectors (Written number anchor dep writes) = origin f (base_of vectors anchor) number anchor dep ++ (to_be_bytes w16 (length writes) ++ flat_map write writes)
body f vectors (Command number anchor dep call) = origin f (base_of vectors anchor) number anchor dep ++ (to_be_bytes w16 call.proc ++ ((length call.args.items ∷ []) ++ flat_map value call.args.items))
body f vectors (Anchor lv) = flat_map (to_be_bytes w64) lv
body f vectors (Catalogue text) = text
body f vectors (Epoch number lv) = to_be_bytes w32 number ++ flat_map (to_be_bytes w64) lv

-- a kind, the length of the whole record, and the fields
abbrev pub framed : ℕ → List ℕ → List ℕ
framed kind fields = kind ∷ (to_be_bytes w32 (5 + length fields) ++ fields)

abbrev pub spelling : Format → List (List ℕ) → Entry → List ℕ
spelling f vectors e = framed (kind_of e) (body f vectors e)

-- what has a spelling

pub record FitsOrigin (vectors : List (List ℕ)) (number anchor : ℕ) (dep : List ℕ) : Type 0 where
  pub low : 1 ≤ number
  pub number_fits : number < 2 ^ 64
  pub anchor_fits : anchor < 2 ^ 32
  pub known : anchor < length vectors
  pub width : length dep ≡ length (base_of vectors anchor)
  pub covers : AtMost (base_of vectors anchor) dep
  pub places : ArePlaces dep

-- the keys of writes strictly rise
abbrev pub FitsBody : ℕ → List (List ℕ) → Entry → Type 0
FitsBody n vectors (Written number anchor dep writes) = FitsOrigin vectors number anchor dep × (1 ≤ length writes) × (length writes ≤ MAX_WRITES) × IsTrue (is_sorted key_cmp writes) × AllByRecursion FitsWrite writes
FitsBody n vectors (Command number anchor dep call) = FitsOrigin vectors number anchor dep × (call.proc < 2 ^ 16) × (length call.args.items ≤ MAX_ARGS) × AllByRecursion FitsValue call.args.items
FitsBody n vectors (Anchor lv) = (length lv ≡ n) × ArePlaces lv
FitsBody n vectors (Catalogue text) = (length text ≤ MAX_CATALOGUE) × ((i : ℕ) → slice_index_or text i 0 < 256)
FitsBody n vectors (Epoch number lv) = (1 ≤ number) × (number < 2 ^ 32) × (length lv ≡ n) × ArePlaces lv

-- the catalogue comes first, and no other record does
abbrev pub kind_fits : Bool → ℕ → Bool
kind_fits true kind = kind == 4
kind_fits false kind = if kind == 5 then true else (if nat_le 1 kind then nat_le kind 3 else false)

-- a record that may stand here, first in its stream or after these anchors
pub record Fits (n : ℕ) (vectors : List (List ℕ)) (first : Bool) (e : Entry) : Type 0 where
  pub kind : kind_fits first (kind_of e) ≡ true
  pub fields : FitsBody n vectors e

-- The relation between a record and its bytes, for a number of streams and the vectors that its place names.
pub record Spells (f : Format) (n : ℕ) (vectors : List (List ℕ)) (first : Bool) (e : Entry) (bytes : List ℕ) : Type 0 where
  pub fits : Fits n vectors first e
  pub text : bytes ≡ spelling f vectors e

-- The epochs of a stream. Their numbers rise: k is that of the last one before a record, or 0.

-- the number of an epoch is above that of the last one
abbrev pub IsNext : ℕ → Entry → Type 0
IsNext k (Written number anchor dep writes) = Unit {0}
IsNext k (Command number anchor dep call) = Unit {0}
IsNext k (Anchor lv) = Unit {0}
IsNext k (Catalogue text) = Unit {0}
IsNext k (Epoch number lv) = k < number

-- the number of the last epoch after this record
abbrev pub epoch_after : ℕ → Entry → ℕ
epoch_after k (Written number anchor dep writes) = k
epoch_after k (Command number anchor dep call) = k
epoch_after k (Anchor lv) = k
epoch_after k (Catalogue text) = k
epoch_after k (Epoch number lv) = number

-- ---- the reading

pub record Origin : Type 0 where
  pub number : ℕ
  pub anchor : ℕ
  pub dep : List ℕ

unfoldable pub origin_at : Format → List (List ℕ) → List ℕ → Result (Origin × List ℕ) RecordCause
origin_at f vectors bytes = number_at w64 bytes >>= λ number.
    if number.0 == 0 then Err BadBody else (number_at w32 number.1 >>= λ anchor.
    if nat_le (length vectors) anchor.0 then Err BadAnchor else (vector_at f (base_of vectors anchor.0) anchor.1 >>= λ dep.
    Ok (record { number = number.0; anchor = anchor.0; dep = dep.0 }, dep.1)))

unfoldable pub written_at : Format → List (List ℕ) → List ℕ → Result (Entry × List ℕ) RecordCause
written_at f vectors bytes = origin_at f vectors bytes >>= λ o. number_at w16 o.1 >>= λ count.
    if count.0 == 0 then Err BadBody else (
    if nat_lt MAX_WRITES count.0 then Err BadBody else (writes_at count.0 None count.1 >>= λ ws.
    Ok (Written o.0.number o.0.anchor o.0.dep ws.0, ws.1)))

unfoldable pub command_at : Format → List (List ℕ) → List ℕ → Result (Entry × List ℕ) RecordCause
command_at f vectors bytes = origin_at f vectors bytes >>= λ o. number_at w16 o.1 >>= λ proc. byte_at proc.1 >>= λ count.
    if nat_lt MAX_ARGS count.0 then Err BadBody else (args_at count.0 count.1 >>= λ args.
    Ok (Command o.0.number o.0.anchor o.0.dep (record { proc = proc.0; args = record { items = args.0 } }), args.1))

unfoldable pub lv_at : ℕ → List ℕ → Result (List ℕ × List ℕ) RecordCause
lv_at zero bytes = Ok ([], bytes)
lv_at (suc n) bytes = number_at w64 bytes >>= λ part.
    if nat_le MAX_LSN part.0 then Err BadBody else (lv_at n part.1 >>= λ v. Ok (part.0 ∷ v.0, v.1))

-- The number is tested once it is read. Above k it is at least 1.
unfoldable pub epoch_at : ℕ → ℕ → List ℕ → Result (Entry × List ℕ) RecordCause
epoch_at n k bytes = number_at w32 bytes >>= λ number.
    if nat_le number.0 k then Err BadBody else (lv_at n number.1 >>= λ v. Ok (Epoch number.0 v.0, v.1))

unfoldable pub fields_at : Format → ℕ → ℕ → List (List ℕ) → ℕ → List ℕ → Result (Entry × List ℕ) RecordCause
fields_at f n k vectors kind bytes =
    if kind == 1 then written_at f vectors bytes else (
    if kind == 2 then command_at f vectors bytes else (
    if kind == 3 then (lv_at n bytes >>= λ v. Ok (Anchor v.0, v.1)) else (
    if kind == 5 then epoch_at n k bytes else (
    if nat_lt MAX_CATALOGUE (length bytes) then Err BadBody else Ok (Catalogue bytes, [])))))

-- all of the fields
unfoldable pub body_at : Format → ℕ → ℕ → List (List ℕ) → ℕ → List ℕ → Result Entry RecordCause
body_at f n k vectors kind bytes = fields_at f n k vectors kind bytes >>= λ x. if length x.1 == 0 then Ok x.0 else Err BadLength

abbrev pub sized_at : ℕ → ℕ → List ℕ → Result ((ℕ × List ℕ) × List ℕ) RecordCause
sized_at kind total left =
    if nat_lt (length left + 5) total then Err Short else (
    if nat_lt total 5 then Err BadLength else Ok ((kind, take (total - 5) left), drop (total - 5) left))

abbrev pub total_at : Width → ℕ → List ℕ → Result ((ℕ × List ℕ) × List ℕ) RecordCause
total_at w kind bytes = if nat_lt (length bytes) (byte_len w) then Err Short else sized_at kind (from_be_bytes w (take (byte_len w) bytes)) (drop (byte_len w) bytes)

unfoldable pub frame_at : Bool → List ℕ → Result ((ℕ × List ℕ) × List ℕ) RecordCause
frame_at first [] = Err Short
frame_at first (kind ∷ bytes) = if kind_fits first kind then total_at w32 kind bytes else Err BadKind

-- a record after an epoch with number k and the bytes after it, or the cause of the first field that fails
unfoldable pub record_at : Format → ℕ → ℕ → List (List ℕ) → Bool → List ℕ → Result (Entry × List ℕ) RecordCause
record_at f n k vectors first bytes = frame_at first bytes >>= λ frame. body_at f n k vectors frame.0.0 frame.0.1 >>= λ e. Ok (e, frame.1)
