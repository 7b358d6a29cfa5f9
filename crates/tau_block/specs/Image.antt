-- What the image of a log stream holds.
use Rattle.std.specs.Prelude.{◌≡◌, ◌≢◌, ℕ, zero, suc, ◌+◌, ◌<◌, ◌≤◌, ◌^◌, Bool, true, ◌&&◌, List, [], ◌∷◌, ◌++◌, length, take, drop, slice_index, nat_eq, nat_le, nat_lt, Option, Some, None, Result, Ok, Err, if◌then◌else◌, ◌==◌}
use Rattle.std.specs.List.{starts_with}
use Rattle.std.specs.Int.{w16, w32, to_be_bytes, from_be_bytes}
use Rattle.tau_base.specs.declared.format.Format.{Format}
use Rattle.tau_base.specs.declared.format.Format.TheVariants.{One, Two}
use Rattle.tau_base.specs.declared.limits.TheConstants.{MAX_BODY}
use Rattle.tau_base.specs.Modes.{most_streams, same_format}
use Rattle.tau_block.specs.declared.fault.ImageFault.{ImageFault}
use Rattle.tau_block.specs.declared.fault.ImageFault.TheVariants.{BadMagic, BadCount, BadIndex, OpenGateWithoutBlock}

-- what an image holds: the format of its log and how many streams it has, where it has a header, and the bodies of its
-- blocks one after another
pub record Reading : Type 0 where
  pub format : Option Format
  pub count : Option ℕ
  pub bytes : List ℕ

-- the digit that stands for a format
abbrev pub format_digit : Format → ℕ
format_digit One = 49
format_digit Two = 50

-- the text `TAURUS-LOG-1`, or `TAURUS-LOG-2`
abbrev pub magic : Format → List ℕ
magic f = 84 ∷ 65 ∷ 85 ∷ 82 ∷ 85 ∷ 83 ∷ 45 ∷ 76 ∷ 79 ∷ 71 ∷ 45 ∷ format_digit f ∷ []

-- the header of stream j of n in a format, before its first gate
abbrev pub header_of : Format → ℕ → ℕ → List ℕ
header_of f n j = magic f ++ (to_be_bytes w16 n ++ to_be_bytes w16 j)

-- the format that a header states: that of the digit at the end of its text
unfoldable pub format_in : List ℕ → Format
format_in head = if slice_index head 11 == format_digit Two then Two else One

-- the number of streams that a header states, and the index of its own stream
unfoldable pub count_in : List ℕ → ℕ
count_in head = from_be_bytes w16 (slice_index head 12 ∷ slice_index head 13 ∷ [])

unfoldable pub index_in : List ℕ → ℕ
index_in head = from_be_bytes w16 (slice_index head 14 ∷ slice_index head 15 ∷ [])

-- the format that the header of an image states, where it has one
abbrev pub stated_in : List ℕ → Option Format
stated_in image = if nat_le (length image) 17 then None else Some (format_in (take 16 image))

-- the first cause why these 16 bytes are no header of stream j
unfoldable pub header_fault : ℕ → List ℕ → Option ImageFault
header_fault j head =
    if starts_with nat_eq head (magic (format_in head)) then
    (if nat_le 1 (count_in head) && nat_le (count_in head) (most_streams (format_in head)) then
    (if nat_eq (index_in head) j && nat_lt (index_in head) (count_in head) then None else Some BadIndex)
    else Some BadCount)
    else Some BadMagic

-- these bytes, and then what is there
abbrev pub extended : List ℕ → Option (List ℕ) → Option (List ℕ)
extended body None = None
extended body (Some rest) = Some (body ++ rest)

-- The bodies from a place on that has so many bytes of a body before the next gate, one after another as long as
-- gates read 1. None where an open gate has no whole block after it: its length is 0 or missing, or the image ends
-- before the next gate.
abbrev pub bodies : ℕ → List ℕ → Option (List ℕ)
bodies zero [] = None
bodies zero (gate ∷ a ∷ b ∷ c ∷ d ∷ rest) =
    if gate == 1 then (if from_be_bytes w32 (a ∷ b ∷ c ∷ d ∷ []) == 0 then None else bodies (from_be_bytes w32 (a ∷ b ∷ c ∷ d ∷ [])) rest)
    else Some []
bodies zero (gate ∷ rest) = if gate == 1 then None else Some []
bodies (suc k) [] = None
bodies (suc k) (x ∷ rest) = extended (x ∷ []) (bodies k rest)

-- what stands after a header, or a cause
abbrev pub with_count : Format → ℕ → Option (List ℕ) → Result Reading ImageFault
with_count f n (Some bytes) = Ok (record { format = Some f; count = Some n; bytes = bytes })
with_count f n None = Err OpenGateWithoutBlock

abbrev pub behind_header : List ℕ → Option ImageFault → Option (List ℕ) → Result Reading ImageFault
behind_header head (Some fault) blocks = Err fault
behind_header head None blocks = with_count (format_in head) (count_in head) blocks

-- What an image of stream j holds, or the first cause why it holds nothing. One of at most 17 bytes is unborn,
-- whatever it holds.
abbrev pub image_of : ℕ → List ℕ → Result Reading ImageFault
image_of j image =
    if nat_le (length image) 17 then Ok (record { format = None; count = None; bytes = [] })
    else behind_header (take 16 image) (header_fault j (take 16 image)) (bodies 0 (drop 16 image))

-- no header states another format
abbrev pub is_in : Format → Option Format → Bool
is_in f (Some format) = same_format f format
is_in f None = true

-- no header states another number of streams
abbrev pub is_of : ℕ → Option ℕ → Bool
is_of n (Some count) = count == n
is_of n None = true

abbrev pub bytes_of : Format → ℕ → Result Reading ImageFault → Option (List ℕ)
bytes_of f n (Ok reading) = if is_in f reading.format && is_of n reading.count then Some reading.bytes else None
bytes_of f n (Err fault) = None

-- the content of an image of stream j of n in a format
abbrev pub content_of : Format → ℕ → ℕ → List ℕ → Option (List ℕ)
content_of f n j image = bytes_of f n (image_of j image)

-- the image has this content
abbrev pub HasContent : Format → ℕ → ℕ → List ℕ → List ℕ → Type 0
HasContent f n j content image = content_of f n j image ≡ Some content

-- what is said of a format and a number of streams is said of those that a header states, where there is one
abbrev pub IfBorn : Option Format → Option ℕ → (Format → ℕ → Type 0) → Type 0
IfBorn (Some f) (Some n) P = P f n
IfBorn (Some f) None P = Unit {0}
IfBorn None count P = Unit {0}

abbrev pub tail_of : List ℕ → List ℕ
tail_of body = to_be_bytes w32 (length body) ++ body ++ 0 ∷ []

-- a writer puts so much into one block
pub record IsBody (body : List ℕ) : Type 0 where
  pub some : 1 ≤ length body
  pub most : length body ≤ MAX_BODY

-- These bytes are a header and whole blocks of this content: whatever stands after them, the image reads as the
-- content and then the rest.
pub record IsFront (f : Format) (n j : ℕ) (front content : List ℕ) : Type 0 where
  pub long : 16 ≤ length front
  pub closed : (gate : ℕ) (rest : List ℕ) → gate ≢ 1 → content_of f n j (front ++ gate ∷ rest) ≡ Some content
  pub more : (tail : List ℕ) → 2 ≤ length tail → content_of f n j (front ++ tail) ≡ extended content (bodies 0 tail)

-- the image has a header and whole blocks of this content, and after them a closed gate at this place
pub record IsLog (f : Format) (n j : ℕ) (image : List ℕ) (gate_at : ℕ) (content : List ℕ) : Type 0 where
  pub within : gate_at < length image
  pub shut : slice_index image gate_at ≢ 1
  pub front : IsFront f n j (take gate_at image) content

-- these are 16 bytes before the first gate of stream j of n in a format
pub record IsHeader (f : Format) (n j : ℕ) (head : List ℕ) : Type 0 where
  pub size : length head ≡ 16
  pub sound : header_fault j head ≡ None
  pub formats : format_in head ≡ f
  pub counts : count_in head ≡ n

-- the length of this body and the body stand at this place, and a byte after them
pub record IsBlockAt (image : List ℕ) (at : ℕ) (body : List ℕ) : Type 0 where
  pub some : 1 ≤ length body
  pub short : length body < 2 ^ 32
  pub within : at + 4 + length body < length image
  pub stands : take (4 + length body) (drop at image) ≡ to_be_bytes w32 (length body) ++ body

-- the blocks from the header to the gate at this place are read, and this is what they hold
pub record IsWalked (image : List ℕ) (gate_at : ℕ) (content : List ℕ) : Type 0 where
  pub within : gate_at < length image
  pub reads : bodies 0 (drop 16 image) ≡ extended content (bodies 0 (drop gate_at image))
  pub front : (f : Format) (n j : ℕ) → IsHeader f n j (take 16 image) → IsFront f n j (take gate_at image) content
