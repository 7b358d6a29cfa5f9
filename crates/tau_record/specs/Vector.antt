-- The vector of a record. It is written as the components that are above those of a base, the named anchor's vector.
use Rattle.std.specs.Prelude.{ℕ, ◌<◌, ◌+◌, ◌*◌, ◌/◌, ◌%◌, ◌^◌, List, [], ◌∷◌, ◌++◌, length, drop, slice_index, Result, Ok, Err, nat_lt, nat_le, ◌==◌, if◌then◌else◌}
use Rattle.std.specs.List.{flat_map, AllByRecursion}
use Rattle.std.specs.Int.{w64, to_be_bytes}
use Rattle.tau_base.specs.declared.limits.TheConstants.{MAX_LSN}
use Rattle.tau_record.specs.declared.fault.RecordCause.{RecordCause}
use Rattle.tau_record.specs.declared.fault.RecordCause.TheVariants.{BadMask}
use Rattle.tau_record.specs.Format.{Format, mask_width}
use Rattle.tau_record.specs.Field.{◌>>=◌, number_at}

-- each component is a place in a stream
abbrev pub ArePlaces : List ℕ → Type 0
ArePlaces v = AllByRecursion (λ (p : ℕ). p < MAX_LSN) v

-- ---- the spelling

-- bit j is set exactly where component j is above the base's
abbrev pub mask_of : List ℕ → List ℕ → ℕ
mask_of [] dep = 0
mask_of (low ∷ base) [] = 0
mask_of (low ∷ base) (part ∷ dep) = (if nat_lt low part then 1 else 0) + 2 * mask_of base dep

-- the components above those of the base, in ascending order of streams
abbrev pub above : List ℕ → List ℕ → List ℕ
above [] dep = []
above (low ∷ base) [] = []
above (low ∷ base) (part ∷ dep) = if nat_lt low part then part ∷ above base dep else above base dep

abbrev pub vector : Format → List ℕ → List ℕ → List ℕ
vector f base dep = to_be_bytes (mask_width f) (mask_of base dep) ++ flat_map (to_be_bytes w64) (above base dep)

-- the decoded vector: the next explicit component where the bit of the mask is set, else the base's
abbrev pub decoded : List ℕ → ℕ → List ℕ → List ℕ
decoded [] mask explicit = []
decoded (low ∷ base) mask explicit =
    if mask % 2 == 0 then low ∷ decoded base (mask / 2) explicit else slice_index explicit 0 ∷ decoded base (mask / 2) (drop 1 explicit)

-- ---- the reading

-- the explicit component where the bit is set, else the base's
unfoldable pub part_at : ℕ → ℕ → List ℕ → Result (ℕ × List ℕ) RecordCause
part_at low bit bytes =
    if bit == 0 then Ok (low, bytes) else (number_at w64 bytes >>= λ part.
    if nat_le part.0 low then Err BadMask else (if nat_le MAX_LSN part.0 then Err BadMask else Ok part))

unfoldable pub parts_at : List ℕ → ℕ → List ℕ → Result (List ℕ × List ℕ) RecordCause
parts_at [] mask bytes = Ok ([], bytes)
parts_at (low ∷ base) mask bytes = do
  part ← part_at low (mask % 2) bytes
  parts ← parts_at base (mask / 2) part.1
  Ok (part.0 ∷ parts.0, parts.1)

-- no bit of the mask is at the number of streams or above
unfoldable pub vector_at : Format → List ℕ → List ℕ → Result (List ℕ × List ℕ) RecordCause
vector_at f base bytes = do
  mask ← number_at (mask_width f) bytes
  if nat_le (2 ^ length base) mask.0 then Err BadMask else parts_at base mask.0 mask.1
