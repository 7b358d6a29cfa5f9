-- Values, keys and writes.
use Rattle.std.specs.Prelude.{ℕ, zero, suc, ◌<◌, ◌≤◌, ◌^◌, Bool, true, List, [], ◌∷◌, ◌++◌, length, take, drop, Option, Some, None, Result, Ok, Err, nat_lt, if◌then◌else◌, FitsSigned}
use Rattle.std.specs.Int.{w16, w64, to_be_bytes, cast_unsigned, cast_signed}
use Rattle.std.specs.Ordering.{is_lt}
use Rattle.std.specs.Str.{IsUtf8, is_utf8}
use Rattle.tau_base.specs.Database.{key_cmp}
use Rattle.tau_base.specs.declared.limits.TheConstants.{MAX_TEXT}
use Rattle.tau_base.specs.declared.value.Key.{Key}
use Rattle.tau_base.specs.declared.value.Value.{Value}
use Rattle.tau_base.specs.declared.value.Value.TheVariants.{Absent, Int, Text}
use Rattle.tau_record.specs.declared.fault.RecordCause.{RecordCause}
use Rattle.tau_record.specs.declared.fault.RecordCause.TheVariants.{BadLength, BadBody}
use Rattle.tau_record.specs.Field.{◌>>=◌, number_at}

-- ---- the spelling

abbrev pub value : Value → List ℕ
value Absent = 0 ∷ []
value (Int z) = 1 ∷ to_be_bytes w64 (cast_unsigned w64 z)
value (Text t) = 2 ∷ (to_be_bytes w16 (length t) ++ t)

abbrev pub FitsValue : Value → Type 0
FitsValue Absent = Unit {0}
FitsValue (Int z) = FitsSigned w64 z
FitsValue (Text t) = (length t ≤ MAX_TEXT) × IsUtf8 t

abbrev pub key : Key → List ℕ
key k = to_be_bytes w16 k.table ++ to_be_bytes w64 (cast_unsigned w64 k.row)

abbrev pub FitsKey : Key → Type 0
FitsKey k = (k.table < 2 ^ 16) × FitsSigned w64 k.row

abbrev pub write : Key × Value → List ℕ
write w = key w.0 ++ value w.1

abbrev pub FitsWrite : Key × Value → Type 0
FitsWrite w = FitsKey w.0 × FitsValue w.1

-- ---- the reading

unfoldable pub text_at : List ℕ → Result (Value × List ℕ) RecordCause
text_at bytes = number_at w16 bytes >>= λ n.
    if nat_lt MAX_TEXT n.0 then Err BadBody else (
    if nat_lt (length n.1) n.0 then Err BadLength else (
    if is_utf8 (take n.0 n.1) then Ok (Text (take n.0 n.1), drop n.0 n.1) else Err BadBody))

unfoldable pub value_at : List ℕ → Result (Value × List ℕ) RecordCause
value_at [] = Err BadLength
value_at (zero ∷ rest) = Ok (Absent, rest)
value_at (suc zero ∷ rest) = do
  n ← number_at w64 rest
  Ok (Int (cast_signed w64 n.0), n.1)
value_at (suc (suc zero) ∷ rest) = text_at rest
value_at (suc (suc (suc tag)) ∷ rest) = Err BadBody

unfoldable pub key_at : List ℕ → Result (Key × List ℕ) RecordCause
key_at bytes = do
  table ← number_at w16 bytes
  row ← number_at w64 table.1
  Ok (record { table = table.0; row = cast_signed w64 row.0 }, row.1)

-- whether a key stands after the last one, in the order of keys
abbrev pub follows : Option Key → Key → Bool
follows None k = true
follows (Some last) k = is_lt (key_cmp last k)

-- the key's order is tested once its row is read
unfoldable pub write_at : Option Key → List ℕ → Result ((Key × Value) × List ℕ) RecordCause
write_at last bytes = key_at bytes >>= λ k.
    if follows last k.0 then (value_at k.1 >>= λ v. Ok ((k.0, v.0), v.1)) else Err BadBody

unfoldable pub writes_at : ℕ → Option Key → List ℕ → Result (List (Key × Value) × List ℕ) RecordCause
writes_at zero last bytes = Ok ([], bytes)
writes_at (suc n) last bytes = do
  first ← write_at last bytes
  others ← writes_at n (Some first.0.0) first.1
  Ok (first.0 ∷ others.0, others.1)

unfoldable pub args_at : ℕ → List ℕ → Result (List Value × List ℕ) RecordCause
args_at zero bytes = Ok ([], bytes)
args_at (suc n) bytes = do
  first ← value_at bytes
  others ← args_at n first.1
  Ok (first.0 ∷ others.0, others.1)

unfoldable pub byte_at : List ℕ → Result (ℕ × List ℕ) RecordCause
byte_at [] = Err BadLength
byte_at (b ∷ rest) = Ok (b, rest)
