-- Fields of a record, read from left to right, with the first fault that is met.
use Rattle.std.specs.Prelude.{◌≡◌, ℕ, List, [], ◌∷◌, ◌++◌, length, take, drop, Result, Ok, Err, nat_lt, if◌then◌else◌}
use Rattle.std.specs.Int.{Width, byte_len, from_be_bytes}
use Rattle.tau_record.specs.declared.fault.RecordCause.{RecordCause}
use Rattle.tau_record.specs.declared.fault.RecordCause.TheVariants.{BadLength}
use Rattle.tau_record.specs.declared.fault.FieldError.{FieldError}
use Rattle.tau_record.specs.declared.fault.FieldError.TheVariants as errors

infixl 10 ◌>>=◌
abbrev pub ◌>>=◌ : {A B : Type 0} → Result A RecordCause → (A → Result B RecordCause) → Result B RecordCause
(Ok x) >>= f = f x
(Err e) >>= f = Err e

-- What a function returned, seen by view, is what reading gives, unless memory ran out.
abbrev pub Fails : {Y : Type 0} → FieldError → Result Y RecordCause → Type 0
Fails errors.Memory read = Unit {0}
Fails (errors.Bad f) read = read ≡ Err f

abbrev pub Gives : {X Y : Type 0} → (X → Y) → Result X FieldError → Result Y RecordCause → Type 0
Gives view (Ok x) read = read ≡ Ok (view x)
Gives view (Err e) read = Fails e read

-- What a function returned that put a value, which it read, after those before it, seen by view as the bytes after the value.
abbrev pub Adds : {X V : Type 0} → (X → List ℕ) → Result X FieldError → Result (V × List ℕ) RecordCause → List V → List V → Type 0
Adds {X} {V} view (Ok x) read before now = (v : V) × (read ≡ Ok (v, view x)) × (now ≡ before ++ v ∷ [])
Adds view (Err e) read before now = Fails e read

-- A field is a value and the bytes after it.
abbrev pub number_at : Width → List ℕ → Result (ℕ × List ℕ) RecordCause
number_at w bytes = if nat_lt (length bytes) (byte_len w) then Err BadLength else Ok (from_be_bytes w (take (byte_len w) bytes), drop (byte_len w) bytes)
