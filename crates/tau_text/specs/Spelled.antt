-- How names, numbers, texts and the other words are spelled.
use Rattle.std.specs.Prelude.{ℕ, zero, suc, ◌+◌, ◌-◌, ◌*◌, ◌^◌, Bool, false, not, ◌&&◌, ◌||◌, List, [], ◌∷◌, length, take, drop, ℤ, pos, negsuc, neg_ℤ, Option, Some, None, Result, Ok, Err, nat_lt, nat_le, ◌==◌, if◌then◌else◌, codes, bytes_eq, option_and_then, option_map}
use Rattle.std.specs.Str.{is_utf8}
use Rattle.std.specs.List.{list_all}
use Rattle.tau_base.specs.declared.limits.TheConstants.{MAX_ARGS, MAX_NAME, MAX_TEXT, REGISTERS, TURN_ACTORS}
use Rattle.tau_base.specs.declared.value.Value.{Value}
use Rattle.tau_base.specs.declared.value.Value.TheVariants as values
use Rattle.tau_proc.specs.declared.step.Operand.{Operand}
use Rattle.tau_proc.specs.declared.step.Operand.TheVariants as operands
use Rattle.tau_proc.specs.declared.step.Compare.{Compare}
use Rattle.tau_proc.specs.declared.step.Compare.TheVariants as compares
use Rattle.tau_text.specs.declared.load.Turn.{Turn}
use Rattle.tau_text.specs.declared.load.Turn.TheVariants as turns
use Rattle.tau_text.specs.declared.fault.TextCause.{TextCause}
use Rattle.tau_text.specs.declared.fault.TextCause.TheVariants.{UnknownName, Twice, BadNumber, BadStep, TooMany, Missing}
use Rattle.tau_text.specs.Given.{◌>>=◌, or_else}

abbrev pub is_digit : ℕ → Bool
is_digit b = nat_le 48 b && nat_le b 57

abbrev pub is_letter : ℕ → Bool
is_letter b = nat_le 97 b && nat_le b 122

abbrev pub is_name_byte : ℕ → Bool
is_name_byte b = is_letter b || is_digit b || b == 95

-- other than the quote, the backslash, those below the space and 127
abbrev pub is_text_byte : ℕ → Bool
is_text_byte b = nat_le 32 b && not (b == 34) && not (b == 92) && not (b == 127)

-- the first of the words, and those after it
abbrev pub first : List (List ℕ) → Result (List ℕ × List (List ℕ)) TextCause
first [] = Err Missing
first (w ∷ ws) = Ok (w, ws)

-- no word is left
abbrev pub ended : List (List ℕ) → Result (Unit {0}) TextCause
ended [] = Ok tt
ended (w ∷ ws) = Err TooMany

-- ---- numbers

-- the number that digits spell after n
unfoldable pub digits_after : ℕ → List ℕ → Option ℕ
digits_after n [] = Some n
digits_after n (b ∷ bs) = if is_digit b then digits_after (n * 10 + (b - 48)) bs else None

abbrev pub at_most : ℕ → ℕ → Option ℕ
at_most top n = if nat_le n top then Some n else None

-- digits that do not begin with 0, of a number that is at most top
unfoldable pub magnitude : ℕ → List ℕ → Option ℕ
magnitude top [] = None
magnitude top (b ∷ bs) = if b == 48 then None else option_and_then (at_most top) (digits_after 0 (b ∷ bs))

-- a number: 0, or digits that do not begin with 0, after a minus or not, within 64 bits
unfoldable pub number : List ℕ → Option ℤ
number [] = None
number (b ∷ bs) =
    if b == 45 then option_map (λ n. neg_ℤ (pos n)) (magnitude (2 ^ 63) bs)
    else if b == 48 && length bs == 0 then Some (pos 0)
    else option_map (λ n. pos n) (magnitude (2 ^ 63 - 1) (b ∷ bs))

unfoldable pub whole : List ℕ → Result ℤ TextCause
whole w = or_else BadNumber (number w)

-- how many arguments a procedure has
abbrev pub as_count : ℤ → Result ℕ TextCause
as_count (pos n) = if nat_le n MAX_ARGS then Ok n else Err TooMany
as_count (negsuc n) = Err BadNumber

unfoldable pub count : List ℕ → Result ℕ TextCause
count w = do
  n ← whole w
  as_count n

abbrev pub below : ℕ → ℤ → Option ℕ
below limit (pos n) = if nat_lt n limit then Some n else None
below limit (negsuc n) = None

-- a number from 0 up that is below the limit
unfoldable pub index : ℕ → List ℕ → Option ℕ
index limit w = option_and_then (below limit) (number w)

-- ---- names

abbrev pub is_named : List ℕ → Bool
is_named [] = false
is_named (b ∷ bs) = is_letter b && list_all is_name_byte bs

unfoldable pub name : List ℕ → Result (List ℕ) TextCause
name w = if not (is_named w) then Err BadStep else if nat_lt MAX_NAME (length w) then Err TooMany else Ok w

-- the number of a name in a list, counted from i
unfoldable pub place_from : ℕ → List ℕ → List (List ℕ) → Option ℕ
place_from i w [] = None
place_from i w (n ∷ ns) = if bytes_eq n w then Some i else place_from (i + 1) w ns

-- the number of a declared name
unfoldable pub known : List (List ℕ) → List ℕ → Result ℕ TextCause
known names w = do
  n ← name w
  or_else UnknownName (place_from 0 n names)

-- a name that is not declared yet
abbrev pub fresh : List ℕ → Option ℕ → Result (List ℕ) TextCause
fresh n None = Ok n
fresh n (Some i) = Err Twice

unfoldable pub new_name : List (List ℕ) → List ℕ → Result (List ℕ) TextCause
new_name names w = do
  n ← name w
  fresh n (place_from 0 n names)

-- ---- literals and operands

-- What stands before the closing quote of a text. (That its bytes are UTF-8 holds of each word of a line that is.)
unfoldable pub unquoted : List ℕ → Option (List ℕ)
unquoted bs =
    let before = take (length bs - 1) bs in
    if bytes_eq (drop (length bs - 1) bs) (34 ∷ []) && list_all is_text_byte before && is_utf8 before then Some before else None

abbrev pub short : List ℕ → Result (List ℕ) TextCause
short t = if nat_lt MAX_TEXT (length t) then Err TooMany else Ok t

unfoldable pub quoted : List ℕ → Result (List ℕ) TextCause
quoted bs = do
  t ← or_else BadStep (unquoted bs)
  short t

unfoldable pub literal : List ℕ → Result Value TextCause
literal [] = Err BadStep
literal (b ∷ bs) =
    if is_digit b || b == 45 then (whole (b ∷ bs) >>= λ z. Ok (values.Int z))
    else if b == 34 then (quoted bs >>= λ t. Ok (values.Text t))
    else if bytes_eq (b ∷ bs) (codes "none") then Ok values.Absent
    else Err BadStep

unfoldable pub register : List ℕ → Option ℕ
register [] = None
register (b ∷ bs) = if b == 114 then index REGISTERS bs else None

-- an argument's number, from 1 up to the count
abbrev pub positive : ℕ → Option ℕ
positive zero = None
positive (suc n) = Some (suc n)

unfoldable pub argument : ℕ → List ℕ → Option ℕ
argument count [] = None
argument count (b ∷ bs) = if b == 36 then option_and_then positive (index (count + 1) bs) else None

abbrev pub constant : Value → Operand
constant values.Absent = operands.Absent
constant (values.Int z) = operands.Int z
constant (values.Text t) = operands.Text t

abbrev pub begins_with : ℕ → List ℕ → Bool
begins_with c [] = false
begins_with c (b ∷ bs) = b == c

-- a register begins with r, an argument with $
unfoldable pub operand : ℕ → List ℕ → Result Operand TextCause
operand count w =
    if begins_with 114 w then (or_else BadStep (register w) >>= λ r. Ok (operands.Register r))
    else if begins_with 36 w then (or_else BadStep (argument count w) >>= λ k. Ok (operands.Argument k))
    else (literal w >>= λ v. Ok (constant v))

unfoldable pub compare : List ℕ → Result Compare TextCause
compare w =
    if bytes_eq w (codes "=") then Ok compares.Equal
    else if bytes_eq w (codes "!=") then Ok compares.NotEqual
    else if bytes_eq w (codes "<") then Ok compares.Less
    else if bytes_eq w (codes "<=") then Ok compares.AtMost
    else if bytes_eq w (codes ">") then Ok compares.Greater
    else if bytes_eq w (codes ">=") then Ok compares.AtLeast
    else Err BadStep

-- ---- turns

unfoldable pub turn : List ℕ → Result Turn TextCause
turn [] = Err BadStep
turn (b ∷ bs) =
    if b == 119 then (or_else BadStep (index TURN_ACTORS bs) >>= λ i. Ok (turns.Worker i))
    else if b == 109 then (or_else BadStep (index TURN_ACTORS bs) >>= λ i. Ok (turns.Manager i))
    else if b == 97 then (or_else BadStep (index TURN_ACTORS bs) >>= λ i. Ok (turns.Anchor i))
    else if bytes_eq (b ∷ bs) (codes "c") then Ok turns.Clerk
    else if bytes_eq (b ∷ bs) (codes "d") then Ok turns.Drop
    else Err BadStep
