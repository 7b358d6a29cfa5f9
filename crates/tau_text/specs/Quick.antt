-- What is read in one pass of a line of a call.
use Rattle.std.specs.Prelude.{◌≡◌, ◌++◌, ◌∷◌, ◌<◌, ◌+◌, ◌^◌, false, ℕ, pos, List, Ok, Err, Result, length, All, IfSome, IsUtf8}
use Rattle.tau_base.specs.declared.value.Call.{Call}
use Rattle.tau_base.specs.declared.value.Value.TheVariants.{Int}
use Rattle.tau_proc.specs.declared.proc.Proc.{Proc}
use Rattle.tau_text.specs.declared.fault.TextCause.{TextCause}
use Rattle.tau_text.specs.declared.fault.LineRefusal.{LineRefusal}
use Rattle.tau_text.specs.declared.fault.LineRefusal.TheVariants as of_lines
use Rattle.tau_text.specs.declared.heads.Head.{Head}
use Rattle.tau_text.specs.declared.reading.Reading.{Reading}
use Rattle.tau_text.specs.Called.{called}
use Rattle.tau_text.specs.Canonical.{behind}
use Rattle.tau_text.specs.Forms.{head}
use Rattle.tau_text.specs.Lines.{body, lines}
use Rattle.tau_text.specs.Plain.{IsPlain, ArePlain}
use Rattle.tau_text.specs.Spelled.{begins_with, known, literal, name, whole}
use Rattle.tau_text.specs.Text.{line_read}

-- each is spelled as a name
abbrev pub AreNames : List (List ℕ) → Type 0
AreNames names = All (λ n. name n ≡ Ok n) names

-- each has such a name
abbrev pub AreNamed : List Proc → Type 0
AreNamed procs = All (λ p. name p.name ≡ Ok p.name) procs

-- the declared names are spelled as names, and so is that of the procedure that has begun
pub record HasNames (s : Reading) : Type 0 where
  pub tables : AreNames s.tables
  pub procs : AreNamed s.procs
  pub begun : IfSome s.begun (λ b. name b.proc.name ≡ Ok b.proc.name)

-- a text begins with a word that spells this number, with this byte after it, and then comes the rest
pub record IsNumbered (text : List ℕ) (end value : ℕ) (rest : List ℕ) : Type 0 where
  pub word : List ℕ
  pub is : text ≡ word ++ end ∷ rest
  pub plain : IsPlain word
  pub whole : whole word ≡ Ok (pos value)
  pub literal : literal word ≡ Ok (Int (pos value))
  pub few : value < 10 ^ 18

-- a text begins with a declared name, with a space after it, and then comes the rest
pub record IsDeclared (names : List (List ℕ)) (text : List ℕ) (place : ℕ) (rest : List ℕ) : Type 0 where
  pub word : List ℕ
  pub is : text ≡ word ++ 32 ∷ rest
  pub plain : IsPlain word
  pub known : known names word ≡ Ok place
  pub within : place < length names

-- A text, to which a space is put in front, begins with words of which x is read, each after a space, and byte 10, and
-- then comes the rest.
pub record IsRead {X : Type 0} (read : List (List ℕ) → Result X TextCause) (text : List ℕ) (x : X) (rest : List ℕ) : Type 0 where
  pub words : List (List ℕ)
  pub is : 32 ∷ text ≡ behind words ++ rest
  pub plain : ArePlain words
  pub given : read words ≡ Ok x

-- a text begins with a line of this call, and then comes the rest
pub record IsCallLine (tables : List (List ℕ)) (procs : List Proc) (text : List ℕ) (call : Call) (rest : List ℕ) : Type 0 where
  pub word : List ℕ
  pub kind : Head
  pub after : List ℕ
  pub is : text ≡ word ++ 32 ∷ after
  pub plain : IsPlain word
  pub no_comment : begins_with 35 word ≡ false
  pub begins : head word ≡ Ok kind
  pub called : IsRead (called tables procs kind) after call rest

-- the first line of a text is read, and then comes the rest
pub record IsLineRead (s : Reading) (n : ℕ) (text : List ℕ) (u : Reading) (rest : List ℕ) : Type 0 where
  pub line : List ℕ
  pub cut : lines text ≡ line ∷ lines rest
  pub read : line_read s n (body line) ≡ Ok u
  pub some : 0 < length line
  pub long : length line + length rest ≡ length text
  pub utf8 : IsUtf8 text → IsUtf8 rest

-- the first line of a text is a bad one
pub record IsBadLine (cause : TextCause) (s : Reading) (n : ℕ) (text : List ℕ) : Type 0 where
  pub line : List ℕ
  pub more : List (List ℕ)
  pub cut : lines text ≡ line ∷ more
  pub fails : line_read s n (body line) ≡ Err cause

-- the same, unless memory ran out
abbrev pub IsLineBad : LineRefusal → Reading → ℕ → List ℕ → Type 0
IsLineBad of_lines.Memory s n text = Unit {0}
IsLineBad (of_lines.Cause cause) s n text = IsBadLine cause s n text
