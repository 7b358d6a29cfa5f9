-- What the lines of a text say, each form by its words.
use Rattle.std.specs.Prelude.{ℕ, zero, suc, ◌+◌, List, [], ◌∷◌, ◌++◌, length, map, pos, Result, Ok, Err, nat_lt, nat_le, if◌then◌else◌, codes, bytes_eq}
use Rattle.tau_base.specs.declared.limits.TheConstants.{MAX_CATALOGUE, MAX_PROCS, MAX_STEPS, MAX_TABLES, MAX_TURNS}
use Rattle.tau_base.specs.declared.value.Call.{Call}
use Rattle.tau_base.specs.declared.value.Value.{Value}
use Rattle.tau_base.specs.declared.value.Value.TheVariants as values
use Rattle.tau_proc.specs.declared.proc.Proc.{Proc}
use Rattle.tau_proc.specs.declared.procs.TheConstants.{FIRST_DECLARED}
use Rattle.tau_proc.specs.declared.step.Operand.{Operand}
use Rattle.tau_proc.specs.declared.step.Compare.{Compare}
use Rattle.tau_proc.specs.declared.step.Step.{Step}
use Rattle.tau_proc.specs.declared.step.Step.TheVariants as steps
use Rattle.tau_text.specs.declared.load.Turn.{Turn}
use Rattle.tau_text.specs.declared.fault.TextCause.{TextCause}
use Rattle.tau_text.specs.declared.fault.TextCause.TheVariants.{UnknownWord, BadStep, TooMany, NoEnd}
use Rattle.tau_text.specs.declared.heads.Head.{Head}
use Rattle.tau_text.specs.declared.heads.Head.TheVariants as heads
use Rattle.tau_text.specs.declared.heads.StepHead.{StepHead}
use Rattle.tau_text.specs.declared.heads.StepHead.TheVariants as inner
use Rattle.tau_text.specs.Given.{◌>>=◌, or_else}
use Rattle.tau_text.specs.Spelled.{first, ended, whole, count, known, new_name, literal, register, operand, compare, turn}

-- n is within the limit
abbrev pub within : ℕ → ℕ → Result (Unit {0}) TextCause
within limit n = if nat_le n limit then Ok tt else Err TooMany

-- one more than n is within the limit
abbrev pub room : ℕ → ℕ → Result (Unit {0}) TextCause
room limit n = if nat_lt n limit then Ok tt else Err TooMany

-- the bytes that a line takes in the canonical text: each word, with a space or byte 10 after it
abbrev pub line_size : List (List ℕ) → ℕ
line_size [] = 0
line_size (w ∷ ws) = length w + 1 + line_size ws

-- the size with one more line of the declarations
abbrev pub grown : ℕ → List (List ℕ) → Result ℕ TextCause
grown size ws = within MAX_CATALOGUE (size + line_size ws) >>= λ _. Ok (size + line_size ws)

-- ---- declarations

unfoldable pub table_line : List (List ℕ) → List (List ℕ) → Result (List ℕ) TextCause
table_line tables ws = do
  w ← first ws
  n ← new_name tables w.0
  end ← ended w.1
  fits ← room MAX_TABLES (length tables)
  Ok n

abbrev pub names_of : List Proc → List (List ℕ)
names_of procs = map (λ p. p.name) procs

unfoldable pub proc_line : List Proc → List (List ℕ) → Result (List ℕ × ℕ) TextCause
proc_line procs ws = do
  w ← first ws
  n ← new_name (names_of procs) w.0
  k ← first w.1
  args ← count k.0
  end ← ended k.1
  fits ← room MAX_PROCS (length procs)
  Ok (n, args)

-- ---- steps: R a register, T a table, O an operand, C a comparison

-- R T O
unfoldable pub get_words : List (List ℕ) → ℕ → List (List ℕ) → Result (ℕ × ℕ × Operand) TextCause
get_words tables args ws = do
  r ← first ws
  into ← or_else BadStep (register r.0)
  t ← first r.1
  table ← known tables t.0
  o ← first t.1
  row ← operand args o.0
  end ← ended o.1
  Ok (into, table, row)

-- T O O
unfoldable pub put_words : List (List ℕ) → ℕ → List (List ℕ) → Result (ℕ × Operand × Operand) TextCause
put_words tables args ws = do
  t ← first ws
  table ← known tables t.0
  o ← first t.1
  row ← operand args o.0
  v ← first o.1
  value ← operand args v.0
  end ← ended v.1
  Ok (table, row, value)

-- T O
unfoldable pub del_words : List (List ℕ) → ℕ → List (List ℕ) → Result (ℕ × Operand) TextCause
del_words tables args ws = do
  t ← first ws
  table ← known tables t.0
  o ← first t.1
  row ← operand args o.0
  end ← ended o.1
  Ok (table, row)

-- R O O
unfoldable pub sum_words : ℕ → List (List ℕ) → Result (ℕ × Operand × Operand) TextCause
sum_words args ws = do
  r ← first ws
  into ← or_else BadStep (register r.0)
  a ← first r.1
  left ← operand args a.0
  b ← first a.1
  right ← operand args b.0
  end ← ended b.1
  Ok (into, left, right)

-- O C O
unfoldable pub test_words : ℕ → List (List ℕ) → Result (Operand × Compare × Operand) TextCause
test_words args ws = do
  a ← first ws
  left ← operand args a.0
  c ← first a.1
  how ← compare c.0
  b ← first c.1
  right ← operand args b.0
  end ← ended b.1
  Ok (left, how, right)

-- O
unfoldable pub reply_words : ℕ → List (List ℕ) → Result Operand TextCause
reply_words args ws = do
  w ← first ws
  o ← operand args w.0
  end ← ended w.1
  Ok o

-- a step, by its first word, in a procedure with so many arguments
unfoldable pub step_line : List (List ℕ) → ℕ → StepHead → List (List ℕ) → Result Step TextCause
step_line tables args inner.Get ws = get_words tables args ws >>= λ x. Ok (steps.Get x.0 x.1 x.2)
step_line tables args inner.Put ws = put_words tables args ws >>= λ x. Ok (steps.Put x.0 x.1 x.2)
step_line tables args inner.Del ws = del_words tables args ws >>= λ x. Ok (steps.Del x.0 x.1)
step_line tables args inner.Add ws = sum_words args ws >>= λ x. Ok (steps.Add x.0 x.1 x.2)
step_line tables args inner.Sub ws = sum_words args ws >>= λ x. Ok (steps.Sub x.0 x.1 x.2)
step_line tables args inner.Mul ws = sum_words args ws >>= λ x. Ok (steps.Mul x.0 x.1 x.2)
step_line tables args inner.Min ws = sum_words args ws >>= λ x. Ok (steps.Min x.0 x.1 x.2)
step_line tables args inner.Max ws = sum_words args ws >>= λ x. Ok (steps.Max x.0 x.1 x.2)
step_line tables args inner.Cat ws = sum_words args ws >>= λ x. Ok (steps.Cat x.0 x.1 x.2)
step_line tables args inner.Need ws = test_words args ws >>= λ x. Ok (steps.Need x.0 x.1 x.2)
step_line tables args inner.When ws = test_words args ws >>= λ x. Ok (steps.When x.0 x.1 x.2)
step_line tables args inner.Done ws = ended ws >>= λ _. Ok steps.Done
step_line tables args inner.Reply ws = reply_words args ws >>= λ x. Ok (steps.Reply x)
step_line tables args inner.End ws = Err UnknownWord

abbrev pub with_step : Proc → Step → Proc
with_step p x = record p { steps = p.steps ++ x ∷ [] }

-- a procedure with one more step, of at most 64
unfoldable pub step_added : List (List ℕ) → Proc → StepHead → List (List ℕ) → Result Proc TextCause
step_added tables p h ws = do
  x ← step_line tables p.args h ws
  fits ← room MAX_STEPS (length p.steps)
  Ok (with_step p x)

-- How many `when` are open after the line. A `done` and an `end` are tested at their first word.
unfoldable pub depth_at : ℕ → StepHead → Result ℕ TextCause
depth_at depth inner.When = Ok (depth + 1)
depth_at zero inner.Done = Err BadStep
depth_at (suc depth) inner.Done = Ok depth
depth_at zero inner.End = Ok 0
depth_at (suc depth) inner.End = Err NoEnd
depth_at depth _ = Ok depth

-- the first word of a line inside a procedure
unfoldable pub step_head : List ℕ → Result StepHead TextCause
step_head w =
    if bytes_eq w (codes "get") then Ok inner.Get
    else if bytes_eq w (codes "put") then Ok inner.Put
    else if bytes_eq w (codes "del") then Ok inner.Del
    else if bytes_eq w (codes "add") then Ok inner.Add
    else if bytes_eq w (codes "sub") then Ok inner.Sub
    else if bytes_eq w (codes "mul") then Ok inner.Mul
    else if bytes_eq w (codes "min") then Ok inner.Min
    else if bytes_eq w (codes "max") then Ok inner.Max
    else if bytes_eq w (codes "cat") then Ok inner.Cat
    else if bytes_eq w (codes "need") then Ok inner.Need
    else if bytes_eq w (codes "when") then Ok inner.When
    else if bytes_eq w (codes "done") then Ok inner.Done
    else if bytes_eq w (codes "reply") then Ok inner.Reply
    else if bytes_eq w (codes "end") then Ok inner.End
    else Err UnknownWord

-- ---- calls

abbrev pub number_value : ℕ → Value
number_value n = values.Int (pos n)

abbrev pub call_of : ℕ → List Value → Call
call_of proc args = record { proc = proc; args = record { items = args } }

-- TABLE KEY
unfoldable pub key_words : List (List ℕ) → List (List ℕ) → Result (List Value × List (List ℕ)) TextCause
key_words tables ws = do
  t ← first ws
  table ← known tables t.0
  k ← first t.1
  row ← whole k.0
  Ok (number_value table ∷ values.Int row ∷ [], k.1)

-- TABLE KEY LITERAL
unfoldable pub put_call : List (List ℕ) → List (List ℕ) → Result (List Value) TextCause
put_call tables ws = do
  k ← key_words tables ws
  w ← first k.1
  v ← literal w.0
  end ← ended w.1
  Ok (k.0 ++ v ∷ [])

-- TABLE KEY NUMBER
unfoldable pub add_call : List (List ℕ) → List (List ℕ) → Result (List Value) TextCause
add_call tables ws = do
  k ← key_words tables ws
  w ← first k.1
  n ← whole w.0
  end ← ended w.1
  Ok (k.0 ++ values.Int n ∷ [])

-- TABLE KEY, at get and del
unfoldable pub key_call : List (List ℕ) → List (List ℕ) → Result (List Value) TextCause
key_call tables ws = do
  k ← key_words tables ws
  end ← ended k.1
  Ok k.0

-- n literals
unfoldable pub literals : ℕ → List (List ℕ) → Result (List Value × List (List ℕ)) TextCause
literals zero ws = Ok ([], ws)
literals (suc n) ws = do
  w ← first ws
  v ← literal w.0
  more ← literals n w.1
  Ok (v ∷ more.0, more.1)

-- the arguments that the procedure at a place takes
abbrev pub args_at : ℕ → List Proc → ℕ
args_at i [] = 0
args_at zero (p ∷ ps) = p.args
args_at (suc i) (p ∷ ps) = args_at i ps

-- NAME LITERAL ..
unfoldable pub proc_call : List Proc → List (List ℕ) → Result Call TextCause
proc_call procs ws = do
  w ← first ws
  i ← known (names_of procs) w.0
  args ← literals (args_at i procs) w.1
  end ← ended args.1
  Ok (call_of (FIRST_DECLARED + i) args.0)

-- ---- turns

-- the turn words of a line after those before, at most a million
unfoldable pub turns_line : List Turn → List (List ℕ) → Result (List Turn) TextCause
turns_line before [] = Ok before
turns_line before (w ∷ ws) = do
  t ← turn w
  fits ← room MAX_TURNS (length before)
  turns_line (before ++ t ∷ []) ws

-- ---- the first word of a line outside the procedures

unfoldable pub head : List ℕ → Result Head TextCause
head w =
    if bytes_eq w (codes "table") then Ok heads.Table
    else if bytes_eq w (codes "proc") then Ok heads.Proc
    else if bytes_eq w (codes "put") then Ok heads.Put
    else if bytes_eq w (codes "add") then Ok heads.Add
    else if bytes_eq w (codes "get") then Ok heads.Get
    else if bytes_eq w (codes "del") then Ok heads.Del
    else if bytes_eq w (codes "call") then Ok heads.Call
    else if bytes_eq w (codes "turns") then Ok heads.Turns
    else Err UnknownWord
