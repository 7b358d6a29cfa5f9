-- Which workload a text means, and else its first bad line with the cause.
use Rattle.std.specs.Prelude.{ℕ, ◌+◌, Bool, true, ◌&&◌, List, [], ◌∷◌, ◌++◌, length, Option, Some, None, Result, Ok, Err, is_none, ◌==◌, if◌then◌else◌, unwrap_or}
use Rattle.std.specs.Str.{is_utf8}
use Rattle.tau_base.specs.declared.limits.TheConstants.{MAX_CALLS, MAX_WORKLOAD}
use Rattle.tau_base.specs.declared.value.Call.{Call}
use Rattle.tau_proc.specs.declared.procs.TheConstants.{PUT, ADD, GET, DEL}
use Rattle.tau_text.specs.declared.load.Workload.{Workload}
use Rattle.tau_text.specs.declared.fault.TextCause.{TextCause}
use Rattle.tau_text.specs.declared.fault.TextCause.TheVariants.{NotUtf8, UnknownWord, NoEnd}
use Rattle.tau_text.specs.declared.fault.TextFault.{TextFault}
use Rattle.tau_text.specs.declared.heads.Head.{Head}
use Rattle.tau_text.specs.declared.heads.Head.TheVariants as heads
use Rattle.tau_text.specs.declared.heads.StepHead.{StepHead}
use Rattle.tau_text.specs.declared.heads.StepHead.TheVariants as inner
use Rattle.tau_text.specs.declared.reading.Reading.{Reading}
use Rattle.tau_text.specs.declared.reading.Begun.{Begun}
use Rattle.tau_text.specs.Lines.{lines, body, words}
use Rattle.tau_text.specs.Given.{◌>>=◌}
use Rattle.tau_text.specs.Spelled.{begins_with, ended}
use Rattle.tau_text.specs.Forms.{within, room, grown, table_line, proc_line, step_added, depth_at, step_head, call_of, put_call, add_call, key_call, proc_call, turns_line, head}

-- before the first line
abbrev pub nothing : Reading
nothing = record { tables = []; procs = []; size = 0; begun = None; calls = []; turns = None }

-- ---- one line

-- one more call
abbrev pub with_call : Reading → Result Call TextCause → Result Reading TextCause
with_call s read = do
  c ← read
  fits ← room MAX_CALLS (length s.calls)
  Ok (record s { calls = s.calls ++ c ∷ [] })

-- Declarations stand before the calls, and calls before the turns.
unfoldable pub is_before : Head → Reading → Bool
is_before heads.Table s = length s.calls == 0 && is_none s.turns
is_before heads.Proc s = length s.calls == 0 && is_none s.turns
is_before heads.Turns s = true
is_before _ s = is_none s.turns

-- a line outside the procedures, by its first word; n is its number, and ws are all its words
unfoldable pub outer_read : Reading → ℕ → Head → List (List ℕ) → List (List ℕ) → Result Reading TextCause
outer_read s n heads.Table ws rest = do
  t ← table_line s.tables rest
  size ← grown s.size ws
  Ok (record s { tables = s.tables ++ t ∷ []; size = size })
outer_read s n heads.Proc ws rest = do
  p ← proc_line s.procs rest
  size ← grown s.size ws
  Ok (record s { size = size; begun = Some (record { line = n; proc = record { name = p.0; args = p.1; steps = [] }; depth = 0 }) })
outer_read s n heads.Put ws rest = with_call s (put_call s.tables rest >>= λ a. Ok (call_of PUT a))
outer_read s n heads.Add ws rest = with_call s (add_call s.tables rest >>= λ a. Ok (call_of ADD a))
outer_read s n heads.Get ws rest = with_call s (key_call s.tables rest >>= λ a. Ok (call_of GET a))
outer_read s n heads.Del ws rest = with_call s (key_call s.tables rest >>= λ a. Ok (call_of DEL a))
outer_read s n heads.Call ws rest = with_call s (proc_call s.procs rest)
outer_read s n heads.Turns ws rest = do
  ts ← turns_line (unwrap_or s.turns []) rest
  Ok (record s { turns = Some ts })

-- a line inside a procedure, by its first word
unfoldable pub inner_read : Reading → Begun → StepHead → List (List ℕ) → List (List ℕ) → Result Reading TextCause
inner_read s b inner.End ws rest = do
  depth ← depth_at b.depth inner.End
  end ← ended rest
  size ← grown s.size ws
  Ok (record s { size = size; procs = s.procs ++ b.proc ∷ []; begun = None })
inner_read s b h ws rest = do
  depth ← depth_at b.depth h
  p ← step_added s.tables b.proc h rest
  size ← grown s.size ws
  Ok (record s { size = size; begun = Some (record { line = b.line; proc = p; depth = depth }) })

-- a first word that may stand here
abbrev pub placed : Reading → Head → Result Head TextCause
placed s h = if is_before h s then Ok h else Err UnknownWord

-- a line whose first word is w, outside the procedures or in one
unfoldable pub statement_read : Reading → ℕ → Option Begun → List ℕ → List (List ℕ) → Result Reading TextCause
statement_read s n None w ws = do
  h ← head w
  here ← placed s h
  outer_read s n here (w ∷ ws) ws
statement_read s n (Some b) w ws = do
  h ← step_head w
  inner_read (record s { begun = None }) b h (w ∷ ws) ws

-- A line without words and one whose first word begins with # say nothing.
unfoldable pub words_read : Reading → ℕ → List (List ℕ) → Result Reading TextCause
words_read s n [] = Ok s
words_read s n (w ∷ ws) = if begins_with 35 w then Ok s else statement_read s n s.begun w ws

-- line n, after what s has read
unfoldable pub line_read : Reading → ℕ → List ℕ → Result Reading TextCause
line_read s n line = if is_utf8 line then words_read s n (words line) else Err NotUtf8

-- ---- the text

abbrev pub at_line : {A : Type 0} → ℕ → Result A TextCause → Result A TextFault
at_line n (Ok x) = Ok x
at_line n (Err cause) = Err (record { line = n; cause = cause })

-- The lines one after the other, from number n, with so many bytes of the text before them. The first that fails is
-- the bad one; so is the one with which the text passes its limit.
unfoldable pub lines_read : Reading → ℕ → ℕ → List (List ℕ) → Result Reading TextFault
lines_read s n past [] = Ok s
lines_read s n past (l ∷ ls) = do
  t ← at_line n (line_read s n (body l))
  fits ← at_line n (within MAX_WORKLOAD (past + length l))
  lines_read t (n + 1) (past + length l) ls

-- a text that ends outside the procedures
abbrev pub closed : Reading → Option Begun → Result Workload TextFault
closed s None = Ok (record { declarations = record { tables = s.tables; procs = s.procs }; calls = s.calls; turns = s.turns })
closed s (Some b) = Err (record { line = b.line; cause = NoEnd })

-- the workload that a text means, or the first bad line of the text with its cause
unfoldable pub workload_of : List ℕ → Result Workload TextFault
workload_of text = do
  s ← lines_read nothing 1 0 (lines text)
  closed s s.begun
