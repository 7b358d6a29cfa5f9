-- The canonical text of a workload: its lines as words, one space between the words of a line, byte 10 after each.
use Rattle.std.specs.Prelude.{ℕ, ◌-◌, List, [], ◌∷◌, ◌++◌, map, pos, Option, Some, None, ◌==◌, if◌then◌else◌, slice_index_or, codes, flat_map, decimal}
use Rattle.std.specs.Fmt.{signed_decimal}
use Rattle.tau_base.specs.declared.value.Call.{Call}
use Rattle.tau_base.specs.declared.value.Value.{Value}
use Rattle.tau_base.specs.declared.value.Value.TheVariants as values
use Rattle.tau_proc.specs.declared.proc.Proc.{Proc}
use Rattle.tau_proc.specs.declared.procs.TheConstants.{PUT, ADD, GET, DEL, FIRST_DECLARED}
use Rattle.tau_proc.specs.declared.step.Operand.{Operand}
use Rattle.tau_proc.specs.declared.step.Operand.TheVariants as operands
use Rattle.tau_proc.specs.declared.step.Compare.{Compare}
use Rattle.tau_proc.specs.declared.step.Compare.TheVariants as compares
use Rattle.tau_proc.specs.declared.step.Step.{Step}
use Rattle.tau_proc.specs.declared.step.Step.TheVariants as steps
use Rattle.tau_text.specs.declared.load.Declarations.{Declarations}
use Rattle.tau_text.specs.declared.load.Workload.{Workload}
use Rattle.tau_text.specs.declared.load.Turn.{Turn}
use Rattle.tau_text.specs.declared.load.Turn.TheVariants as turns
use Rattle.tau_text.specs.Forms.{names_of}

-- ---- a line of words

abbrev pub behind : List (List ℕ) → List ℕ
behind [] = 10 ∷ []
behind (w ∷ ws) = 32 ∷ w ++ behind ws

-- the words with a space between them, and byte 10
abbrev pub line_text : List (List ℕ) → List ℕ
line_text [] = 10 ∷ []
line_text (w ∷ ws) = w ++ behind ws

-- ---- words

abbrev pub text_word : List ℕ → List ℕ
text_word t = 34 ∷ t ++ 34 ∷ []

abbrev pub value_word : Value → List ℕ
value_word values.Absent = codes "none"
value_word (values.Int z) = signed_decimal z
value_word (values.Text t) = text_word t

abbrev pub register_word : ℕ → List ℕ
register_word r = 114 ∷ decimal r

abbrev pub operand_word : Operand → List ℕ
operand_word (operands.Register r) = register_word r
operand_word (operands.Argument k) = 36 ∷ decimal k
operand_word (operands.Int z) = signed_decimal z
operand_word (operands.Text t) = text_word t
operand_word operands.Absent = codes "none"

abbrev pub compare_word : Compare → List ℕ
compare_word compares.Equal = codes "="
compare_word compares.NotEqual = codes "!="
compare_word compares.Less = codes "<"
compare_word compares.AtMost = codes "<="
compare_word compares.Greater = codes ">"
compare_word compares.AtLeast = codes ">="

abbrev pub turn_word : Turn → List ℕ
turn_word (turns.Worker i) = 119 ∷ decimal i
turn_word (turns.Manager i) = 109 ∷ decimal i
turn_word (turns.Anchor i) = 97 ∷ decimal i
turn_word turns.Clerk = codes "c"
turn_word turns.Drop = codes "d"

-- the name at a place, with no bytes where none is there
abbrev pub name_at : List (List ℕ) → ℕ → List ℕ
name_at names i = slice_index_or names i []

-- ---- lines

abbrev pub table_words : List ℕ → List (List ℕ)
table_words name = codes "table" ∷ name ∷ []

abbrev pub three : List ℕ → ℕ → Operand → Operand → List (List ℕ)
three word r a b = word ∷ register_word r ∷ operand_word a ∷ operand_word b ∷ []

abbrev pub step_words : List (List ℕ) → Step → List (List ℕ)
step_words ts (steps.Get r t o) = codes "get" ∷ register_word r ∷ name_at ts t ∷ operand_word o ∷ []
step_words ts (steps.Put t o v) = codes "put" ∷ name_at ts t ∷ operand_word o ∷ operand_word v ∷ []
step_words ts (steps.Del t o) = codes "del" ∷ name_at ts t ∷ operand_word o ∷ []
step_words ts (steps.Add r a b) = three (codes "add") r a b
step_words ts (steps.Sub r a b) = three (codes "sub") r a b
step_words ts (steps.Mul r a b) = three (codes "mul") r a b
step_words ts (steps.Min r a b) = three (codes "min") r a b
step_words ts (steps.Max r a b) = three (codes "max") r a b
step_words ts (steps.Cat r a b) = three (codes "cat") r a b
step_words ts (steps.Need a c b) = codes "need" ∷ operand_word a ∷ compare_word c ∷ operand_word b ∷ []
step_words ts (steps.When a c b) = codes "when" ∷ operand_word a ∷ compare_word c ∷ operand_word b ∷ []
step_words ts steps.Done = codes "done" ∷ []
step_words ts (steps.Reply o) = codes "reply" ∷ operand_word o ∷ []

abbrev pub proc_words : Proc → List (List ℕ)
proc_words p = codes "proc" ∷ p.name ∷ decimal p.args ∷ []

-- a table stands in a call as its number
abbrev pub table_word : List (List ℕ) → Value → List ℕ
table_word ts (values.Int (pos t)) = name_at ts t
table_word ts _ = []

abbrev pub built_in_words : List (List ℕ) → List ℕ → List Value → List (List ℕ)
built_in_words ts word [] = word ∷ []
built_in_words ts word (t ∷ vs) = word ∷ table_word ts t ∷ map value_word vs

abbrev pub call_words : Declarations → Call → List (List ℕ)
call_words d c =
    if c.proc == PUT then built_in_words d.tables (codes "put") c.args.items
    else if c.proc == ADD then built_in_words d.tables (codes "add") c.args.items
    else if c.proc == GET then built_in_words d.tables (codes "get") c.args.items
    else if c.proc == DEL then built_in_words d.tables (codes "del") c.args.items
    else codes "call" ∷ name_at (names_of d.procs) (c.proc - FIRST_DECLARED) ∷ map value_word c.args.items

-- ---- texts

abbrev pub table_text : List ℕ → List ℕ
table_text name = line_text (table_words name)

abbrev pub step_text : List (List ℕ) → Step → List ℕ
step_text ts x = line_text (step_words ts x)

abbrev pub proc_text : List (List ℕ) → Proc → List ℕ
proc_text ts p = line_text (proc_words p) ++ flat_map (step_text ts) p.steps ++ line_text (codes "end" ∷ [])

-- all tables, then all procedures
unfoldable pub declarations_text : Declarations → List ℕ
declarations_text d = flat_map table_text d.tables ++ flat_map (proc_text d.tables) d.procs

abbrev pub call_text : Declarations → Call → List ℕ
call_text d c = line_text (call_words d c)

abbrev pub turns_text : Option (List Turn) → List ℕ
turns_text None = []
turns_text (Some ts) = line_text (codes "turns" ∷ map turn_word ts)

-- The declarations, then the calls, then the turns where there is a section of them. A name that is not there has no
-- bytes.
unfoldable pub workload_text : Workload → List ℕ
workload_text load = declarations_text load.declarations ++ flat_map (call_text load.declarations) load.calls ++ turns_text load.turns
