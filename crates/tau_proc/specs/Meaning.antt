-- What a call means on a database, by cases on the steps of its procedure.
use Rattle.std.specs.Prelude.{ℕ, ℤ, pos, negsuc, nat_abs, ◌+ℤ◌, ◌-ℤ◌, ◌*ℤ◌, int_lt, int_le, Bool, true, false, not, if◌then◌else◌, ◌==◌, ◌&&◌, ◌+◌, ◌-◌, ◌^◌, nat_eq, nat_le, List, [], ◌∷◌, ◌++◌, length, replicate, Option, Some, None, slice_get, slice_index_or, slice_set}
use Rattle.std.specs.Ordering.{int_eq}
use Rattle.std.specs.Map.{lookup}
use Rattle.std.specs.FinMap.{put}
use Rattle.std.specs.Cmp.Lexicographic.{pointwise}
use Rattle.tau_base.specs.declared.limits.TheConstants.{MAX_TEXT, REGISTERS}
use Rattle.tau_base.specs.declared.value.Key.{Key}
use Rattle.tau_base.specs.declared.value.Call.{Call}
use Rattle.tau_base.specs.declared.value.Value.{Value}
use Rattle.tau_base.specs.declared.value.Value.TheVariants.{Absent, Int, Text}
use Rattle.tau_base.specs.Database.{Db, key_cmp, same_key}
use Rattle.tau_proc.specs.declared.proc.Proc.{Proc}
use Rattle.tau_proc.specs.declared.procs.TheConstants.{PUT, ADD, GET, DEL, FIRST_DECLARED}
use Rattle.tau_proc.specs.declared.reply.Reply.{Reply}
use Rattle.tau_proc.specs.declared.reply.Reply.TheVariants as reply
use Rattle.tau_proc.specs.declared.step.Compare.{Compare}
use Rattle.tau_proc.specs.declared.step.Compare.TheVariants as compare
use Rattle.tau_proc.specs.declared.step.Operand.{Operand}
use Rattle.tau_proc.specs.declared.step.Operand.TheVariants as operand
use Rattle.tau_proc.specs.declared.step.Step.{Step}
use Rattle.tau_proc.specs.declared.step.Step.TheVariants as step
use Rattle.tau_proc.specs.Effect.{Effect}

-- a call that runs: its registers, what it wrote so far, what it replies, and how many `when` it is skipping, one in another
pub record Running : Type 0 where
  pub registers : List Value
  pub writes : List (Key × Value)
  pub reply : Value
  pub skips : ℕ

-- as it begins
abbrev pub begun : Running
begun = record { registers = replicate REGISTERS Absent; writes = []; reply = Absent; skips = 0 }

-- arguments are numbered from 1
abbrev pub value_of : List Value → List Value → Operand → Value
value_of args registers (operand.Register i) = slice_index_or registers i Absent
value_of args registers (operand.Argument i) = slice_index_or args (i - 1) Absent
value_of args registers (operand.Int n) = Int n
value_of args registers (operand.Text t) = Text t
value_of args registers operand.Absent = Absent

-- values are equal where they are of one kind with equal content
abbrev pub same_value : Value → Value → Bool
same_value Absent Absent = true
same_value (Int a) (Int b) = int_eq a b
same_value (Text a) (Text b) = pointwise nat_eq a b
same_value _ _ = false

-- numbers alone are ordered
abbrev pub of_numbers : (ℤ → ℤ → Bool) → Value → Value → Option Bool
of_numbers test (Int a) (Int b) = Some (test a b)
of_numbers test _ _ = None

-- whether the comparison holds, and None where it is not allowed
abbrev pub holds : Compare → Value → Value → Option Bool
holds compare.Equal a b = Some (same_value a b)
holds compare.NotEqual a b = Some (not (same_value a b))
holds compare.Less a b = of_numbers int_lt a b
holds compare.AtMost a b = of_numbers int_le a b
holds compare.Greater a b = of_numbers (λ x y. int_lt y x) a b
holds compare.AtLeast a b = of_numbers (λ x y. int_le y x) a b

-- from -2^63 to 2^63 - 1
abbrev pub is_i64 : ℤ → Bool
is_i64 n = int_le (negsuc (2 ^ 63 - 1)) n && int_lt n (pos (2 ^ 63))

-- the number as a value, where it is an i64
abbrev pub in_range : ℤ → Option Value
in_range n = if is_i64 n then Some (Int n) else None

abbrev pub smaller : ℤ → ℤ → ℤ
smaller a b = if int_lt b a then b else a

abbrev pub greater : ℤ → ℤ → ℤ
greater a b = if int_lt a b then b else a

-- what two numbers give, and None of other values
abbrev pub computed : (ℤ → ℤ → Option Value) → Value → Value → Option Value
computed f (Int a) (Int b) = f a b
computed f _ _ = None

-- two texts joined, where they fit
abbrev pub joined : Value → Value → Option Value
joined (Text a) (Text b) = if nat_le (length (a ++ b)) MAX_TEXT then Some (Text (a ++ b)) else None
joined _ _ = None

-- what a step does: the call goes on so, asks the database for a row that it puts into a register, or is refused
pub data Action : Type 0 where
  Go : Running → Action
  Ask : Key → ℕ → Action
  Refuse : Action

abbrev pub set_register : Running → ℕ → Value → Running
set_register r into v = record r { registers = slice_set r.registers into v }

-- the register becomes the value, where there is one
abbrev pub become : Running → ℕ → Option Value → Action
become r into (Some v) = Go (set_register r into v)
become r into None = Refuse

-- the value that the call wrote last, else the database's
abbrev pub read_at : Running → ℕ → Key → Option Value → Action
read_at r into key (Some v) = Go (set_register r into v)
read_at r into key None = Ask key into

abbrev pub got : Running → ℕ → ℕ → Value → Action
got r into table (Int row) = let key : Key = record { table = table; row = row } in read_at r into key (lookup (same_key key) r.writes)
got r into table _ = Refuse

-- the writes are kept in the order of their keys, the last value of each key
abbrev pub stored : Running → ℕ → Value → Value → Action
stored r table (Int row) v = let key : Key = record { table = table; row = row } in Go (record r { writes = put key_cmp key v r.writes })
stored r table _ v = Refuse

abbrev pub needed : Running → Option Bool → Action
needed r (Some true) = Go r
needed r _ = Refuse

abbrev pub chosen : Running → Option Bool → Action
chosen r (Some true) = Go r
chosen r (Some false) = Go (record r { skips = 1 })
chosen r None = Refuse

-- what a step does that is not skipped, where the operands have these values
abbrev pub does_of : (Operand → Value) → Running → Step → Action
does_of of r (step.Get into table row) = got r into table (of row)
does_of of r (step.Put table row value) = stored r table (of row) (of value)
does_of of r (step.Del table row) = stored r table (of row) Absent
does_of of r (step.Add into left right) = become r into (computed (λ a b. in_range (a +ℤ b)) (of left) (of right))
does_of of r (step.Sub into left right) = become r into (computed (λ a b. in_range (a -ℤ b)) (of left) (of right))
does_of of r (step.Mul into left right) = become r into (computed (λ a b. in_range (a *ℤ b)) (of left) (of right))
does_of of r (step.Min into left right) = become r into (computed (λ a b. Some (Int (smaller a b))) (of left) (of right))
does_of of r (step.Max into left right) = become r into (computed (λ a b. Some (Int (greater a b))) (of left) (of right))
does_of of r (step.Cat into left right) = become r into (joined (of left) (of right))
does_of of r (step.Need left how right) = needed r (holds how (of left) (of right))
does_of of r (step.When left how right) = chosen r (holds how (of left) (of right))
does_of of r step.Done = Go r
does_of of r (step.Reply value) = Go (record r { reply = of value })

abbrev pub does : List Value → Running → Step → Action
does args r s = does_of (value_of args r.registers) r s

-- while a `when` is skipped, only `when` and `done` count
abbrev pub skipped : ℕ → Step → ℕ
skipped n (step.When left how right) = n + 1
skipped n step.Done = n - 1
skipped n _ = n

abbrev pub action : List Value → Running → Step → Action
action args r s = if r.skips == 0 then does args r s else Go (record r { skips = skipped r.skips s })

-- a call that is refused at step n writes nothing
abbrev pub refused : ℕ → Effect
refused n = record { reads = []; writes = []; reply = reply.Refused n }

-- the effect with one more read before the others
abbrev pub reading : Key → Value → Effect → Effect
reading key v e = record e { reads = (key, v) ∷ e.reads }

-- what step n and those after it mean, where these mean what rest says
abbrev pub follow : Action → Running → ℕ → Db → (Running → Effect) → Effect
follow (Go next) r n db rest = rest next
follow (Ask key into) r n db rest = reading key (db key) (rest (set_register r into (db key)))
follow Refuse r n db rest = refused n

-- what the steps from number n on mean
unfoldable pub run : List Value → List Step → ℕ → Running → Db → Effect
run args [] n r db = record { reads = []; writes = r.writes; reply = reply.Ok r.reply }
run args (s ∷ ss) n r db = follow (action args r s) r n db (λ next. run args ss (n + 1) next db)

-- the built-ins: put and del write a row, add writes the sum, get reads
pub data Built : Type 0 where
  Puts : Key → Value → Built
  Adds : Key → ℤ → Built
  Gets : Key → Built
  Wrong : Built

abbrev pub at_row : ℤ → ℤ → Key
at_row table row = record { table = nat_abs table; row = row }

abbrev pub puts : List Value → Built
puts (Int table ∷ Int row ∷ v ∷ []) = Puts (at_row table row) v
puts _ = Wrong

abbrev pub adds : List Value → Built
adds (Int table ∷ Int row ∷ Int n ∷ []) = Adds (at_row table row) n
adds _ = Wrong

abbrev pub gets : List Value → Built
gets (Int table ∷ Int row ∷ []) = Gets (at_row table row)
gets _ = Wrong

abbrev pub dels : List Value → Built
dels (Int table ∷ Int row ∷ []) = Puts (at_row table row) Absent
dels _ = Wrong

-- the built-in of a call, and None of a declared procedure
abbrev pub built_in : Call → Option Built
built_in c =
    if c.proc == PUT then Some (puts c.args.items)
    else (if c.proc == ADD then Some (adds c.args.items)
    else (if c.proc == GET then Some (gets c.args.items)
    else (if c.proc == DEL then Some (dels c.args.items) else None)))

-- the sum with what the row has, where absent counts as 0
abbrev pub sum_with : Value → ℤ → Option Value
sum_with Absent n = Some (Int n)
sum_with (Int m) n = in_range (m +ℤ n)
sum_with (Text t) n = None

abbrev pub added_writes : Key → Option Value → List (Key × Value)
added_writes key None = []
added_writes key (Some v) = (key, v) ∷ []

abbrev pub added_reply : Option Value → Reply
added_reply None = reply.Refused 1
added_reply (Some v) = reply.Ok v

abbrev pub built_effect : Built → Db → Effect
built_effect (Puts key v) db = record { reads = []; writes = (key, v) ∷ []; reply = reply.Ok Absent }
built_effect (Adds key n) db = record { reads = (key, db key) ∷ []; writes = added_writes key (sum_with (db key) n); reply = added_reply (sum_with (db key) n) }
built_effect (Gets key) db = record { reads = (key, db key) ∷ []; writes = []; reply = reply.Ok (db key) }
built_effect Wrong db = refused 0

abbrev pub run_of : Option Proc → Call → Db → Effect
run_of None c db = refused 0
run_of (Some p) c db = run c.args.items p.steps 1 begun db

abbrev pub effect_by : Option Built → Option Proc → Call → Db → Effect
effect_by (Some b) p c db = built_effect b db
effect_by None p c db = run_of p c db

-- the declared procedure of a call
abbrev pub proc_of : List Proc → Call → Option Proc
proc_of procs c = slice_get procs (c.proc - FIRST_DECLARED)

-- the meaning of a call: the keys read with the values seen, the writes, and the reply. Of what is no call it says nothing of use: no effect, refused at step 0
abbrev pub meaning : List Proc → Call → Db → Effect
meaning procs c db = effect_by (built_in c) (proc_of procs c) c db
