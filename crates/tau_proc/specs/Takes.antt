-- Which calls there are.
use Rattle.std.specs.Prelude.{◌-◌, ◌^◌, ◌==◌, ℤ, pos, int_lt, int_le, Bool, false, ◌&&◌, if◌then◌else◌, Option, Some, None, List, [], ◌∷◌, length, slice_get}
use Rattle.tau_base.specs.declared.value.Call.{Call}
use Rattle.tau_base.specs.declared.value.Value.{Value}
use Rattle.tau_base.specs.declared.value.Value.TheVariants.{Int}
use Rattle.tau_proc.specs.declared.proc.Proc.{Proc}
use Rattle.tau_proc.specs.declared.procs.TheConstants.{PUT, ADD, GET, DEL, FIRST_DECLARED}

-- a table's number, 0 to 65,535
abbrev pub is_table : ℤ → Bool
is_table t = int_le (pos 0) t && int_lt t (pos (2 ^ 16))

-- a table, a row and a value
abbrev pub takes_put : List Value → Bool
takes_put (Int table ∷ Int row ∷ value ∷ []) = is_table table
takes_put _ = false

-- a table, a row and a number
abbrev pub takes_add : List Value → Bool
takes_add (Int table ∷ Int row ∷ Int n ∷ []) = is_table table
takes_add _ = false

-- a table and a row
abbrev pub takes_row : List Value → Bool
takes_row (Int table ∷ Int row ∷ []) = is_table table
takes_row _ = false

-- any values, as many as the procedure has arguments
abbrev pub takes_declared : Option Proc → List Value → Bool
takes_declared None args = false
takes_declared (Some p) args = p.args == length args

-- whether the procedure of the call exists and takes its arguments
abbrev pub takes : List Proc → Call → Bool
takes procs c =
    if c.proc == PUT then takes_put c.args.items
    else (if c.proc == ADD then takes_add c.args.items
    else (if c.proc == GET then takes_row c.args.items
    else (if c.proc == DEL then takes_row c.args.items
    else takes_declared (slice_get procs (c.proc - FIRST_DECLARED)) c.args.items)))
