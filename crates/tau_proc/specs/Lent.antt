-- What is lent to a step, and what it computes, as values.
use Rattle.std.specs.Prelude.{ℤ, Option, Some, None}
use Rattle.tau_base.specs.declared.value.Value.{Value}
use Rattle.tau_base.specs.declared.value.Value.TheVariants.{Absent, Int, Text}
use Rattle.tau_proc.specs.declared.lent.Lent.{Lent}
use Rattle.tau_proc.specs.declared.lent.Lent.TheVariants as lent

abbrev pub value_of_lent : Lent → Value
value_of_lent lent.Absent = Absent
value_of_lent (lent.Int n) = Int n
value_of_lent (lent.Text t) = Text t.now

-- a number as a value, where there is one
abbrev pub number_value : Option ℤ → Option Value
number_value (Some n) = Some (Int n)
number_value None = None
