-- What a mode asks for, and how many streams a format has room for.
use Rattle.std.specs.Prelude.{ℕ, Bool, true, false}
use Rattle.tau_base.specs.declared.format.Format.{Format}
use Rattle.tau_base.specs.declared.format.Format.TheVariants.{One, Two}
use Rattle.tau_base.specs.declared.value.LogMode.{LogMode}
use Rattle.tau_base.specs.declared.value.LogMode.TheVariants.{Values, Commands, WideValues, WideCommands}

-- the format that the mode asks for
abbrev pub format_of : LogMode → Format
format_of Values = One
format_of Commands = One
format_of WideValues = Two
format_of WideCommands = Two

-- whether its records hold calls in place of written values
abbrev pub is_command : LogMode → Bool
is_command Values = false
is_command Commands = true
is_command WideValues = false
is_command WideCommands = true

-- the most streams of a format, which are the bits of a mask
abbrev pub most_streams : Format → ℕ
most_streams One = 16
most_streams Two = 32

-- whether two formats are the same
abbrev pub same_format : Format → Format → Bool
same_format One One = true
same_format One Two = false
same_format Two One = false
same_format Two Two = true

-- the number of a format in reports
abbrev pub format_number : Format → ℕ
format_number One = 1
format_number Two = 2
