-- The numbers of the causes.
use Rattle.std.specs.Prelude.{ℕ}
use Rattle.tau_text.specs.declared.fault.TextCause.{TextCause}
use Rattle.tau_text.specs.declared.fault.TextCause.TheVariants.{NotUtf8, UnknownWord, UnknownName, Twice, BadNumber, BadStep, TooMany, Missing, NoEnd}

abbrev pub cause_number : TextCause → ℕ
cause_number NotUtf8 = 1
cause_number UnknownWord = 2
cause_number UnknownName = 3
cause_number Twice = 4
cause_number BadNumber = 5
cause_number BadStep = 6
cause_number TooMany = 7
cause_number Missing = 8
cause_number NoEnd = 9
