use Rattle.std.proofs.Common.{◌≡◌, ◌<◌, ◌^◌, drop}
use Rattle.tau_text.specs.Spelled.{digits_after}
use Rattle.tau_text.proofs.spelled.few_digits.Given as goal

abbrev pub invariant-loop-b : goal.invariant-loop-b
invariant-loop-b l = record { small : l.value < 10 ^ l.b-index; so_far : digits_after l.value (drop l.b-index l.word) ≡ digits_after 0 l.word }
