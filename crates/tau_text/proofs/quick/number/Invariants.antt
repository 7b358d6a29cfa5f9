-- The digits so far spell the number so far.
use Rattle.std.proofs.Common.{◌≡◌, ◌<◌, ◌^◌, take}
use Rattle.std.specs.Prelude.{Some}
use Rattle.tau_text.specs.Spelled.{digits_after}
use Rattle.tau_text.proofs.quick.number.Given as goal

abbrev pub invariant-loop-i : goal.invariant-loop-i
invariant-loop-i l = record { few : l.value < 10 ^ l.i; read : digits_after 0 (take l.i l.text) ≡ Some l.value }
