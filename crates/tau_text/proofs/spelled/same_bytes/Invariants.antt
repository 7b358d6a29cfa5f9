-- The first bytes are the same.
use Rattle.std.proofs.Common.{◌≡◌, take}
use Rattle.tau_text.proofs.spelled.same_bytes.Given as goal

abbrev pub invariant-loop-i : goal.invariant-loop-i
invariant-loop-i l = take l.i l.name ≡ take l.i l.word
