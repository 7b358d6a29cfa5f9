-- The first bytes are the same.
use Rattle.std.proofs.Common.{◌≡◌, take}
use Rattle.tau_inspect.proofs.words.is_text.Given as goal

abbrev pub invariant-loop-i : goal.invariant-loop-i
invariant-loop-i l = take l.i l.text ≡ take l.i l.other
