-- The first bytes are the same.
use Rattle.std.proofs.Common.{◌≡◌, take}
use Rattle.tau_text.proofs.quick.behind_word.Given as goal

abbrev pub invariant-loop-i : goal.invariant-loop-i
invariant-loop-i l = take l.i l.text ≡ take l.i l.word
