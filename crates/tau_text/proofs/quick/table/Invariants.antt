-- No name before is the word with which the text begins.
use Rattle.tau_text.proofs.OnePass.{NotBefore}
use Rattle.tau_text.proofs.quick.table.Given as goal

abbrev pub invariant-loop-i : goal.invariant-loop-i
invariant-loop-i l = NotBefore l.i l.tables l.text
