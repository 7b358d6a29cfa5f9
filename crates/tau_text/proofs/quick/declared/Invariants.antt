-- No name before is the word with which the text begins.
use Rattle.tau_text.specs.Forms.{names_of}
use Rattle.tau_text.proofs.OnePass.{NotBefore}
use Rattle.tau_text.proofs.quick.declared.Given as goal

abbrev pub invariant-loop-i : goal.invariant-loop-i
invariant-loop-i l = NotBefore l.i (names_of l.procs) l.text
