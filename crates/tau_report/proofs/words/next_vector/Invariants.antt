use Rattle.std.proofs.Common.{◌≡◌, ◌++◌, ◌∷◌, take}
use Rattle.tau_report.specs.Lines.{vector_text}
use Rattle.tau_report.proofs.words.next_vector.Given as goal

abbrev pub invariant-loop-j : goal.invariant-loop-j
invariant-loop-j l = l.out.items ≡ l.fn.out.items ++ 32 ∷ vector_text (take l.j l.lv)
