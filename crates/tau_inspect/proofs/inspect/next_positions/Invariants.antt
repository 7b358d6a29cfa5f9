-- The first positions are told.
use Rattle.std.proofs.Common.{◌≡◌, ◌++◌, ◌∷◌, take}
use Rattle.tau_report.specs.Lines.{vector_text}
use Rattle.tau_inspect.proofs.inspect.next_positions.Given as goal

abbrev pub invariant-loop-j : goal.invariant-loop-j
invariant-loop-j l = l.out.items ≡ l.fn.out.items ++ 32 ∷ vector_text (take l.j l.positions)
