-- The lines so far, which are no more than the bytes.
use Rattle.std.proofs.Common.{◌≡◌, ◌==◌, take}
use Rattle.std.specs.Prelude.{count_by}
use Rattle.tau_inspect.proofs.sections.lines_in.Given as goal

abbrev pub invariant-loop-i : goal.invariant-loop-i
invariant-loop-i l = l.lines ≡ count_by (λ b. b == 10) (take l.i l.text)
