use Rattle.std.proofs.Common.{◌≡◌, ◌≤◌, ◌+◌, length}
use Rattle.tau_text.specs.Lines.{lines}
use Rattle.tau_text.specs.Alone.{differs}
use Rattle.tau_text.proofs.declared.first_difference.Given as goal

abbrev pub invariant-loop-left : goal.invariant-loop-left
invariant-loop-left l = record {
  count : l.n + length l.left ≤ length l.text + 1;
  so_far : differs l.n (lines l.left) (lines l.right) ≡ differs 1 (lines l.text) (lines l.other);
}

abbrev pub decreases-loop-left : goal.decreases-loop-left
decreases-loop-left l = length l.left
