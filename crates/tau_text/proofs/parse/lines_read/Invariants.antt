use Rattle.std.proofs.Common.{◌≡◌, ◌≤◌, ◌+◌, ◌-◌, true, length, IsUtf8}
use Rattle.tau_base.specs.declared.limits.TheConstants.{MAX_WORKLOAD}
use Rattle.tau_text.specs.Lines.{lines}
use Rattle.tau_text.specs.Text.{lines_read, nothing}
use Rattle.tau_text.specs.Kept.{IsWithin}
use Rattle.tau_text.specs.Quick.{HasNames}
use Rattle.tau_text.proofs.parse.lines_read.Given as goal

abbrev pub invariant-loop-rest : goal.invariant-loop-rest
invariant-loop-rest l = record {
  within : IsWithin l.s;
  names : HasNames l.s;
  rest : length l.rest ≤ length l.text;
  past : length l.text - length l.rest ≤ MAX_WORKLOAD;
  utf8 : l.known ≡ true → IsUtf8 l.rest;
  count : l.n + length l.rest ≤ length l.text + 1;
  so_far : lines_read l.s l.n (length l.text - length l.rest) (lines l.rest) ≡ lines_read nothing 1 0 (lines l.text);
}

abbrev pub decreases-loop-rest : goal.decreases-loop-rest
decreases-loop-rest l = length l.rest
