use Rattle.std.proofs.Common.{◌≡◌, ◌≤◌, length}
use Rattle.tau_base.specs.declared.limits.TheConstants.{MAX_TURNS}
use Rattle.tau_text.specs.Lines.{words}
use Rattle.tau_text.specs.Forms.{turns_line}
use Rattle.tau_text.proofs.forms.turns_line.Given as goal

abbrev pub invariant-loop-word : goal.invariant-loop-word
invariant-loop-word l = record { few : length l.turns ≤ MAX_TURNS; so_far : turns_line l.turns (words l.rest) ≡ turns_line l.fn.before (words l.fn.rest) }

abbrev pub decreases-loop-word : goal.decreases-loop-word
decreases-loop-word l = length l.rest
