-- What was read, and what is left.
use Rattle.std.proofs.Common.{◌≡◌, length}
use Rattle.tau_inspect.specs.Sections.{AreFates}
use Rattle.tau_inspect.proofs.sections.read_fates.Given as goal

abbrev pub invariant-loop-before : goal.invariant-loop-before
invariant-loop-before l = (length l.fates ≡ l.before) × AreFates l.text l.fates l.rest
