-- What was read, and what is left.
use Rattle.std.proofs.Common.{length}
use Rattle.tau_inspect.specs.Sections.{AreRows}
use Rattle.tau_inspect.proofs.sections.read_rows.Given as goal

abbrev pub invariant-lines : goal.invariant-lines
invariant-lines l = AreRows l.tables l.text l.rows.items l.rest

abbrev pub decreases-lines : goal.decreases-lines
decreases-lines l = length l.rest
