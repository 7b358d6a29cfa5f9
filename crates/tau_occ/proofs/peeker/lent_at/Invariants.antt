use Rattle.std.proofs.Common.{◌≡◌, drop}
use Rattle.std.specs.Map.{lookup}
use Rattle.tau_base.specs.Database.{same_key}
use Rattle.tau_occ.proofs.peeker.lent_at.Given as goal

abbrev pub invariant-loop-entry : goal.invariant-loop-entry
invariant-loop-entry l = lookup (same_key l.key) l.entries ≡ lookup (same_key l.key) (drop l.entry-index l.entries)
