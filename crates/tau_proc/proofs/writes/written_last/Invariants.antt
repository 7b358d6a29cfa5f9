use Rattle.std.proofs.Common.{◌≡◌, drop}
use Rattle.std.specs.Map.{lookup}
use Rattle.tau_base.specs.Database.{same_key}
use Rattle.tau_proc.proofs.writes.written_last.Given as goal

abbrev pub invariant-loop-written : goal.invariant-loop-written
invariant-loop-written l = lookup (same_key l.key) l.writes ≡ lookup (same_key l.key) (drop l.written-index l.writes)
