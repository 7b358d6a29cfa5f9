-- The test of who stands against a lock, and the theory's word for it.
use Rattle.std.proofs.Common.{ℕ, false, ◌≡◌}
use Rattle.std.proofs.lemmas.Bool.{ne_eqb, both_ways}
use Rattle.tau_base.specs.declared.value.Key.{Key}
use Rattle.tau_base.specs.declared.value.Mode.{Mode}
use Rattle.tau_shard.specs.Shard.{Shard, entry_in}
use Rattle.tau_shard.specs.Blocks.{blocks}
use Rattle.tau_shard.proofs.Bridge.{against_from}
use Rattle.tau_machine.specs.State.{Setting}
use Rattle.tau_machine.specs.Events.{Conflicts}

-- where the test finds nobody, there is no conflict
pub no_conflict : (set : Setting) (sh : Shard) (w : ℕ) (x : Key) (m : Mode) → ((u : ℕ) → blocks (entry_in sh x) w m u ≡ false) → Conflicts set sh w x m → ⊥
no_conflict set sh w x m free h =
    both_ways (blocks (entry_in sh x) w m h.0) (free h.0) (rw (ne_eqb h.0 w h.2, h.3) (against_from m h.1 h.4))
