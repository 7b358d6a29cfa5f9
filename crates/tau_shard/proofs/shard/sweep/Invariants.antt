use Rattle.std.proofs.Common.{◌≡◌, drop, false, not, filter}
use Rattle.tau_shard.specs.Blocks.{covered, swept}
use Rattle.tau_shard.proofs.shard.sweep.Given as goal

abbrev pub invariant-loop-i : goal.invariant-loop-i
invariant-loop-i l =
    (swept l.plv l.initial.floor l.entries.entries ≡ swept l.plv l.floor (drop l.i l.entries.entries))
    × (l.found ≡ false → filter (λ e. not (covered l.plv e.1)) (drop l.i l.entries.entries) ≡ drop l.i l.entries.entries → filter (λ e. not (covered l.plv e.1)) l.entries.entries ≡ l.entries.entries)
