-- The numbers of parts by their names.
use Rattle.std.specs.Prelude.{ℕ, ◌+◌}
use Rattle.tau_base.specs.declared.limits.TheConstants.{SHARDS}
use Rattle.tau_desk.specs.declared.name.PartName.{PartName}
use Rattle.tau_desk.specs.declared.name.PartName.TheVariants.{Shard, Outbox, Anchor}

-- where there are so many workers
abbrev pub part_number : ℕ → PartName → ℕ
part_number workers (Shard i) = i
part_number workers (Outbox w) = SHARDS + w
part_number workers (Anchor j) = SHARDS + workers + j
