use Rattle.std.proofs.Common.{sym, ap, ◌∙◌}
use Rattle.tau_shard.specs.Shard.{Entry}
use Rattle.tau_shard.specs.Read.{shard_of}
use Rattle.tau_shard.proofs.Puts.{first_writes}
use Rattle.tau_shard.proofs.shard.Shard.lock_new.Goals as goal

pub put-requires : goal.put-requires
put-requires c = record {
  placed = λ u h. c.in_ok-prepare_row.ensures.there (first_writes (shard_of c.prepare_row.new.self).floor c.args.worker u c.args.mode (ap (λ (e : Entry). e.holders u) (sym c.first_entry.ensures) ∙ h));
}
