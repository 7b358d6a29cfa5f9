-- What the parts that come home are put together from.
use Rattle.std.specs.Prelude.{◌≡◌}
use Rattle.tau_shard.specs.Plain.{PlainShard}
use Rattle.tau_core.specs.Plain.{PlainSeat}
use Rattle.tau_rule.specs.declared.part.Part.{Part}
use Rattle.tau_rule.specs.declared.part.Part.TheVariants as part

abbrev pub IsShardOf : Part → PlainShard → Type 0
IsShardOf (part.Shard b) x = b.value ≡ x
IsShardOf (part.Outbox o p) x = ⊥
IsShardOf (part.Anchor number lv) x = ⊥

abbrev pub IsBoxOf : Part → PlainSeat → Type 0
IsBoxOf (part.Shard b) x = ⊥
IsBoxOf (part.Outbox o p) x = (x.outbox ≡ o.value) × (x.pending ≡ p.value)
IsBoxOf (part.Anchor number lv) x = ⊥
