use Rattle.tau_desk.specs.Laid.{EachOf, HasShard}
use Rattle.tau_desk.proofs.opens.lay_shards.Given as goal

abbrev pub invariant-loop-shard : goal.invariant-loop-shard
invariant-loop-shard l = EachOf HasShard l.yielded l.slots.items
