use Rattle.std.proofs.Common.{◌++◌, ◌∷◌, [], List, Option, refl, sym, subst}
use Rattle.std.specs.Prelude.{Some}
use Rattle.tau_rule.specs.declared.part.Part.{Part}
use Rattle.tau_desk.specs.Laid.{EachOf, HasShard}
use Rattle.tau_desk.proofs.Slots.{each_more}
use Rattle.tau_desk.proofs.opens.lay_shards.Goals as goal

pub loop-shard-preserved : goal.loop-shard-preserved
loop-shard-preserved c = subst (λ (ys : List (Option Part)). EachOf HasShard (c.loop-shard.yielded ++ c.in-Some.shard ∷ []) ys) (sym c.in_ok-push.ensures.items)
    (each_more HasShard c.loop-shard.yielded c.loop-shard.slots.items c.in-Some.shard (Some c.in_ok-part.part) c.loop-shard.invariant (c.in_ok-part.part, refl, c.in_ok-part.ensures))
