use Rattle.std.proofs.Common.{◌≡◌, Option, refl, sym, ap, subst, ◌∙◌}
use Rattle.std.specs.Prelude.{slice_get}
use Rattle.tau_base.specs.Shards.{shard_number}
use Rattle.tau_shard.specs.Plain.{PlainShard}
use Rattle.tau_core.specs.State.{Plain}
use Rattle.tau_core.specs.View.{shard_in}
use Rattle.tau_core.proofs.Found.{found_shard_of}
use Rattle.tau_core.proofs.top.Core.value.Goals as goal

pub returns : goal.returns
returns c = λ K h stands.
    let is = found_shard_of c.self.inside.state c.args.key c.shard_of.result c.shard_of.result c.index-part.result.now c.self.invariant.2.sound refl c.shard_of.ensures.same c.shard_of.ensures.small c.index-part.ensures in
    subst (λ (p : Plain). c.value.result ≡ (shard_in (slice_get p.shards (shard_number c.args.key))).rows c.args.key) c.self.view_is (c.value.ensures ∙ ap (λ (o : Option PlainShard). (shard_in o).rows c.args.key) (sym is))
