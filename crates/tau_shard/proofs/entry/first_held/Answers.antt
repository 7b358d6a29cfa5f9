use Rattle.std.proofs.Common.{ap, ◌∙◌}
use Rattle.std.specs.Prelude.{Some}
use Rattle.tau_shard.specs.Shard.{Entry, held_as}
use Rattle.tau_shard.proofs.Masks.{nobody_new}
use Rattle.tau_shard.proofs.entry.first_held.Goals as goal

pub returns : goal.returns
returns c = c.hold.ensures ∙ ap (λ (e : Entry). held_as e c.args.worker (Some c.args.mode)) (nobody_new c.args.floor.now 0)
