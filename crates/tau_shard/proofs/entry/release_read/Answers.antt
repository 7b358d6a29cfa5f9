use Rattle.std.proofs.Common.{ap, ◌∙◌}
use Rattle.tau_base.specs.Vectors.{join}
use Rattle.tau_shard.specs.Shard.{Entry}
use Rattle.tau_shard.proofs.entry.release_read.Goals as goal

pub returns : goal.returns
returns c =
    let raised = c.raise.ensures ∙ ap (λ (e : Entry). join e.read_lv c.args.lv.now) c.release.ensures in
    λ i. record { holders = (c.release.ensures i).holders; write_lv = (c.release.ensures i).write_lv; read_lv = raised i }
