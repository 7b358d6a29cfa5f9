-- One more row is copied.
use Rattle.std.proofs.Common.{rules, ◌≡◌, ◌++◌, ◌∷◌, []}
use Rattle.tau_replay.proofs.Tries.{copied_more}
use Rattle.tau_replay.proofs.task.copy_rows.Goals as goal

pub loop-key-preserved : goal.loop-key-preserved
loop-key-preserved c =
    let same : c.copied.result ≡ c.loop-key-item.result.1 = search rules in
    let pushed : c.push.new.self.items ≡ c.loop-key.copies.items ++ (c.loop-key-item.result.0, c.copied.result) ∷ [] = search rules in
    copied_more c.args.rows.now c.loop-key.copies.items c.push.new.self.items c.loop-key.key-index c.loop-key-item.result c.copied.result (search rules) c.loop-key-item.is c.loop-key.invariant same pushed
