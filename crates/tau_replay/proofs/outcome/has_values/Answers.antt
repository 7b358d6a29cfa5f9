-- One more value is that of the database.
use Rattle.std.proofs.Common.{rules, ◌≡◌}
use Rattle.tau_model.specs.Store.{database}
use Rattle.tau_replay.proofs.Tries.{agrees_more}
use Rattle.tau_replay.proofs.outcome.has_values.Goals as goal

pub loop-key-preserved : goal.loop-key-preserved
loop-key-preserved c =
    let same : database c.args.store.now c.loop-key-item.result.0 ≡ c.loop-key-item.result.1 = search rules in
    agrees_more c.args.reads.now c.loop-key.key-index c.loop-key-item.result (database c.args.store.now) (search rules) c.loop-key-item.is c.loop-key.invariant same
