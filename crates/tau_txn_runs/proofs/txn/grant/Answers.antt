use Rattle.std.proofs.Common.{ap, ◌∙◌}
use Rattle.tau_txn.specs.Txn.{PlainTxn}
use Rattle.tau_txn_runs.proofs.txn.grant.Goals as goal

pub loop-preserved : goal.loop-preserved
loop-preserved g c = record { run = c.granted.ensures.runs c.args.procs.now c.loop.invariant.run; width = ap (λ (t : PlainTxn). t.width) c.granted.ensures.same ∙ c.loop.invariant.width }
