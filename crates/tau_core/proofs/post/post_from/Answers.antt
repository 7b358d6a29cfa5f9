use Rattle.std.proofs.Common.{sym, subst}
use Rattle.tau_txn.specs.Txn.{PlainTxn, RunsBy}
use Rattle.tau_core.proofs.post.post_from.Goals as goal

pub returns-clause-runs : goal.returns-clause-runs
returns-clause-runs c = λ procs runs. subst (λ (t : PlainTxn). RunsBy procs t) (sym c.keep.ensures) (c.take_bytes-bytes.ensures.runs procs runs)
