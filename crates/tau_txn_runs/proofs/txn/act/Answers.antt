use Rattle.tau_txn_runs.proofs.txn.act.Goals as goal

pub returns-in-Ok-clause-run : goal.returns-in-Ok-clause-run
returns-in-Ok-clause-run g c = c.granted.ensures.runs c.args.procs.now c.requires.run
