use Rattle.tau_txn_runs.proofs.txn.grant_lent.Goals as goal

pub returns : goal.returns
returns c = c.granted_by.ensures.runs c.args.procs.now c.requires
