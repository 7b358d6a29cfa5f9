use Rattle.tau_txn_runs.proofs.txn.give_up.Goals as goal

pub returns : goal.returns
returns g c = record { run = c.give_up.ensures.runs c.args.procs.now c.requires }
