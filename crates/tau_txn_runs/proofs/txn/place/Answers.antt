use Rattle.tau_txn_runs.proofs.txn.place.Goals as goal

pub returns-in_default-turn-2-clause-run : goal.returns-in_default-turn-2-clause-run
returns-in_default-turn-2-clause-run g c = c.placed.ensures.runs c.args.procs.now (c.prepare.ensures.runs c.args.procs.now c.requires.run)

pub returns-clause-run : goal.returns-clause-run
returns-clause-run g c = c.take_bytes.ensures.runs c.args.procs.now (c.placed.ensures.runs c.args.procs.now (c.prepare.ensures.runs c.args.procs.now c.requires.run))
