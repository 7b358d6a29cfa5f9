use Rattle.std.proofs.Common.{sym, ◌∙◌}
use Rattle.tau_crew.proofs.LeftOver.{looked_back, looked_beside, looked_ran, looked_stopped, went_after}
use Rattle.tau_crew.proofs.left_over.run_next.Goals as goal

pub returns-then-stopped : goal.returns-then-stopped
returns-then-stopped g c =
    let k = c.stopped.ensures.knows in
    looked_stopped _ _ c.args.head.now c.stopped.new.self c.requires.head c.agrees.ensures k.0 k.2 c.requires.ran (sym k.1 ∙ c.if-stopped.true)

pub run_lowest-requires-clause-head : goal.run_lowest-requires-clause-head
run_lowest-requires-clause-head g c = (let k = c.stopped.ensures.knows in looked_back _ _ c.args.head.now c.stopped.new.self c.requires.head c.agrees.ensures k.0 k.2)

pub run_lowest-requires-clause-ran : goal.run_lowest-requires-clause-ran
run_lowest-requires-clause-ran g c = (let k = c.stopped.ensures.knows in looked_ran _ c.args.desk.now.table.shared.table_id c.args.head.now c.stopped.new.self c.requires.head c.agrees.ensures k.0 k.2 c.requires.ran)

pub returns : goal.returns
returns g c =
    let k = c.stopped.ensures.knows in
    went_after _ _ c.args.head.now c.stopped.new.self c.run_lowest.new.head c.run_lowest.result (looked_beside c.args.desk.now.table.shared.key.value c.args.desk.now.table.shared.table_id c.args.head.now c.stopped.new.self c.requires.head c.agrees.ensures k.0 k.2) c.run_lowest.ensures
