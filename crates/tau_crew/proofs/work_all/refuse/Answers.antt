use Rattle.std.proofs.Common.{◌+◌, arith}
use Rattle.tau_crew.proofs.WorkBack.{refused_back, rests_there}
use Rattle.tau_crew.proofs.work_all.refuse.Goals as goal

pub stop-requires-clause-role : goal.stop-requires-clause-role
stop-requires-clause-role c =
    let some = c.requires.some in
    let o = c.requires.ready c.args.first (omega arith) (omega (arith, some)) in
    let r = rests_there c.args.head c.agrees.ensures c.args.first o.0 o.1 o.2 in
    (c.args.first, r.0, r.1)

pub returns : goal.returns
returns c = refused_back c.args.desk.now.table.shared.key.value.load c.args.first (c.args.first + c.args.workers) c.args.head c.stop.new.self c.agrees.ensures c.requires.ready c.stop.ensures.knows
