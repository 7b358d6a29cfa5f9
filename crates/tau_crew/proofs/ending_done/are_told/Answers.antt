use Rattle.std.proofs.Common.{ℕ, List, subst, arith}
use Rattle.tau_crew.specs.EndLeft.{AreTold}
use Rattle.tau_crew.proofs.ending_done.are_told.Goals as goal

pub positions_of-requires-clause-low : goal.positions_of-requires-clause-low
positions_of-requires-clause-low g c =
    let (bases, ws, m) = c.requires.managers in
    let count = m.count in
    let streams = c.args.desk.now.streams_are in
    omega (arith, count, streams.0, streams.1)

pub positions_of-requires-clause-high : goal.positions_of-requires-clause-high
positions_of-requires-clause-high g c =
    let (bases, ws, m) = c.requires.managers in
    let count = m.count in
    let streams = c.args.desk.now.streams_are in
    omega (arith, count, streams.0, streams.2)

pub returns-in-Some : goal.returns-in-Some
returns-in-Some g c = λ yes. subst (λ (v : List ℕ). AreTold c.args.desk.now.load.workers v c.args.head.now c.args.clerk.now.told.acks c.args.desk.now.load.workers) c.in-Some.ensures (c.all_told.ensures yes)
