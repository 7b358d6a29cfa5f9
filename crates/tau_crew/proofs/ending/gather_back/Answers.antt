use Rattle.std.proofs.Common.{List, subst}
use Rattle.tau_crew.specs.EndJoins.{SeesDurable}
use Rattle.tau_crew.proofs.EndBack.{are_seats, back_all, keeps_all}
use Rattle.tau_crew.proofs.ending.gather_back.Goals as goal

pub join_managers-requires-clause-seats : goal.join_managers-requires-clause-seats
join_managers-requires-clause-seats g c = let (bases, ws, m) = c.requires.managers in are_seats _ _ bases ws c.args.jobs.items m

pub returns-clause-back : goal.returns-clause-back
returns-clause-back g c = λ bases ws m.
    back_all _ _ c.args.head.now c.join_managers.new.head c.join_clerk.new.head c.settle.new.head c.args.jobs.items c.args.clerk c.requires.head c.requires.clerk c.join_managers.ensures.keeps c.join_managers.ensures.has c.agrees.ensures c.join_clerk.ensures.joined c.settle.ensures.same
    (subst (λ (ws' : List _). SeesDurable c.settle.new.head ws') c.join_managers.ensures.writers c.settle.ensures.sees) bases ws m

pub returns-clause-keeps : goal.returns-clause-keeps
returns-clause-keeps g c =
    keeps_all _ _ c.args.head.now c.join_managers.new.head c.join_clerk.new.head c.settle.new.head c.args.jobs.items c.args.clerk c.requires.head c.requires.clerk c.join_managers.ensures.keeps c.join_managers.ensures.has c.agrees.ensures c.join_clerk.ensures.joined c.settle.ensures.same
    (subst (λ (ws' : List _). SeesDurable c.settle.new.head ws') c.join_managers.ensures.writers c.settle.ensures.sees)
