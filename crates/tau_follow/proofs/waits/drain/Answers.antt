-- One more is looked at.
use Rattle.std.proofs.Common.{subst, sym, refl, List}
use Rattle.tau_follow.specs.declared.spot.Spot.{Spot}
use Rattle.tau_follow.specs.Queue.{Wait}
use Rattle.tau_follow.specs.Waits.{Moves}
use Rattle.tau_follow.proofs.Queued.{moves_none, moves_one}
use Rattle.tau_follow.proofs.waits.drain.Goals as goal

pub moves-init : goal.moves-init
moves-init c = moves_none _ _

pub moves-preserved : goal.moves-preserved
moves-preserved c = subst (λ (l : List Spot). Moves c.args.looked.now.items c.args.queue.now l c.pop_to.new.self) (sym c.in-Ok.ensures.items)
    (moves_one c.args.looked.now.items c.moves.looked.items c.args.queue.now c.moves.queue c.pop_to.new.self c.in-Some.spot c.moves.invariant c.in-Some.ensures.some)

pub returns-in-None-clause-moves : goal.returns-in-None-clause-moves
returns-in-None-clause-moves c = subst (λ (q : List Wait). Moves c.args.looked.now.items c.args.queue.now c.moves.looked.items q) (sym (c.in-None.ensures.none refl)) c.moves.invariant
