use Rattle.std.proofs.Common.{◌<◌, List, sym, subst, arith}
use Rattle.tau_model.specs.History.{Act}
use Rattle.tau_machine.specs.Hands.{Txn}
use Rattle.tau_core.specs.State.{Plain, plain}
use Rattle.tau_core.specs.View.{Hidden}
use Rattle.tau_core.specs.Stands.{Stands}
use Rattle.tau_core.specs.NextLock.{TellsLock}
use Rattle.tau_core.proofs.NextLock.{next_tells}
use Rattle.tau_core.proofs.top.Core.next_lock.Goals as goal
use Rattle.tau_base.proofs.Lists.{some_at}

pub returns : goal.returns
returns c =
    let there : c.args.worker < c.self.inside.state.load.workers = subst (λ (p : Plain). c.args.worker < p.load.workers) (sym c.self.view_is) c.requires.there in
    subst (λ (p : Plain). (K : List (Act Txn)) (h : Hidden) → Stands p K h → TellsLock p h c.args.worker c.next_lock.result) c.self.view_is (λ K h g.
    let found = some_at c.self.inside.state.seats.items c.args.worker (let e = g.sound.seats in omega arith) in
    next_tells (plain c.self.inside.state) K h g c.args.worker found.0 found.1 c.next_lock.result (c.next_lock.ensures found.0 found.1))
