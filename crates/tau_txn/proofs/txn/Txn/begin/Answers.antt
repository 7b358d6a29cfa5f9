use Rattle.std.proofs.Common.{ap, ◌∙◌}
use Rattle.std.specs.Prelude.{Some}
use Rattle.tau_machine.specs.Hands as theory
use Rattle.tau_machine.specs.Worker.{fresh}
use Rattle.tau_txn.specs.declared.standing.Standing.{Standing}
use Rattle.tau_txn.specs.Txn.{PlainTxn, shown}
use Rattle.tau_txn.proofs.txn.Txn.begin.Goals as goal

pub returns-clause-begun : goal.returns-clause-begun
returns-clause-begun c =
    ap (λ (s : Standing). shown c.args.procs.now c.self.inside.worker s c.begin.new.self) c.begin.ensures.standing
    ∙ ap (λ (h : theory.Hand). Some h) (c.begin.ensures.begun c.self.inside.worker)
    ∙ ap (λ (t : PlainTxn). Some (fresh t.width (record { number = c.args.number; call = c.args.call.now }) 0)) c.self.view_is
