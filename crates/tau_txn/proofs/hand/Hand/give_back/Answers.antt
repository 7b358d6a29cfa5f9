use Rattle.std.proofs.Common.{sym, subst}
use Rattle.tau_txn.specs.Kept.{Shaped}
use Rattle.tau_txn.proofs.Keeping.{first_ascends}
use Rattle.tau_txn.proofs.hand.Hand.give_back.Goals as goal

pub returns-clause-keeps : goal.returns-clause-keeps
returns-clause-keeps c = λ width shaped.
    c.settle.ensures.keeps width (subst (Shaped width) (sym c.quit.ensures.quit) (record { wide = shaped.wide; ascend = first_ascends c.args.self.now.held shaped.ascend }))
