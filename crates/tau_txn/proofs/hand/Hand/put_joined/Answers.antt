-- What is kept is what stands in the hand.
use Rattle.std.proofs.Common.{◌≡◌, List, ◌++◌, [], ◌∷◌, ◌∙◌, sym, ap}
use Rattle.tau_proc.specs.declared.reply.Want.TheVariants.{Finished}
use Rattle.tau_proc.specs.Progress.{next_want}
use Rattle.tau_model.specs.declared.committed.Committed.{Committed}
use Rattle.tau_model.specs.Committed.{lv_at}
use Rattle.tau_txn.proofs.Txns.{joined_put}
use Rattle.tau_txn.proofs.hand.Hand.put_joined.Goals as goal

pub returns-clause-items : goal.returns-clause-items
returns-clause-items c =
    let want : next_want c.args.self.now.machine ≡ Finished c.in-Finished.reply = (λ i. next_want (sym c.self.view_is i).machine) ∙ sym c.want.ensures ∙ c.in-Finished.is in
    c.push_reserved.ensures.items
    ∙ (λ i. c.args.out.now.items ++ record { number = (c.self.view_is i).number; reply = c.in-Finished.reply; dep = (c.self.view_is i).dep; lv = lv_at (c.self.view_is i).dep c.spot.result; spot = c.spot.result } ∷ [])
    ∙ ap (λ (cs : List Committed). c.args.out.now.items ++ cs) (joined_put c.args.self.now c.in-Finished.reply c.spot.result want c.spot.ensures c.requires.vector)
