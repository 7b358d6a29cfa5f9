-- What is kept is what stands in the hand.
use Rattle.std.proofs.Common.{◌≡◌, List, ◌++◌, [], ◌∷◌, ◌∙◌, sym, ap, rules, arith}
use Rattle.std.specs.Prelude.{None}
use Rattle.tau_proc.specs.declared.reply.Want.TheVariants.{Finished}
use Rattle.tau_proc.specs.Progress.{buffered, next_want}
use Rattle.tau_model.specs.declared.committed.Committed.{Committed}
use Rattle.tau_txn.proofs.Txns.{reading_put}
use Rattle.tau_txn.proofs.hand.Hand.put_reading.Goals as goal
use Rattle.tau_base.proofs.Lists.{empty_of_length}

pub returns-clause-items : goal.returns-clause-items
returns-clause-items c =
    let want : next_want c.args.self.now.machine ≡ Finished c.in-Finished.reply = (λ i. next_want (sym c.self.view_is i).machine) ∙ sym c.want.ensures ∙ c.in-Finished.is in
    let empty : c.writes.result.now ≡ [] = empty_of_length c.writes.result.now (search (rules, arith)) in
    let none : buffered c.args.self.now.machine ≡ [] = (λ i. buffered (sym c.self.view_is i).machine) ∙ sym c.writes.ensures.same ∙ empty in
    c.push_reserved.ensures.items
    ∙ (λ i. c.args.out.now.items ++ record { number = (c.self.view_is i).number; reply = c.in-Finished.reply; dep = (c.self.view_is i).dep; lv = (c.self.view_is i).dep; spot = None } ∷ [])
    ∙ ap (λ (cs : List Committed). c.args.out.now.items ++ cs) (reading_put c.args.self.now c.in-Finished.reply want none)
