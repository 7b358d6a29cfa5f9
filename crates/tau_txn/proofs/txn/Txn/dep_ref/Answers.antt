use Rattle.std.proofs.Common.{◌≡◌, true, length, sym, ap, subst, ◌∙◌}
use Rattle.std.specs.Prelude.{Bool, is_some}
use Rattle.tau_txn.specs.Kept.{KeepsHand, keeps_in, kept}
use Rattle.tau_txn.specs.Txn.{PlainTxn, dep_in}
use Rattle.tau_txn.proofs.Narrow.{is_in_hand}
use Rattle.tau_txn.proofs.txn.Txn.dep_ref.Goals as goal

pub returns-clause-dep : goal.returns-clause-dep
returns-clause-dep c =
    let here : c.self.inside.in_hand ≡ true = is_in_hand c.self.inside.in_hand c.self.inside.hand (subst (λ (t : PlainTxn). is_some t.hand ≡ true) (sym c.self.view_is) c.requires) in
    subst (λ (t : PlainTxn). c.dep.result.now ≡ dep_in t)
    (ap (λ (b : Bool). record { worker = c.self.inside.worker; width = c.self.inside.streams; mode = c.self.inside.mode; hand = kept b c.self.inside.hand }) (sym here) ∙ c.self.view_is)
    c.dep.ensures

pub returns-clause-wide : goal.returns-clause-wide
returns-clause-wide c =
    let here : c.self.inside.in_hand ≡ true = is_in_hand c.self.inside.in_hand c.self.inside.hand (subst (λ (t : PlainTxn). is_some t.hand ≡ true) (sym c.self.view_is) c.requires) in
    let keeps : KeepsHand c.self.inside.streams c.self.inside.hand = subst (λ (b : Bool). keeps_in c.self.inside.streams (kept b c.self.inside.hand)) here c.self.invariant.hand in
    ap length c.dep.ensures ∙ keeps.shaped.wide ∙ ap (λ (t : PlainTxn). t.width) c.self.view_is
