use Rattle.std.proofs.Common.{List, ◌≡◌, true, false, sym, ap, subst, ◌∙◌}
use Rattle.std.specs.Prelude.{Bool, Some}
use Rattle.tau_proc.specs.declared.proc.Proc.{Proc}
use Rattle.tau_txn.specs.declared.action.Action.TheVariants as action
use Rattle.tau_txn.specs.Kept.{keeps_in, kept}
use Rattle.tau_txn.specs.Narrow.{left_over_at}
use Rattle.tau_txn.specs.Next.{next_action, IsLeftOver}
use Rattle.tau_txn.specs.Txn.{PlainTxn, RunsBy}
use Rattle.tau_txn.proofs.Narrow.{left_next, left_is, left_means, left_other}
use Rattle.tau_txn.proofs.Txns.{means_of}
use Rattle.tau_txn.proofs.txn.Txn.is_left_over.Goals as goal

pub returns-clause-asked : goal.returns-clause-asked
returns-clause-asked c =
    subst (λ (t : PlainTxn). c.is_left_over.result ≡ left_over_at (next_action t))
    (ap (λ (b : Bool). record { worker = c.self.inside.worker; width = c.self.inside.streams; mode = c.self.inside.mode; hand = kept b c.self.inside.hand }) (sym c.if-not-self.false) ∙ c.self.view_is)
    (c.is_left_over.ensures.asked ∙ sym (left_next c.self.inside.hand.standing c.self.inside.hand))

pub returns-clause-next : goal.returns-clause-next
returns-clause-next c =
    subst (λ (t : PlainTxn). c.is_left_over.result ≡ true → next_action t ≡ action.LeftOver)
    (ap (λ (b : Bool). record { worker = c.self.inside.worker; width = c.self.inside.streams; mode = c.self.inside.mode; hand = kept b c.self.inside.hand }) (sym c.if-not-self.false) ∙ c.self.view_is)
    (left_is (record { worker = c.self.inside.worker; width = c.self.inside.streams; mode = c.self.inside.mode; hand = Some c.self.inside.hand }) c.is_left_over.result (c.is_left_over.ensures.asked ∙ sym (left_next c.self.inside.hand.standing c.self.inside.hand)))

pub returns-clause-means : goal.returns-clause-means
returns-clause-means c =
    subst (λ (t : PlainTxn). (procs : List Proc) → RunsBy procs t → c.is_left_over.result ≡ true → IsLeftOver procs t)
    (ap (λ (b : Bool). record { worker = c.self.inside.worker; width = c.self.inside.streams; mode = c.self.inside.mode; hand = kept b c.self.inside.hand }) (sym c.if-not-self.false) ∙ c.self.view_is)
    (λ procs run.
    let keeps = subst (λ (b : Bool). keeps_in c.self.inside.streams (kept b c.self.inside.hand)) c.if-not-self.false c.self.invariant.hand in
    left_means (record { worker = c.self.inside.worker; width = c.self.inside.streams; mode = c.self.inside.mode; hand = Some c.self.inside.hand }) procs c.is_left_over.result
    (c.is_left_over.ensures.asked ∙ sym (left_next c.self.inside.hand.standing c.self.inside.hand))
    (means_of procs c.self.inside.worker c.self.inside.streams c.self.inside.mode c.self.inside.hand run keeps c.is_left_over.ensures.ascend))

pub returns-clause-other : goal.returns-clause-other
returns-clause-other c =
    subst (λ (t : PlainTxn). c.is_left_over.result ≡ false → next_action t ≡ action.LeftOver → ⊥)
    (ap (λ (b : Bool). record { worker = c.self.inside.worker; width = c.self.inside.streams; mode = c.self.inside.mode; hand = kept b c.self.inside.hand }) (sym c.if-not-self.false) ∙ c.self.view_is)
    (left_other (record { worker = c.self.inside.worker; width = c.self.inside.streams; mode = c.self.inside.mode; hand = Some c.self.inside.hand }) c.is_left_over.result (c.is_left_over.ensures.asked ∙ sym (left_next c.self.inside.hand.standing c.self.inside.hand)))
