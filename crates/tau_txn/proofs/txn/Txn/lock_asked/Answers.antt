use Rattle.std.proofs.Common.{List, ◌≡◌, true, refl, sym, ap, subst, ◌∙◌}
use Rattle.std.specs.Prelude.{Bool, Some, IfSome, IfNone, is_some}
use Rattle.tau_base.specs.declared.value.Key.{Key}
use Rattle.tau_base.specs.declared.value.Mode.{Mode}
use Rattle.tau_proc.specs.declared.proc.Proc.{Proc}
use Rattle.tau_txn.specs.declared.action.Action.TheVariants as action
use Rattle.tau_txn.specs.Kept.{keeps_in, kept}
use Rattle.tau_txn.specs.Narrow.{lock_at}
use Rattle.tau_txn.specs.Next.{next_action, Locks}
use Rattle.tau_txn.specs.Txn.{PlainTxn, RunsBy}
use Rattle.tau_txn.proofs.Narrow.{lock_next, lock_is, lock_means, lock_other}
use Rattle.tau_txn.proofs.Txns.{means_of}
use Rattle.tau_txn.proofs.txn.Txn.lock_asked.Goals as goal

pub returns-clause-asked : goal.returns-clause-asked
returns-clause-asked c =
    subst (λ (t : PlainTxn). c.lock_asked.result ≡ lock_at (next_action t))
    (ap (λ (b : Bool). record { worker = c.self.inside.worker; width = c.self.inside.streams; mode = c.self.inside.mode; hand = kept b c.self.inside.hand }) (sym c.if-not-self.false) ∙ c.self.view_is)
    (c.lock_asked.ensures.asked ∙ sym (lock_next c.self.inside.hand.standing c.self.inside.hand))

pub returns-clause-next : goal.returns-clause-next
returns-clause-next c =
    subst (λ (t : PlainTxn). IfSome c.lock_asked.result (λ l. next_action t ≡ action.Lock l.0 l.1))
    (ap (λ (b : Bool). record { worker = c.self.inside.worker; width = c.self.inside.streams; mode = c.self.inside.mode; hand = kept b c.self.inside.hand }) (sym c.if-not-self.false) ∙ c.self.view_is)
    (lock_is (record { worker = c.self.inside.worker; width = c.self.inside.streams; mode = c.self.inside.mode; hand = Some c.self.inside.hand }) c.lock_asked.result (c.lock_asked.ensures.asked ∙ sym (lock_next c.self.inside.hand.standing c.self.inside.hand)))

pub returns-clause-means : goal.returns-clause-means
returns-clause-means c =
    subst (λ (t : PlainTxn). (procs : List Proc) → RunsBy procs t → IfSome c.lock_asked.result (λ l. Locks procs t l.0 l.1))
    (ap (λ (b : Bool). record { worker = c.self.inside.worker; width = c.self.inside.streams; mode = c.self.inside.mode; hand = kept b c.self.inside.hand }) (sym c.if-not-self.false) ∙ c.self.view_is)
    (λ procs run.
    let keeps = subst (λ (b : Bool). keeps_in c.self.inside.streams (kept b c.self.inside.hand)) c.if-not-self.false c.self.invariant.hand in
    lock_means (record { worker = c.self.inside.worker; width = c.self.inside.streams; mode = c.self.inside.mode; hand = Some c.self.inside.hand }) procs c.lock_asked.result
    (c.lock_asked.ensures.asked ∙ sym (lock_next c.self.inside.hand.standing c.self.inside.hand))
    (means_of procs c.self.inside.worker c.self.inside.streams c.self.inside.mode c.self.inside.hand run keeps c.lock_asked.ensures.ascend))

pub returns-clause-other : goal.returns-clause-other
returns-clause-other c =
    subst (λ (t : PlainTxn). IfNone c.lock_asked.result ((x : Key) (m : Mode) → next_action t ≡ action.Lock x m → ⊥))
    (ap (λ (b : Bool). record { worker = c.self.inside.worker; width = c.self.inside.streams; mode = c.self.inside.mode; hand = kept b c.self.inside.hand }) (sym c.if-not-self.false) ∙ c.self.view_is)
    (lock_other (record { worker = c.self.inside.worker; width = c.self.inside.streams; mode = c.self.inside.mode; hand = Some c.self.inside.hand }) c.lock_asked.result (c.lock_asked.ensures.asked ∙ sym (lock_next c.self.inside.hand.standing c.self.inside.hand)))

pub returns-clause-hand : goal.returns-clause-hand
returns-clause-hand c = λ some.
    subst (λ (t : PlainTxn). is_some t.hand ≡ true)
    (ap (λ (b : Bool). record { worker = c.self.inside.worker; width = c.self.inside.streams; mode = c.self.inside.mode; hand = kept b c.self.inside.hand }) (sym c.if-not-self.false) ∙ c.self.view_is)
    refl
