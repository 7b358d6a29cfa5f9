use Rattle.std.proofs.Common.{List, ◌≡◌, true, refl, sym, ap, subst, ◌∙◌}
use Rattle.std.specs.Prelude.{Bool, Option, Some, IfSome, IfNone, is_some}
use Rattle.tau_base.specs.declared.value.Key.{Key}
use Rattle.tau_base.specs.declared.value.Value.{Value}
use Rattle.tau_proc.specs.declared.proc.Proc.{Proc}
use Rattle.tau_txn.specs.declared.action.Action.TheVariants as action
use Rattle.tau_txn.specs.Kept.{keeps_in, kept}
use Rattle.tau_txn.specs.Narrow.{free_at, written_in}
use Rattle.tau_txn.specs.Next.{next_action, Frees}
use Rattle.tau_txn.specs.Txn.{PlainTxn, RunsBy}
use Rattle.tau_txn.proofs.Narrow.{free_next, free_is, free_means, free_other}
use Rattle.tau_txn.proofs.Txns.{means_of}
use Rattle.tau_txn.proofs.txn.Txn.free_asked.Goals as goal

pub returns-clause-asked : goal.returns-clause-asked
returns-clause-asked c =
    subst (λ (t : PlainTxn). c.free_asked.result ≡ free_at (next_action t))
    (ap (λ (b : Bool). record { worker = c.self.inside.worker; width = c.self.inside.streams; mode = c.self.inside.mode; hand = kept b c.self.inside.hand }) (sym c.if-not-self.false) ∙ c.self.view_is)
    (c.free_asked.ensures.asked ∙ sym (free_next c.self.inside.hand.standing c.self.inside.hand))

pub returns-clause-next : goal.returns-clause-next
returns-clause-next c =
    subst (λ (t : PlainTxn). IfSome c.free_asked.result (λ x. next_action t ≡ action.Free x (written_in t x)))
    (ap (λ (b : Bool). record { worker = c.self.inside.worker; width = c.self.inside.streams; mode = c.self.inside.mode; hand = kept b c.self.inside.hand }) (sym c.if-not-self.false) ∙ c.self.view_is)
    (free_is c.self.inside.hand c.free_asked.result (c.free_asked.ensures.asked ∙ sym (free_next c.self.inside.hand.standing c.self.inside.hand)))

pub returns-clause-means : goal.returns-clause-means
returns-clause-means c =
    subst (λ (t : PlainTxn). (procs : List Proc) → RunsBy procs t → IfSome c.free_asked.result (λ x. Frees procs t x (written_in t x)))
    (ap (λ (b : Bool). record { worker = c.self.inside.worker; width = c.self.inside.streams; mode = c.self.inside.mode; hand = kept b c.self.inside.hand }) (sym c.if-not-self.false) ∙ c.self.view_is)
    (λ procs run.
    let keeps = subst (λ (b : Bool). keeps_in c.self.inside.streams (kept b c.self.inside.hand)) c.if-not-self.false c.self.invariant.hand in
    free_means (record { worker = c.self.inside.worker; width = c.self.inside.streams; mode = c.self.inside.mode; hand = Some c.self.inside.hand }) procs c.free_asked.result
    (free_is c.self.inside.hand c.free_asked.result (c.free_asked.ensures.asked ∙ sym (free_next c.self.inside.hand.standing c.self.inside.hand)))
    (means_of procs c.self.inside.worker c.self.inside.streams c.self.inside.mode c.self.inside.hand run keeps c.free_asked.ensures.ascend))

pub returns-clause-other : goal.returns-clause-other
returns-clause-other c =
    subst (λ (t : PlainTxn). IfNone c.free_asked.result ((x : Key) (write : Option Value) → next_action t ≡ action.Free x write → ⊥))
    (ap (λ (b : Bool). record { worker = c.self.inside.worker; width = c.self.inside.streams; mode = c.self.inside.mode; hand = kept b c.self.inside.hand }) (sym c.if-not-self.false) ∙ c.self.view_is)
    (free_other (record { worker = c.self.inside.worker; width = c.self.inside.streams; mode = c.self.inside.mode; hand = Some c.self.inside.hand }) c.free_asked.result (c.free_asked.ensures.asked ∙ sym (free_next c.self.inside.hand.standing c.self.inside.hand)))

pub returns-clause-hand : goal.returns-clause-hand
returns-clause-hand c = λ some.
    subst (λ (t : PlainTxn). is_some t.hand ≡ true)
    (ap (λ (b : Bool). record { worker = c.self.inside.worker; width = c.self.inside.streams; mode = c.self.inside.mode; hand = kept b c.self.inside.hand }) (sym c.if-not-self.false) ∙ c.self.view_is)
    refl
