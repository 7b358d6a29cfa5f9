use Rattle.std.proofs.Common.{◌≡◌, length, List, sym, ap, subst, ◌∙◌}
use Rattle.std.specs.Prelude.{Bool, Some}
use Rattle.tau_proc.specs.declared.proc.Proc.{Proc}
use Rattle.tau_machine.specs.Hands as theory
use Rattle.tau_txn.specs.Actions.{action_of}
use Rattle.tau_txn.specs.Kept.{keeps_in, kept}
use Rattle.tau_txn.specs.Next.{Means}
use Rattle.tau_txn.specs.Txn.{PlainTxn, RunsBy, hand_in, leaves_in, bytes_in}
use Rattle.tau_txn.proofs.Txns.{next_of, means_of}
use Rattle.tau_txn.proofs.txn.Txn.turn.Goals as goal

pub returns-clause-next : goal.returns-clause-next
returns-clause-next c =
    subst (λ (t : PlainTxn). (procs : List Proc) (hand : theory.Hand) → RunsBy procs t → hand_in procs t ≡ Some hand → c.turn.result ≡ action_of procs t.worker (leaves_in t) (length (bytes_in t)) hand)
    (ap (λ (b : Bool). record { worker = c.self.inside.worker; width = c.self.inside.streams; mode = c.self.inside.mode; hand = kept b c.self.inside.hand }) (sym c.if-not-self.false) ∙ c.self.view_is)
    (λ procs hand run is. c.turn.ensures.next ∙ next_of procs c.self.inside.worker c.self.inside.hand hand run c.turn.ensures.ascend is)

pub returns-clause-means : goal.returns-clause-means
returns-clause-means c =
    subst (λ (t : PlainTxn). (procs : List Proc) → RunsBy procs t → Means procs t c.turn.result)
    (ap (λ (b : Bool). record { worker = c.self.inside.worker; width = c.self.inside.streams; mode = c.self.inside.mode; hand = kept b c.self.inside.hand }) (sym c.if-not-self.false) ∙ c.self.view_is)
    (λ procs run.
    let keeps = subst (λ (b : Bool). keeps_in c.self.inside.streams (kept b c.self.inside.hand)) c.if-not-self.false c.self.invariant.hand in
    rw c.turn.ensures.next (means_of procs c.self.inside.worker c.self.inside.streams c.self.inside.mode c.self.inside.hand run keeps c.turn.ensures.ascend))
