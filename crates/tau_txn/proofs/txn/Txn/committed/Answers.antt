use Rattle.std.proofs.Common.{◌≡◌, List, sym, ap, subst, ◌∙◌}
use Rattle.std.specs.Prelude.{Bool, Some}
use Rattle.tau_proc.specs.declared.proc.Proc.{Proc}
use Rattle.tau_model.specs.History.{Act}
use Rattle.tau_machine.specs.Hands as theory
use Rattle.tau_machine.specs.Hands.{act_of, committed_of}
use Rattle.tau_txn.specs.Kept.{kept}
use Rattle.tau_txn.specs.Next.{Reads}
use Rattle.tau_txn.specs.Txn.{PlainTxn, RunsBy, hand_in}
use Rattle.tau_txn.proofs.Txns.{joined_is_kept, reading_is_kept}
use Rattle.tau_txn.proofs.txn.Txn.committed.Goals as goal

pub returns-clause-joined : goal.returns-clause-joined
returns-clause-joined c =
    subst (λ (t : PlainTxn). (procs : List Proc) (hand : theory.Hand) (act : Act theory.Txn) → RunsBy procs t → hand_in procs t ≡ Some hand → act_of hand.phase ≡ Some act → c.committed.result ≡ Some (committed_of act))
    (ap (λ (b : Bool). record { worker = c.self.inside.worker; width = c.self.inside.streams; mode = c.self.inside.mode; hand = kept b c.self.inside.hand }) (sym c.if-not-self.false) ∙ c.self.view_is)
    (λ procs hand act run is acts. c.committed.ensures.kept ∙ joined_is_kept procs c.self.inside.worker c.self.inside.hand hand act run is acts)

pub returns-clause-reading : goal.returns-clause-reading
returns-clause-reading c =
    subst (λ (t : PlainTxn). (procs : List Proc) (hand : theory.Hand) (act : Act theory.Txn) → RunsBy procs t → hand_in procs t ≡ Some hand → Reads procs t.worker hand act → c.committed.result ≡ Some (committed_of act))
    (ap (λ (b : Bool). record { worker = c.self.inside.worker; width = c.self.inside.streams; mode = c.self.inside.mode; hand = kept b c.self.inside.hand }) (sym c.if-not-self.false) ∙ c.self.view_is)
    (λ procs hand act run is reads. c.committed.ensures.kept ∙ reading_is_kept procs c.self.inside.worker c.self.inside.hand hand act run c.committed.ensures.ascend is reads)
