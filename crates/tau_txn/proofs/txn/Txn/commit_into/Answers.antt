use Rattle.std.proofs.Common.{◌≡◌, List, [], ◌∷◌, ◌++◌, sym, ap, subst, ◌∙◌, Option}
use Rattle.std.specs.Prelude.{Bool, Some}
use Rattle.tau_proc.specs.declared.proc.Proc.{Proc}
use Rattle.tau_model.specs.History.{Act}
use Rattle.tau_model.specs.declared.committed.Committed.{Committed}
use Rattle.tau_machine.specs.Hands as theory
use Rattle.tau_machine.specs.Hands.{act_of, committed_of}
use Rattle.tau_txn.specs.Kept.{KeepsHand, kept, keeps_in}
use Rattle.tau_txn.specs.Narrow.{listed}
use Rattle.tau_txn.specs.Next.{Reads}
use Rattle.tau_txn.specs.Txn.{PlainTxn, RunsBy, hand_in}
use Rattle.tau_txn.proofs.Txns.{joined_is_kept, reading_is_kept, lv_kept}
use Rattle.tau_txn.proofs.txn.Txn.commit_into.Goals as goal

pub commit_into-requires-clause-vector : goal.commit_into-requires-clause-vector
commit_into-requires-clause-vector c =
    let keeps : KeepsHand c.self.inside.streams c.self.inside.hand = subst (λ (b : Bool). keeps_in c.self.inside.streams (kept b c.self.inside.hand)) c.if-not-self.false c.self.invariant.hand in
    lv_kept keeps.run.procs c.self.inside.hand keeps.run.is

pub returns-clause-joined : goal.returns-clause-joined
returns-clause-joined c =
    subst (λ (t : PlainTxn). (procs : List Proc) (hand : theory.Hand) (act : Act theory.Txn) → RunsBy procs t → hand_in procs t ≡ Some hand → act_of hand.phase ≡ Some act → c.commit_into.new.out.items ≡ c.args.out.now.items ++ committed_of act ∷ [])
    (ap (λ (b : Bool). record { worker = c.self.inside.worker; width = c.self.inside.streams; mode = c.self.inside.mode; hand = kept b c.self.inside.hand }) (sym c.if-not-self.false) ∙ c.self.view_is)
    (λ procs hand act run is acts. c.commit_into.ensures.items
    ∙ ap (λ (o : Option Committed). c.args.out.now.items ++ listed o) (joined_is_kept procs c.self.inside.worker c.self.inside.hand hand act run is acts))

pub returns-clause-reading : goal.returns-clause-reading
returns-clause-reading c =
    subst (λ (t : PlainTxn). (procs : List Proc) (hand : theory.Hand) (act : Act theory.Txn) → RunsBy procs t → hand_in procs t ≡ Some hand → Reads procs t.worker hand act → c.commit_into.new.out.items ≡ c.args.out.now.items ++ committed_of act ∷ [])
    (ap (λ (b : Bool). record { worker = c.self.inside.worker; width = c.self.inside.streams; mode = c.self.inside.mode; hand = kept b c.self.inside.hand }) (sym c.if-not-self.false) ∙ c.self.view_is)
    (λ procs hand act run is reads. c.commit_into.ensures.items
    ∙ ap (λ (o : Option Committed). c.args.out.now.items ++ listed o) (reading_is_kept procs c.self.inside.worker c.self.inside.hand hand act run c.commit_into.ensures.ascend is reads))
