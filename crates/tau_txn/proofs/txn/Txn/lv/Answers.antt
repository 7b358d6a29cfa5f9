use Rattle.std.proofs.Common.{◌≡◌, List, sym, ap, subst, ◌∙◌}
use Rattle.std.specs.Prelude.{Bool, Some}
use Rattle.tau_proc.specs.declared.proc.Proc.{Proc}
use Rattle.tau_model.specs.History.{Act}
use Rattle.tau_machine.specs.Hands as theory
use Rattle.tau_machine.specs.Hands.{lv_of}
use Rattle.tau_txn.specs.Kept.{kept}
use Rattle.tau_txn.specs.Next.{FreesBy}
use Rattle.tau_txn.specs.Txn.{PlainTxn, RunsBy, hand_in, has_joined}
use Rattle.tau_txn.proofs.Txns.{freed_lv}
use Rattle.tau_txn.proofs.txn.Txn.lv.Goals as goal

pub returns-clause-frees : goal.returns-clause-frees
returns-clause-frees c =
    subst (λ (t : PlainTxn). (procs : List Proc) (hand : theory.Hand) (act : Act theory.Txn) → RunsBy procs t → hand_in procs t ≡ Some hand → FreesBy procs (has_joined t) t.worker hand act → c.lv.result.now ≡ lv_of act)
    (ap (λ (b : Bool). record { worker = c.self.inside.worker; width = c.self.inside.streams; mode = c.self.inside.mode; hand = kept b c.self.inside.hand }) (sym c.if-not-self.false) ∙ c.self.view_is)
    (λ procs hand act run is frees. c.lv.ensures ∙ freed_lv procs c.self.inside.worker c.self.inside.hand hand act run is frees)
