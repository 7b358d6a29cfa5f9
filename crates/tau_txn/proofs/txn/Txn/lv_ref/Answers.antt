use Rattle.std.proofs.Common.{◌≡◌, true, List, sym, ap, subst, ◌∙◌}
use Rattle.std.specs.Prelude.{Bool, Some, is_some}
use Rattle.tau_proc.specs.declared.proc.Proc.{Proc}
use Rattle.tau_model.specs.History.{Act}
use Rattle.tau_machine.specs.Hands as theory
use Rattle.tau_machine.specs.Hands.{lv_of}
use Rattle.tau_txn.specs.Kept.{kept}
use Rattle.tau_txn.specs.Next.{FreesBy}
use Rattle.tau_txn.specs.Txn.{PlainTxn, RunsBy, hand_in, has_joined, lv_in}
use Rattle.tau_txn.proofs.Narrow.{is_in_hand}
use Rattle.tau_txn.proofs.Txns.{freed_lv}
use Rattle.tau_txn.proofs.txn.Txn.lv_ref.Goals as goal

pub returns-clause-lv : goal.returns-clause-lv
returns-clause-lv c =
    let here : c.self.inside.in_hand ≡ true = is_in_hand c.self.inside.in_hand c.self.inside.hand (subst (λ (t : PlainTxn). is_some t.hand ≡ true) (sym c.self.view_is) c.requires) in
    subst (λ (t : PlainTxn). c.lv.result.now ≡ lv_in t)
    (ap (λ (b : Bool). record { worker = c.self.inside.worker; width = c.self.inside.streams; mode = c.self.inside.mode; hand = kept b c.self.inside.hand }) (sym here) ∙ c.self.view_is)
    c.lv.ensures

pub returns-clause-frees : goal.returns-clause-frees
returns-clause-frees c =
    let here : c.self.inside.in_hand ≡ true = is_in_hand c.self.inside.in_hand c.self.inside.hand (subst (λ (t : PlainTxn). is_some t.hand ≡ true) (sym c.self.view_is) c.requires) in
    subst (λ (t : PlainTxn). (procs : List Proc) (hand : theory.Hand) (act : Act theory.Txn) → RunsBy procs t → hand_in procs t ≡ Some hand → FreesBy procs (has_joined t) t.worker hand act → c.lv.result.now ≡ lv_of act)
    (ap (λ (b : Bool). record { worker = c.self.inside.worker; width = c.self.inside.streams; mode = c.self.inside.mode; hand = kept b c.self.inside.hand }) (sym here) ∙ c.self.view_is)
    (λ procs hand act run is frees. c.lv.ensures ∙ freed_lv procs c.self.inside.worker c.self.inside.hand hand act run is frees)
