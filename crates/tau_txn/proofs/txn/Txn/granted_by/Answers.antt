use Rattle.std.proofs.Common.{◌≡◌, List, sym, ap, subst, ◌∙◌}
use Rattle.std.specs.Prelude.{Bool, Some}
use Rattle.std.specs.Option.{option_copied, unwrap_or}
use Rattle.tau_base.specs.declared.value.Value.TheVariants.{Absent}
use Rattle.tau_base.specs.declared.value.Key.{Key}
use Rattle.tau_base.specs.declared.value.Mode.{Mode}
use Rattle.tau_proc.specs.declared.proc.Proc.{Proc}
use Rattle.tau_machine.specs.Hands as theory
use Rattle.tau_txn.specs.declared.action.Action.TheVariants as action
use Rattle.tau_txn.specs.Kept.{kept}
use Rattle.tau_txn.specs.Next.{next_action}
use Rattle.tau_txn.specs.Steps.{locked_with}
use Rattle.tau_txn.specs.Txn.{PlainTxn, RunsBy, hand_in, shown_of}
use Rattle.tau_txn.proofs.Txns.{locked_in}
use Rattle.tau_txn.proofs.txn.Txn.granted_by.Goals as goal

pub returns-clause-locked : goal.returns-clause-locked
returns-clause-locked c =
    subst (λ (t : PlainTxn). (procs : List Proc) (hand : theory.Hand) (x : Key) (m : Mode) → RunsBy procs t → next_action t ≡ action.Lock x m → hand_in procs t ≡ Some hand →
    shown_of procs c.self.inside.worker (kept c.self.inside.in_hand c.granted.new.self) ≡ Some (locked_with hand x m (unwrap_or (option_copied c.args.row) Absent) c.args.dep.now))
    (ap (λ (b : Bool). record { worker = c.self.inside.worker; width = c.self.inside.streams; mode = c.self.inside.mode; hand = kept b c.self.inside.hand }) (sym c.if-not-self.false) ∙ c.self.view_is)
    (λ procs hand x m run asked is.
    ap (λ (b : Bool). shown_of procs c.self.inside.worker (kept b c.granted.new.self)) c.if-not-self.false
    ∙ locked_in c.self.inside.worker c.self.inside.hand c.granted.new.self (unwrap_or (option_copied c.args.row) Absent) c.args.dep.now c.granted.ensures.locked c.granted.ensures.standing procs hand x m asked is)
