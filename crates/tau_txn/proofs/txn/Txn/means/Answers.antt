use Rattle.std.proofs.Common.{List, sym, ap, subst, ◌∙◌}
use Rattle.std.specs.Prelude.{Bool}
use Rattle.tau_proc.specs.declared.proc.Proc.{Proc}
use Rattle.tau_txn.specs.Kept.{keeps_in, kept}
use Rattle.tau_txn.specs.Next.{Means, next_action}
use Rattle.tau_txn.specs.Txn.{PlainTxn, RunsBy}
use Rattle.tau_txn.proofs.Txns.{means_of}
use Rattle.tau_txn.proofs.txn.Txn.means.Goals as goal

pub returns : goal.returns
returns c =
    subst (λ (t : PlainTxn). (procs : List Proc) → RunsBy procs t → Means procs t (next_action t))
    (ap (λ (b : Bool). record { worker = c.self.inside.worker; width = c.self.inside.streams; mode = c.self.inside.mode; hand = kept b c.self.inside.hand }) (sym c.if-not-self.false) ∙ c.self.view_is)
    (λ procs run.
    let keeps = subst (λ (b : Bool). keeps_in c.self.inside.streams (kept b c.self.inside.hand)) c.if-not-self.false c.self.invariant.hand in
    means_of procs c.self.inside.worker c.self.inside.streams c.self.inside.mode c.self.inside.hand run keeps c.ascends.ensures)
