use Rattle.std.proofs.Common.{◌≡◌, ◌%◌, ℕ, List, sym, ap, subst, ◌∙◌}
use Rattle.std.specs.Prelude.{Bool, Some}
use Rattle.tau_proc.specs.declared.proc.Proc.{Proc}
use Rattle.tau_machine.specs.Hands as theory
use Rattle.tau_machine.specs.Worker.{hand_joined}
use Rattle.tau_txn.specs.Hand.{PlainHand}
use Rattle.tau_txn.specs.Kept.{kept}
use Rattle.tau_txn.specs.Next.{act_at}
use Rattle.tau_txn.specs.Txn.{PlainTxn, RunsBy, hand_in, shown_of}
use Rattle.tau_txn.proofs.Txns.{placed_in}
use Rattle.tau_txn.proofs.txn.Txn.placed.Goals as goal

pub returns-clause-placed : goal.returns-clause-placed
returns-clause-placed c =
    subst (λ (t : PlainTxn). (procs : List Proc) (hand : theory.Hand) → RunsBy procs t → hand_in procs t ≡ Some hand →
    shown_of procs c.self.inside.worker (kept c.self.inside.in_hand c.placed.new.self) ≡ Some (hand_joined hand (theory.Placed (act_at procs t c.args.start hand)) hand.dep))
    (ap (λ (b : Bool). record { worker = c.self.inside.worker; width = c.self.inside.streams; mode = c.self.inside.mode; hand = kept b c.self.inside.hand }) (sym c.if-not-self.false) ∙ c.self.view_is)
    (λ procs hand run is.
    ap (λ (b : Bool). shown_of procs c.self.inside.worker (kept b c.placed.new.self)) c.if-not-self.false
    ∙ placed_in procs c.self.inside.worker c.self.inside.streams c.self.inside.mode c.stream_of-stream.result c.args.start c.self.inside.hand c.placed.new.self
    (c.stream_of-stream.ensures.same ∙ ap (λ (k : ℕ). k % c.self.inside.streams) c.from.ensures) (ap (λ (h : PlainHand). h.standing) c.placed.ensures.same) c.placed.ensures.placed hand is)
