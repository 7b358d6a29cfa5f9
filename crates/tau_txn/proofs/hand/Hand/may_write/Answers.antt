use Rattle.std.proofs.Common.{◌≡◌, ◌<◌, sym, ap, subst, ◌∙◌, length}
use Rattle.tau_proc.specs.declared.reply.Want.TheVariants.{Write}
use Rattle.tau_proc.specs.Progress.{next_want}
use Rattle.tau_txn.specs.declared.standing.Standing.TheVariants.{Running}
use Rattle.tau_txn.specs.Hand.{PlainHand}
use Rattle.tau_txn.specs.Progress.{IsRunBy}
use Rattle.tau_txn.proofs.Granted.{held_room_write, run_write}
use Rattle.tau_txn.proofs.hand.Hand.may_write.Goals as goal

pub take-requires : goal.take-requires
take-requires c =
    let is = c.requires.run.is in
    subst (λ (h : PlainHand). length h.held < 64) (sym c.self.view_is) (held_room_write c.requires.run.procs c.args.self.now c.args.key is (is.holds c.requires.running) c.requires.wanted)

pub returns-clause-runs : goal.returns-clause-runs
returns-clause-runs c = λ procs is.
    let run = subst (IsRunBy procs) (sym c.self.view_is) is in
    let running : c.self.inside.standing ≡ Running = ap (λ (h : PlainHand). h.standing) c.self.view_is ∙ c.requires.running in
    let wants : next_want c.self.inside.machine ≡ Write c.args.key = ap (λ (h : PlainHand). next_want h.machine) c.self.view_is ∙ c.requires.wanted in
    rw c.take.ensures (run_write procs _ c.args.key c.granted.new.self c.self.inside.dep run running wants c.granted.ensures.stands c.granted.ensures.granted)
