use Rattle.std.proofs.Common.{◌≡◌, sym, ap, subst, ◌∙◌}
use Rattle.std.specs.Prelude.{Some}
use Rattle.std.specs.Option.{option_copied, unwrap_or}
use Rattle.tau_base.specs.declared.value.Value.TheVariants.{Absent}
use Rattle.tau_base.specs.declared.value.Key.{Key}
use Rattle.tau_base.specs.declared.value.Mode.{Mode}
use Rattle.tau_base.specs.declared.value.Mode.TheVariants as mode
use Rattle.tau_proc.specs.declared.reply.Want.TheVariants.{Write}
use Rattle.tau_proc.specs.Progress.{next_want}
use Rattle.tau_txn.specs.Hand.{PlainHand}
use Rattle.tau_txn.specs.Read.{hand_of}
use Rattle.tau_txn.specs.Steps.{lock_by, locked_with}
use Rattle.tau_txn.proofs.Keeping.{locked_keeps}
use Rattle.tau_txn.proofs.hand.Hand.granted.Goals as goal

pub returns-in-Write-clause-locked : goal.returns-in-Write-clause-locked
returns-in-Write-clause-locked c = λ procs w l e.
    let wants : next_want c.args.self.now.machine ≡ Write c.in-Write.key =
    sym (ap (λ (h : PlainHand). next_want h.machine) c.self.view_is) ∙ sym c.want.ensures ∙ c.in-Write.is in
    let there : Some (c.in-Write.key, mode.Write) ≡ Some l = sym (ap lock_by wants) ∙ e in
    let same : ◌≡◌ {A = Key × Mode} (c.in-Write.key, mode.Write) l = cc in
    subst (λ (k : Key × Mode). hand_of procs w c.write.new.self ≡ locked_with (hand_of procs w c.args.self.now) k.0 k.1 (unwrap_or (option_copied c.args.row) Absent) c.args.dep.now) same
    (c.write.ensures.locked procs w (unwrap_or (option_copied c.args.row) Absent))

pub returns-in-Read-clause-keeps : goal.returns-in-Read-clause-keeps
returns-in-Read-clause-keeps c = λ width wide keeps.
    locked_keeps width c.args.self.now c.in-Read.key mode.Read c.read.new.self.machine c.read.new.self.seen c.args.dep.now c.read.new.self c.read.ensures.same keeps c.requires.running wide
    (record { procs = keeps.run.procs; is = c.read.ensures.runs keeps.run.procs keeps.run.is })

pub returns-in-Write-clause-keeps : goal.returns-in-Write-clause-keeps
returns-in-Write-clause-keeps c = λ width wide keeps.
    locked_keeps width c.args.self.now c.in-Write.key mode.Write c.write.new.self.machine c.write.new.self.seen c.args.dep.now c.write.new.self c.write.ensures.same keeps c.requires.running wide
    (record { procs = keeps.run.procs; is = c.write.ensures.runs keeps.run.procs keeps.run.is })
