use Rattle.std.proofs.Common.{List, ℕ, ◌≡◌, sym, ap, subst, ◌∙◌}
use Rattle.tau_base.specs.declared.value.Mode.TheVariants as mode
use Rattle.tau_machine.specs.Hands.{hold}
use Rattle.tau_txn.specs.Hand.{PlainHand}
use Rattle.tau_txn.specs.Progress.{IsRun, IsRunBy}
use Rattle.tau_txn.specs.Read.{hand_of}
use Rattle.tau_txn.specs.Steps.{locked_with}
use Rattle.tau_txn.proofs.Granted.{with_dep, locked_from}
use Rattle.tau_txn.proofs.hand.Hand.write.Goals as goal

pub may_write-requires-clause-run : goal.may_write-requires-clause-run
may_write-requires-clause-run c =
    subst (λ (h : PlainHand). IsRun (record h { dep = c.copy_from.new.self })) (sym c.self.view_is)
    (record { procs = c.requires.run.procs; is = with_dep c.requires.run.procs c.args.self.now c.copy_from.new.self c.requires.run.is c.requires.running })

pub returns-clause-locked : goal.returns-clause-locked
returns-clause-locked c = λ procs n row.
    c.may_write.ensures.locked procs n row
    ∙ subst (λ (h : PlainHand). locked_with (hand_of procs n (record h { dep = c.copy_from.new.self })) c.args.key mode.Write row c.copy_from.new.self ≡ locked_with (hand_of procs n c.args.self.now) c.args.key mode.Write row c.copy_from.new.self) (sym c.self.view_is)
    (locked_from procs n c.args.self.now c.copy_from.new.self c.copy_from.new.self c.args.key mode.Write row c.requires.running)
    ∙ ap (λ (d : List ℕ). locked_with (hand_of procs n c.args.self.now) c.args.key mode.Write row d) c.copy_from.ensures

pub returns-clause-same : goal.returns-clause-same
returns-clause-same c =
    c.may_write.ensures.same
    ∙ ap (λ (h : PlainHand). record h { machine = c.may_write.new.self.machine; held = hold c.args.key mode.Write h.held; seen = c.may_write.new.self.seen; dep = c.copy_from.new.self }) c.self.view_is
    ∙ ap (λ (d : List ℕ). record c.args.self.now { machine = c.may_write.new.self.machine; held = hold c.args.key mode.Write c.args.self.now.held; seen = c.may_write.new.self.seen; dep = d }) c.copy_from.ensures

pub returns-clause-runs : goal.returns-clause-runs
returns-clause-runs c = λ procs is.
    c.may_write.ensures.runs procs (subst (λ (h : PlainHand). IsRunBy procs (record h { dep = c.copy_from.new.self })) (sym c.self.view_is) (with_dep procs c.args.self.now c.copy_from.new.self is c.requires.running))
