use Rattle.std.proofs.Common.{List, ℕ, ◌≡◌, sym, ap, subst, ◌∙◌}
use Rattle.std.specs.Option.{option_copied, unwrap_or}
use Rattle.tau_base.specs.declared.value.Value.TheVariants.{Absent}
use Rattle.tau_base.specs.declared.value.Mode.TheVariants as mode
use Rattle.tau_machine.specs.Hands.{hold}
use Rattle.tau_txn.specs.Hand.{PlainHand}
use Rattle.tau_txn.specs.Progress.{IsRun, IsRunBy}
use Rattle.tau_txn.specs.Read.{hand_of}
use Rattle.tau_txn.specs.Steps.{locked_with}
use Rattle.tau_txn.proofs.Granted.{with_dep, locked_from}
use Rattle.tau_txn.proofs.hand.Hand.read.Goals as goal

pub see-requires-clause-run : goal.see-requires-clause-run
see-requires-clause-run c =
    subst (λ (h : PlainHand). IsRun (record h { dep = c.copy_from.new.self })) (sym c.self.view_is)
    (record { procs = c.requires.run.procs; is = with_dep c.requires.run.procs c.args.self.now c.copy_from.new.self c.requires.run.is c.requires.running })

pub returns-clause-locked : goal.returns-clause-locked
returns-clause-locked c = λ procs n.
    c.see.ensures.locked procs n
    ∙ subst (λ (h : PlainHand). locked_with (hand_of procs n (record h { dep = c.copy_from.new.self })) c.args.key mode.Read (unwrap_or (option_copied c.args.row) Absent) c.copy_from.new.self ≡ locked_with (hand_of procs n c.args.self.now) c.args.key mode.Read (unwrap_or (option_copied c.args.row) Absent) c.copy_from.new.self) (sym c.self.view_is)
    (locked_from procs n c.args.self.now c.copy_from.new.self c.copy_from.new.self c.args.key mode.Read (unwrap_or (option_copied c.args.row) Absent) c.requires.running)
    ∙ ap (λ (d : List ℕ). locked_with (hand_of procs n c.args.self.now) c.args.key mode.Read (unwrap_or (option_copied c.args.row) Absent) d) c.copy_from.ensures

pub returns-clause-same : goal.returns-clause-same
returns-clause-same c =
    c.see.ensures.same
    ∙ ap (λ (h : PlainHand). record h { machine = c.see.new.self.machine; held = hold c.args.key mode.Read h.held; seen = c.see.new.self.seen; dep = c.copy_from.new.self }) c.self.view_is
    ∙ ap (λ (d : List ℕ). record c.args.self.now { machine = c.see.new.self.machine; held = hold c.args.key mode.Read c.args.self.now.held; seen = c.see.new.self.seen; dep = d }) c.copy_from.ensures

pub returns-clause-runs : goal.returns-clause-runs
returns-clause-runs c = λ procs is.
    c.see.ensures.runs procs (subst (λ (h : PlainHand). IsRunBy procs (record h { dep = c.copy_from.new.self })) (sym c.self.view_is) (with_dep procs c.args.self.now c.copy_from.new.self is c.requires.running))
