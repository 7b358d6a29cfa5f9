use Rattle.std.proofs.Common.{◌≡◌, ℕ, List, sym, ap, subst, ◌∙◌}
use Rattle.tau_base.specs.declared.value.Mode.TheVariants as mode
use Rattle.tau_proc.specs.Progress.{next_want}
use Rattle.tau_machine.specs.Hands.{hold}
use Rattle.tau_shard.specs.Shard.{Shard, entry_in}
use Rattle.tau_shard.specs.Blocks.{dep_locked}
use Rattle.tau_shard.specs.Read.{shard_of}
use Rattle.tau_txn.specs.Hand.{PlainHand}
use Rattle.tau_txn.specs.Progress.{IsRun, IsRunBy}
use Rattle.tau_txn.specs.Read.{hand_of}
use Rattle.tau_txn.specs.Steps.{locked_with}
use Rattle.tau_txn.proofs.Granted.{with_dep, locked_from}
use Rattle.tau_txn.proofs.Locks.{runs_same, runs_locked}
use Rattle.tau_txn.proofs.hand.Hand.write_on.Goals as goal

pub may_write-requires-clause-run : goal.may_write-requires-clause-run
may_write-requires-clause-run c =
    subst (λ (h : PlainHand). IsRun (record h { dep = c.lock_key.new.dep })) (sym c.self.view_is)
    (record { procs = c.requires.run.procs; is = with_dep c.requires.run.procs c.args.self.now c.lock_key.new.dep c.requires.run.is c.requires.running })

pub may_write-requires-clause-running : goal.may_write-requires-clause-running
may_write-requires-clause-running c = ap (λ (h : PlainHand). h.standing) c.self.view_is ∙ c.requires.running

pub may_write-requires-clause-wanted : goal.may_write-requires-clause-wanted
may_write-requires-clause-wanted c = ap (λ (h : PlainHand). next_want h.machine) c.self.view_is ∙ c.requires.wanted

pub returns-in-Ok-clause-step : goal.returns-in-Ok-clause-step
returns-in-Ok-clause-step c =
    let sh : Shard = shard_of c.args.shard.now in
    let dep : List ℕ = c.lock_key.new.dep in
    let raised : dep ≡ dep_locked mode.Write c.args.self.now.dep (entry_in sh c.args.key) = c.in-Ok.ensures.joined ∙ ap (λ (h : PlainHand). dep_locked mode.Write h.dep (entry_in sh c.args.key)) c.self.view_is in
    record {
      locked = c.in-Ok.ensures.locked;
      free = c.in-Ok.ensures.free;
      is = λ procs n.
          c.may_write.ensures.locked procs n (sh.rows c.args.key)
          ∙ subst (λ (h : PlainHand). locked_with (hand_of procs n (record h { dep = dep })) c.args.key mode.Write (sh.rows c.args.key) dep ≡ locked_with (hand_of procs n c.args.self.now) c.args.key mode.Write (sh.rows c.args.key) dep) (sym c.self.view_is)
          (locked_from procs n c.args.self.now dep dep c.args.key mode.Write (sh.rows c.args.key) c.requires.running)
          ∙ (λ i. locked_with (hand_of procs n c.args.self.now) c.args.key mode.Write (sh.rows c.args.key) (raised i));
    }

pub returns-in-Ok-clause-runs : goal.returns-in-Ok-clause-runs
returns-in-Ok-clause-runs c =
    let sh : Shard = shard_of c.args.shard.now in
    let dep : List ℕ = c.lock_key.new.dep in
    let new : PlainHand = c.may_write.new.self in
    let raised : dep ≡ dep_locked mode.Write c.args.self.now.dep (entry_in sh c.args.key) = c.in-Ok.ensures.joined ∙ ap (λ (h : PlainHand). dep_locked mode.Write h.dep (entry_in sh c.args.key)) c.self.view_is in
    let same : new ≡ record c.args.self.now { machine = new.machine; held = hold c.args.key mode.Write c.args.self.now.held; seen = new.seen; dep = dep_locked mode.Write c.args.self.now.dep (entry_in sh c.args.key) } =
    c.may_write.ensures.same
    ∙ ap (λ (h : PlainHand). record h { machine = new.machine; held = hold c.args.key mode.Write h.held; seen = new.seen; dep = dep }) c.self.view_is
    ∙ ap (λ (d : List ℕ). record c.args.self.now { machine = new.machine; held = hold c.args.key mode.Write c.args.self.now.held; seen = new.seen; dep = d }) raised in
    runs_locked (dep_locked mode.Write c.args.self.now.dep (entry_in sh c.args.key)) c.args.self.now new c.args.key mode.Write same c.requires.running
    (λ procs is. c.may_write.ensures.runs procs (subst (λ (h : PlainHand). IsRunBy procs (record h { dep = dep })) (sym c.self.view_is) (with_dep procs c.args.self.now dep is c.requires.running)))

pub returns-in-Err-clause-same : goal.returns-in-Err-clause-same
returns-in-Err-clause-same c =
    subst (λ (h : PlainHand). record h { dep = c.lock_key.new.dep } ≡ c.args.self.now) (sym c.self.view_is)
    (ap (λ (d : List ℕ). record c.args.self.now { dep = d }) (c.in-Err.ensures.dep_unchanged ∙ ap (λ (h : PlainHand). h.dep) c.self.view_is))

pub returns-in-Err-clause-runs : goal.returns-in-Err-clause-runs
returns-in-Err-clause-runs c =
    runs_same _ c.args.self.now _ c.requires.running
    (subst (λ (h : PlainHand). record h { dep = c.lock_key.new.dep } ≡ c.args.self.now) (sym c.self.view_is)
    (ap (λ (d : List ℕ). record c.args.self.now { dep = d }) (c.in-Err.ensures.dep_unchanged ∙ ap (λ (h : PlainHand). h.dep) c.self.view_is)))
