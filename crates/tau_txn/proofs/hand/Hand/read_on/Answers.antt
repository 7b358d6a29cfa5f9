use Rattle.std.proofs.Common.{◌≡◌, ℕ, List, sym, ap, subst, ◌∙◌}
use Rattle.std.specs.Option.{option_copied, unwrap_or}
use Rattle.tau_base.specs.declared.value.Value.{Value}
use Rattle.tau_base.specs.declared.value.Value.TheVariants.{Absent}
use Rattle.tau_base.specs.declared.value.Mode.TheVariants as mode
use Rattle.tau_proc.specs.Progress.{next_want}
use Rattle.tau_machine.specs.Hands.{hold}
use Rattle.tau_shard.specs.Shard.{Shard, entry_in}
use Rattle.tau_shard.specs.Blocks.{dep_locked}
use Rattle.tau_shard.specs.Read.{shard_of}
use Rattle.tau_txn.specs.Hand.{PlainHand}
use Rattle.tau_txn.specs.Progress.{IsRun, IsRunBy}
use Rattle.tau_txn.specs.Read.{hand_of}
use Rattle.tau_txn.specs.Steps.{locked_with}
use Rattle.tau_txn.proofs.Granted.{with_dep, locked_from}
use Rattle.tau_txn.proofs.Locks.{runs_same, runs_locked}
use Rattle.tau_txn.proofs.hand.Hand.read_on.Goals as goal

pub see-requires-clause-run : goal.see-requires-clause-run
see-requires-clause-run c =
    subst (λ (h : PlainHand). IsRun (record h { dep = c.lock_key.new.dep })) (sym c.self.view_is)
    (record { procs = c.requires.run.procs; is = with_dep c.requires.run.procs c.args.self.now c.lock_key.new.dep c.requires.run.is c.requires.running })

pub see-requires-clause-running : goal.see-requires-clause-running
see-requires-clause-running c = ap (λ (h : PlainHand). h.standing) c.self.view_is ∙ c.requires.running

pub see-requires-clause-wanted : goal.see-requires-clause-wanted
see-requires-clause-wanted c = ap (λ (h : PlainHand). next_want h.machine) c.self.view_is ∙ c.requires.wanted

pub returns-in-Ok-clause-step : goal.returns-in-Ok-clause-step
returns-in-Ok-clause-step c =
    let sh : Shard = shard_of c.args.shard.now in
    let dep : List ℕ = c.lock_key.new.dep in
    let raised : dep ≡ dep_locked mode.Read c.args.self.now.dep (entry_in sh c.args.key) = c.in-Ok.ensures.joined ∙ ap (λ (h : PlainHand). dep_locked mode.Read h.dep (entry_in sh c.args.key)) c.self.view_is in
    let row : Value = unwrap_or (option_copied c.row.result) Absent in
    let row_is : row ≡ sh.rows c.args.key = c.row.ensures ∙ ap (λ (t : Shard). t.rows c.args.key) c.in-Ok.ensures.locked in
    record {
      locked = c.in-Ok.ensures.locked;
      free = c.in-Ok.ensures.free;
      is = λ procs n.
          c.see.ensures.locked procs n
          ∙ subst (λ (h : PlainHand). locked_with (hand_of procs n (record h { dep = dep })) c.args.key mode.Read row dep ≡ locked_with (hand_of procs n c.args.self.now) c.args.key mode.Read row dep) (sym c.self.view_is)
          (locked_from procs n c.args.self.now dep dep c.args.key mode.Read row c.requires.running)
          ∙ (λ i. locked_with (hand_of procs n c.args.self.now) c.args.key mode.Read (row_is i) (raised i));
    }

pub returns-in-Ok-clause-runs : goal.returns-in-Ok-clause-runs
returns-in-Ok-clause-runs c =
    let sh : Shard = shard_of c.args.shard.now in
    let dep : List ℕ = c.lock_key.new.dep in
    let new : PlainHand = c.see.new.self in
    let raised : dep ≡ dep_locked mode.Read c.args.self.now.dep (entry_in sh c.args.key) = c.in-Ok.ensures.joined ∙ ap (λ (h : PlainHand). dep_locked mode.Read h.dep (entry_in sh c.args.key)) c.self.view_is in
    let same : new ≡ record c.args.self.now { machine = new.machine; held = hold c.args.key mode.Read c.args.self.now.held; seen = new.seen; dep = dep_locked mode.Read c.args.self.now.dep (entry_in sh c.args.key) } =
    c.see.ensures.same
    ∙ ap (λ (h : PlainHand). record h { machine = new.machine; held = hold c.args.key mode.Read h.held; seen = new.seen; dep = dep }) c.self.view_is
    ∙ ap (λ (d : List ℕ). record c.args.self.now { machine = new.machine; held = hold c.args.key mode.Read c.args.self.now.held; seen = new.seen; dep = d }) raised in
    runs_locked (dep_locked mode.Read c.args.self.now.dep (entry_in sh c.args.key)) c.args.self.now new c.args.key mode.Read same c.requires.running
    (λ procs is. c.see.ensures.runs procs (subst (λ (h : PlainHand). IsRunBy procs (record h { dep = dep })) (sym c.self.view_is) (with_dep procs c.args.self.now dep is c.requires.running)))

pub returns-in-Err-clause-same : goal.returns-in-Err-clause-same
returns-in-Err-clause-same c =
    subst (λ (h : PlainHand). record h { dep = c.lock_key.new.dep } ≡ c.args.self.now) (sym c.self.view_is)
    (ap (λ (d : List ℕ). record c.args.self.now { dep = d }) (c.in-Err.ensures.dep_unchanged ∙ ap (λ (h : PlainHand). h.dep) c.self.view_is))

pub returns-in-Err-clause-runs : goal.returns-in-Err-clause-runs
returns-in-Err-clause-runs c =
    runs_same _ c.args.self.now _ c.requires.running
    (subst (λ (h : PlainHand). record h { dep = c.lock_key.new.dep } ≡ c.args.self.now) (sym c.self.view_is)
    (ap (λ (d : List ℕ). record c.args.self.now { dep = d }) (c.in-Err.ensures.dep_unchanged ∙ ap (λ (h : PlainHand). h.dep) c.self.view_is)))
