use Rattle.std.proofs.Common.{sym, ap, subst, ◌∙◌}
use Rattle.std.specs.Prelude.{Some, OnOk, IfErr}
use Rattle.tau_base.specs.declared.value.Mode.{Mode}
use Rattle.tau_proc.specs.Progress.{next_want}
use Rattle.tau_shard.specs.Shard.{entry_in}
use Rattle.tau_shard.specs.Blocks.{RefusedBy, dep_locked}
use Rattle.tau_shard.specs.Read.{shard_of}
use Rattle.tau_txn.specs.Locked.{HandLocked, RunsOn}
use Rattle.tau_txn.proofs.Locks.{wants_read, wants_write}
use Rattle.tau_txn.proofs.hand.Hand.lock_on.Goals as goal

pub read_on-requires-clause-wanted : goal.read_on-requires-clause-wanted
read_on-requires-clause-wanted c = wants_read (next_want c.args.self.now.machine) c.args.key (c.requires.wanted ∙ ap (λ (m : Mode). Some (c.args.key, m)) c.in-Read.is)

pub returns-in-Read-clause-step : goal.returns-in-Read-clause-step
returns-in-Read-clause-step c = subst (λ (m : Mode). OnOk c.read_on.result (HandLocked c.args.worker c.args.key m (shard_of c.args.shard.now) (shard_of c.read_on.new.shard) c.args.self.now c.read_on.new.self)) (sym c.in-Read.is) c.read_on.ensures.step

pub returns-in-Read-clause-runs : goal.returns-in-Read-clause-runs
returns-in-Read-clause-runs c = subst (λ (m : Mode). RunsOn (dep_locked m c.args.self.now.dep (entry_in (shard_of c.args.shard.now) c.args.key)) c.args.self.now c.read_on.new.self) (sym c.in-Read.is) c.read_on.ensures.runs

pub returns-in-Read-clause-refused : goal.returns-in-Read-clause-refused
returns-in-Read-clause-refused c = subst (λ (m : Mode). IfErr c.read_on.result (λ e. RefusedBy (entry_in (shard_of c.args.shard.now) c.args.key) c.args.worker m e)) (sym c.in-Read.is) c.read_on.ensures.refused

pub write_on-requires-clause-wanted : goal.write_on-requires-clause-wanted
write_on-requires-clause-wanted c = wants_write (next_want c.args.self.now.machine) c.args.key (c.requires.wanted ∙ ap (λ (m : Mode). Some (c.args.key, m)) c.in-Write.is)

pub returns-in-Write-clause-step : goal.returns-in-Write-clause-step
returns-in-Write-clause-step c = subst (λ (m : Mode). OnOk c.write_on.result (HandLocked c.args.worker c.args.key m (shard_of c.args.shard.now) (shard_of c.write_on.new.shard) c.args.self.now c.write_on.new.self)) (sym c.in-Write.is) c.write_on.ensures.step

pub returns-in-Write-clause-runs : goal.returns-in-Write-clause-runs
returns-in-Write-clause-runs c = subst (λ (m : Mode). RunsOn (dep_locked m c.args.self.now.dep (entry_in (shard_of c.args.shard.now) c.args.key)) c.args.self.now c.write_on.new.self) (sym c.in-Write.is) c.write_on.ensures.runs

pub returns-in-Write-clause-refused : goal.returns-in-Write-clause-refused
returns-in-Write-clause-refused c = subst (λ (m : Mode). IfErr c.write_on.result (λ e. RefusedBy (entry_in (shard_of c.args.shard.now) c.args.key) c.args.worker m e)) (sym c.in-Write.is) c.write_on.ensures.refused
