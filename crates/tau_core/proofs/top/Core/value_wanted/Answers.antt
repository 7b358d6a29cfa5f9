use Rattle.std.proofs.Common.{ap, subst, ◌∙◌}
use Rattle.tau_base.specs.declared.value.Key.{Key}
use Rattle.tau_base.specs.Shards.{shard_number}
use Rattle.tau_machine.specs.Events.{ready}
use Rattle.tau_core.specs.View.{setting_of, core_of}
use Rattle.tau_core.specs.NextLock.{TellsLock}
use Rattle.tau_core.proofs.Told.{same_key, at_locking}
use Rattle.tau_core.proofs.top.Core.value_wanted.Goals as goal

pub returns-in-Some : goal.returns-in-Some
returns-in-Some c = λ K h g r at.
    c.value.ensures K h g ∙ ap (λ (x : Key). ((core_of c.args.self.now h).shards (shard_number x)).rows x)
    (same_key c.args.self.now.load.procs (ready (setting_of c.args.self.now.load) (core_of c.args.self.now h) c.args.worker).hand _ r (subst (TellsLock c.args.self.now h c.args.worker) c.in-Some.is (c.next_lock.ensures K h g)) at)

pub returns-in-None : goal.returns-in-None
returns-in-None c = λ K h g r at.
    absurd (subst (TellsLock c.args.self.now h c.args.worker) c.in-None.is (c.next_lock.ensures K h g)
    (at_locking c.args.self.now.load.procs (ready (setting_of c.args.self.now.load) (core_of c.args.self.now h) c.args.worker).hand r at))
