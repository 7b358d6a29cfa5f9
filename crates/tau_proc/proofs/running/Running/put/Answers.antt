use Rattle.tau_proc.proofs.Ascending.{keeps_put}
use Rattle.tau_proc.proofs.running.Running.put.Goals as goal

pub invariant_of-self : goal.invariant_of-self
invariant_of-self c = (c.self.invariant.0, rw c.write.ensures (keeps_put c.args.key _ c.self.inside.writes.items c.self.invariant.1), c.self.invariant.2)
