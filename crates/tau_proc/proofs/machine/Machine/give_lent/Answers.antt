use Rattle.std.proofs.Common.{◌≡◌, []}
use Rattle.tau_proc.proofs.Walk.{keeps_put}
use Rattle.tau_proc.proofs.machine.Machine.give_lent.Goals as goal

pub invariant_of-self-in-Some : goal.invariant_of-self-in-Some
invariant_of-self-in-Some c =
    let nothing : (c.self.inside.running.writes ≡ []) × (c.self.inside.steps ≡ []) = rw (c.in-Row.is, c.in-Add.is) at c.self.invariant.1 in
    (rw c.put.ensures (keeps_put c.self.inside.args.items c.self.inside.steps c.self.inside.done c.self.inside.running c.in-Row.key _ c.self.invariant.0 nothing.0 nothing.1), tt)
