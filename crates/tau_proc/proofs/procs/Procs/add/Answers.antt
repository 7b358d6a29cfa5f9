use Rattle.std.proofs.Common.{Bool, true, false, cond, [], ◌∷◌, ◌++◌}
use Rattle.std.specs.Prelude.{is_ok}
use Rattle.tau_proc.specs.Limits.{KeepsLimits}
use Rattle.tau_proc.proofs.Kept.{keeps_push}
use Rattle.tau_proc.proofs.procs.Procs.add.Goals as goal

pub invariant_of-self : goal.invariant_of-self
invariant_of-self c = rw c.push.ensures.items (both (is_ok c.push.result))
  where
    both : (b : Bool) → KeepsLimits (cond b (c.self.inside.list.items ++ c.args.proc ∷ []) c.self.inside.list.items)
    both true = keeps_push c.self.inside.list.items c.args.proc c.self.invariant (rw c.self.view_is c.requires.room) c.requires.well_formed
    both false = c.self.invariant
