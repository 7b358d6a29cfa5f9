use Rattle.std.proofs.Common.{◌<◌, subst}
use Rattle.tau_core.specs.declared.state.Load.{Load}
use Rattle.tau_crew.proofs.ending_done.is_told.Goals as goal

pub covered-covered-requires : goal.covered-covered-requires
covered-covered-requires c =
    let back = c.requires.head.workers c.args.worker (subst (λ (l : Load). c.args.worker < l.workers) c.args.desk.now.same_load c.requires.there) in
    record { there = (back.work, back.there) }
