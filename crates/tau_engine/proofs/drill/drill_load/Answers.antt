use Rattle.std.proofs.Common.{ℕ, List, sym, subst}
use Rattle.tau_disk.specs.contracts.memory.MemDiskDisk.TheImpl.{ghosts}
use Rattle.tau_engine.specs.Drill.{IsDrill}
use Rattle.tau_engine.proofs.drill.drill_load.Goals as goal

-- the sink took a first part of what the drill wrote
pub returns-clause-told : goal.returns-clause-told
returns-clause-told g c =
    let cut = c.in-Err-write_all.ensures.err in
    (c.bytes.result.now, cut.0, subst (λ (text : List ℕ). IsDrill ghosts c.args.streams c.args.workers c.args.ending c.args.load.now text) (sym c.bytes.ensures) c.in-Ok-drill_by.ensures, cut.1, cut.2)
