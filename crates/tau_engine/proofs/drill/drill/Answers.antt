use Rattle.tau_engine.proofs.Drilling.{sound_turns}
use Rattle.tau_engine.proofs.Loaded.{sound_of}
use Rattle.tau_engine.proofs.drill.drill.Goals as goal

pub drill_load-status-requires-clause-sound : goal.drill_load-status-requires-clause-sound
drill_load-status-requires-clause-sound g c κs within = sound_turns c.args.load _ c.with_turns-load.ensures (sound_of c.requires.meant.0 c.args.load c.requires.meant.1 c.requires.runnable)

pub returns-clause-told : goal.returns-clause-told
returns-clause-told g c = rw c.with_turns-load.ensures at c.drill_load-status.ensures.told
