-- Other hands with nothing in flight.
use Rattle.std.proofs.Common.{refl, ap, length, ◌∙◌}
use Rattle.std.specs.Prelude.{Option, None}
use Rattle.std.proofs.lemmas.List.{length-replicate}
use Rattle.tau_pool.specs.declared.item.Job.{Job}
use Rattle.tau_replay.specs.declared.view.TheConstants.{HANDS}
use Rattle.tau_replay.proofs.Settled.{working_begins}
use Rattle.tau_replay.proofs.threads.spread.Goals as goal

pub returns-clause-working : goal.returns-clause-working
returns-clause-working c = working_begins c.args.log.now c.args.replay _ c.requires.sound c.requires.idle refl refl c.requires.hands (ap length c.requires.hands ∙ length-replicate {A = Option Job} HANDS None)
