-- Other hands with nothing in flight.
use Rattle.std.proofs.Common.{refl, ap, length, ◌∙◌}
use Rattle.std.specs.Prelude.{Option, None}
use Rattle.std.proofs.lemmas.List.{length-replicate}
use Rattle.tau_pool.specs.declared.item.Job.{Job}
use Rattle.tau_replay.proofs.Settled.{working_ends}
use Rattle.tau_replay.proofs.threads.gather.Goals as goal

pub returns : goal.returns
returns c = record { sound = working_ends c.args.log.now c.args.replay _ c.requires.working c.requires.calm refl refl c.requires.hands (ap length c.requires.hands ∙ length-replicate {A = Option Job} 16 None) }
