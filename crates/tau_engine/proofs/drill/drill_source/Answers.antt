use Rattle.std.proofs.Common.{refl, subst}
use Rattle.tau_disk.specs.contracts.memory.MemDiskDisk.TheImpl.{ghosts}
use Rattle.tau_text.specs.declared.load.Workload.{Workload}
use Rattle.tau_engine.specs.Drill.{DrillTells, with_turns}
use Rattle.tau_commands.specs.Outside.{Wrote}
use Rattle.tau_commands.specs.declared.status.Status.TheVariants as status
use Rattle.tau_commands.proofs.Ends.{rehearsal_ends, rehearses_well, no_refusal}
use Rattle.tau_engine.proofs.Tops.{same_load}
use Rattle.tau_engine.proofs.drill.drill_source.Goals as goal

pub returns-in-Ok-clause-told : goal.returns-in-Ok-clause-told
returns-in-Ok-clause-told g c tells load has =
    subst (λ (l : Workload). DrillTells ghosts c.args.streams c.args.workers c.args.ending (with_turns l) (Wrote g.K.Sink.tells (g.K.Sink.held c.args.sink.now) (g.K.Sink.held c.drill.new.sink)) c.drill.result)
    (same_load (g.S.Source.left c.args.source.now) c.in-Ok.load load (c.in-Ok.ensures.load tells) has) c.drill.ensures.told

pub returns-in-Ok-clause-done : goal.returns-in-Ok-clause-done
returns-in-Ok-clause-done g c tells load has no_source no_sink = rehearses_well c.drill.result c.drill.ensures.kind (λ e. no_sink (c.drill.ensures.write_fault e))

pub returns-in-Ok-clause-read_fault : goal.returns-in-Ok-clause-read_fault
returns-in-Ok-clause-read_fault g c e = rehearsal_ends c.drill.result status.ReadFault c.drill.ensures.kind refl e

pub returns-in-Ok-clause-too_long : goal.returns-in-Ok-clause-too_long
returns-in-Ok-clause-too_long g c e = rehearsal_ends c.drill.result status.TooLong c.drill.ensures.kind refl e

pub returns-in-Ok-clause-bad_text : goal.returns-in-Ok-clause-bad_text
returns-in-Ok-clause-bad_text g c line why e = rehearsal_ends c.drill.result (status.BadText line why) c.drill.ensures.kind refl e

pub returns-in-Ok-clause-refusal : goal.returns-in-Ok-clause-refusal
returns-in-Ok-clause-refusal g c e = absurd (no_refusal c.drill.result c.drill.ensures.kind e)
