use Rattle.std.proofs.Common.{ℕ, ◌≡◌, ◌∙◌, List, ap, subst}
use Rattle.tau_stream.specs.Stream.{catalogue_record}
use Rattle.tau_open.specs.Opening.{AreOpened}
use Rattle.tau_run.specs.Start.{catalogue_of}
use Rattle.tau_crew_runs.proofs.Openings.{are_new}
use Rattle.tau_crew_runs.proofs.streams.created.Goals as goal

pub returns-in-Ok-open_streams-clause-fresh : goal.returns-in-Ok-open_streams-clause-fresh
returns-in-Ok-open_streams-clause-fresh c =
    let is : catalogue_record c.deref.result.now ≡ catalogue_of c.args.load.now = ap catalogue_record (c.deref.ensures.value ∙ c.in-Ok.ensures) in
    are_new 2 c.args.load.now c.in_ok-disks.disks.items c.open_streams.new.disks.items c.in-Ok-open_streams.writers.items
    (subst (λ (text : List ℕ). AreOpened _ 2 text c.in_ok-disks.disks.items c.open_streams.new.disks.items c.in-Ok-open_streams.writers.items) is c.in-Ok-open_streams.ensures.opened)
