use Rattle.std.proofs.Common.{◌≡◌, ◌∙◌, ap, subst}
use Rattle.tau_stream.specs.Stream.{catalogue_record}
use Rattle.tau_open.specs.Opening.{AreOpened}
use Rattle.tau_run.specs.Start.{catalogue_of}
use Rattle.tau_step.proofs.Ordered.{are_new}
use Rattle.tau_step.proofs.device.streams_of.Goals as goal

pub returns-in-Ok-clause-new : goal.returns-in-Ok-clause-new
returns-in-Ok-clause-new c = λ f.
    let is : catalogue_record c.deref.result.now ≡ catalogue_of c.args.load.now = ap catalogue_record (c.deref.ensures.value ∙ c.in_ok-catalogue.ensures) in
    are_new c.args.n c.args.load.now c.in_ok-disks.disks.items c.open_streams.new.disks.items c.in-Ok.writers.items
    (subst (λ text. AreOpened _ c.args.n text c.in_ok-disks.disks.items c.open_streams.new.disks.items c.in-Ok.writers.items) is c.in-Ok.ensures.opened)
    f (λ (t : ⊥). absurd t)
