use Rattle.std.proofs.Common.{ℕ, ◌≡◌, List, refl, ap, subst, ◌∙◌, arith}
use Rattle.tau_base.specs.declared.format.Format.TheVariants.{One}
use Rattle.tau_stream.specs.Stream.{catalogue_record}
use Rattle.tau_open.specs.Opening.{AreOpened}
use Rattle.tau_run.specs.Start.{catalogue_of}
use Rattle.tau_engine.proofs.Opened.{are_new}
use Rattle.tau_commands.proofs.Oks.{if_ok}
use Rattle.tau_engine.proofs.Rehearsed.{measured_on}
use Rattle.tau_engine.proofs.bench.play.Goals as goal

pub play_on-requires-clause-fresh : goal.play_on-requires-clause-fresh
play_on-requires-clause-fresh g c κs within =
    let is : catalogue_record c.deref.result.now ≡ catalogue_of c.args.load.now = ap catalogue_record (c.deref.ensures.value ∙ c.in_ok-catalogue.ensures) in
    are_new {D = g.row.D.Denot} {G = g.D.Disk} c.args.job.streams c.args.load.now c.args.disks.now.items c.open_streams.new.disks.items c.in-Ok.writers.items
    (subst (λ (text : List ℕ). AreOpened g.D.Disk c.args.job.streams text c.args.disks.now.items c.open_streams.new.disks.items c.in-Ok.writers.items) is c.in-Ok.ensures.opened)
    One refl

pub returns-in-Ok-clause-told : goal.returns-in-Ok-clause-told
returns-in-Ok-clause-told g c =
    let is : catalogue_record c.deref.result.now ≡ catalogue_of c.args.load.now = ap catalogue_record (c.deref.ensures.value ∙ c.in_ok-catalogue.ensures) in
    let many = c.requires.count in
    if_ok c.play_on.result
    (λ rows p. measured_on {D = g.row.D.Denot} {G = g.D.Disk} (g.met.D.Disk g.world.𝓛 g.world.𝓜 g.world.𝓡 ((λ s x. x), (λ x. x), (λ x. x), λ x. x)).only_now c.args.job.streams c.args.job.workers c.args.load.now c.requires.streams_high c.requires.sound c.args.disks.now.items c.open_streams.new.disks.items c.play_on.new.disks.items (omega (arith, many)) c.in-Ok.writers.items
    (subst (λ (text : List ℕ). AreOpened g.D.Disk c.args.job.streams text c.args.disks.now.items c.open_streams.new.disks.items c.in-Ok.writers.items) is c.in-Ok.ensures.opened)
    c.requires.tells g.K.Sink.tells (g.K.Sink.held c.args.sink.now) (g.K.Sink.held c.play_on.new.sink) _ rows p)
    c.play_on.ensures.ran
