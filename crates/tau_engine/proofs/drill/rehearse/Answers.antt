use Rattle.std.proofs.Common.{ℕ, ◌≡◌, ◌<◌, List, refl, ap, subst, ◌∙◌, arith}
use Rattle.std.specs.Prelude.{Err}
use Rattle.tau_base.specs.declared.format.Format.TheVariants.{One}
use Rattle.tau_stream.specs.Stream.{catalogue_record}
use Rattle.tau_disk.specs.Used.{EachIn}
use Rattle.tau_open.specs.Opening.{AreOpened, Begins, Refuses}
use Rattle.tau_open.specs.declared.refusal.OpenRefusal.TheVariants.{Failed}
use Rattle.tau_run.specs.Start.{catalogue_of}
use Rattle.tau_engine.proofs.Opened.{are_new}
use Rattle.tau_commands.proofs.Oks.{on_ok}
use Rattle.tau_engine.proofs.Rehearsed.{rehearsed_on, rehearsed_none}
use Rattle.tau_engine.proofs.drill.rehearse.Goals as goal

pub play_on-requires-clause-fresh : goal.play_on-requires-clause-fresh
play_on-requires-clause-fresh g c =
    let is : catalogue_record c.deref.result.now ≡ catalogue_of c.args.load.now = ap catalogue_record (c.deref.ensures.value ∙ c.in_ok-catalogue.ensures) in
    are_new {D = g.row.D.Denot} {G = g.D.Disk} c.args.streams c.args.load.now c.args.disks.now.items c.open_streams.new.disks.items c.in-Ok.writers.items
    (subst (λ (text : List ℕ). AreOpened g.D.Disk c.args.streams text c.args.disks.now.items c.open_streams.new.disks.items c.in-Ok.writers.items) is c.in-Ok.ensures.opened)
    One refl

pub returns-in-Ok-clause-told : goal.returns-in-Ok-clause-told
returns-in-Ok-clause-told g c =
    let is : catalogue_record c.deref.result.now ≡ catalogue_of c.args.load.now = ap catalogue_record (c.deref.ensures.value ∙ c.in_ok-catalogue.ensures) in
    let many = c.requires.count in
    on_ok c.play_on.result
    (λ p. rehearsed_on {D = g.row.D.Denot} {G = g.D.Disk} g.met.D.Disk.only_now c.args.streams c.args.workers c.args.load.now c.requires.streams_high c.requires.sound c.args.disks.now.items c.open_streams.new.disks.items c.play_on.new.disks.items (omega (arith, many)) c.in-Ok.writers.items
    (subst (λ (text : List ℕ). AreOpened g.D.Disk c.args.streams text c.args.disks.now.items c.open_streams.new.disks.items c.in-Ok.writers.items) is c.in-Ok.ensures.opened)
    c.requires.tells g.K.Sink.tells (g.K.Sink.held c.args.sink.now) (g.K.Sink.held c.play_on.new.sink) _ p g.met.D.Disk.leaves_each)
    c.play_on.ensures.ran

pub returns-in-Err-Failed-clause-told : goal.returns-in-Err-Failed-clause-told
returns-in-Err-Failed-clause-told g c =
    let is : catalogue_record c.deref.result.now ≡ catalogue_of c.args.load.now = ap catalogue_record (c.deref.ensures.value ∙ c.in_ok-catalogue.ensures) in
    let failed = c.open_streams.ensures.failed c.in-Err-Failed.field-0-0 (c.in-Err-Failed.is ∙ ap Err c.in-Err-Failed.field-0-is) in
    let first = c.open_streams.ensures.failed_first c.in-Err-Failed.field-0-0 (c.in-Err-Failed.is ∙ ap Err c.in-Err-Failed.field-0-is) c.requires.tells in
    let refused = subst (λ r. Refuses g.D.Disk c.args.streams (catalogue_record c.deref.result.now) c.args.disks.now.items c.open_streams.new.disks.items r) c.in-Err-Failed.field-0-is c.in-Err-Failed.ensures.refused in
    let early = c.open_streams.ensures.failed_early c.in-Err-Failed.field-0-0 (c.in-Err-Failed.is ∙ ap Err c.in-Err-Failed.field-0-is) c.requires.tells in
    rehearsed_none {D = g.row.D.Denot} g.D.Disk g.met.D.Disk.only_now g.met.D.Disk.counts_now c.args.streams c.args.workers c.args.load.now c.requires.streams_low c.requires.streams_high c.requires.low c.requires.sound c.args.disks.now.items c.open_streams.new.disks.items
    c.requires.tells c.requires.unborn
    (subst (λ (text : List ℕ). EachIn (λ j. j < c.args.streams) (Begins g.D.Disk c.args.streams text) c.args.disks.now.items c.open_streams.new.disks.items) is c.in-Err-Failed.ensures.begins)
    g.K.Sink.tells (g.K.Sink.held c.args.sink.now) c.in-Err-Failed.field-0-0 failed.0 first early.0 early.1 early.2
    (subst (λ (text : List ℕ). Refuses g.D.Disk c.args.streams text c.args.disks.now.items c.open_streams.new.disks.items (Failed c.in-Err-Failed.field-0-0)) is refused)
