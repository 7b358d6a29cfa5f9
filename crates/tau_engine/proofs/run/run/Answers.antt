use Rattle.std.proofs.Common.{ℕ, ◌≡◌, List, length, ap, refl, subst, ◌∙◌, arith, rules}
use Rattle.tau_base.specs.declared.format.Format.{Format}
use Rattle.tau_base.specs.Modes.{format_of}
use Rattle.tau_text.specs.Canonical.{declarations_text}
use Rattle.tau_run.specs.Start.{opened_at}
use Rattle.tau_run.proofs.Sources.{catalogue_load}
use Rattle.tau_begin.specs.Opened.{IsOpenRun, RefusesRun}
use Rattle.tau_commands.specs.declared.status.Status.TheVariants as status
use Rattle.tau_engine.proofs.RefusedOpening.{says_refused}
use Rattle.tau_engine.proofs.RunClauses.{untouched}
use Rattle.tau_engine.proofs.OnOpened as on
use Rattle.tau_engine.proofs.AfterOpening.{says_run}
use Rattle.tau_engine.proofs.Loaded.{sound_of}
use Rattle.tau_engine.proofs.run.run.Goals as goal

pub open_run-requires-clause-short : goal.open_run-requires-clause-short
open_run-requires-clause-short g c =
    let fits = (catalogue_load c.requires.meant.0 c.args.load.now c.requires.meant.1).short in
    let same : length c.deref.result.now ≡ length (declarations_text c.args.load.now.declarations) = ap length (c.deref.ensures.value ∙ c.in-Ok.ensures) in
    omega (arith, fits, same)

pub run_on-requires-clause-fits : goal.run_on-requires-clause-fits
run_on-requires-clause-fits g c κs within =
    let is : c.deref.result.now ≡ declarations_text c.args.load.now.declarations = c.deref.ensures.value ∙ c.in-Ok.ensures in
    let run = subst (λ (f : Format). IsOpenRun g.D.Disk f c.args.choice.streams (declarations_text c.args.load.now.declarations) c.args.disks.now.items c.open_run.new.disks.items c.in-Ok-open_run.opening c.in-Ok-open_run.writers.items) c.format_of.ensures
    (subst (λ (text : List ℕ). IsOpenRun g.D.Disk c.format_of.result c.args.choice.streams text c.args.disks.now.items c.open_run.new.disks.items c.in-Ok-open_run.opening c.in-Ok-open_run.writers.items) is c.in-Ok-open_run.ensures.opened) in
    on.opening_fits g.D.Disk (format_of c.args.choice.mode) c.args.choice.streams c.args.load.now c.args.disks.now.items (search rules) run.sizes run.starts run.begun c.in-Ok-open_run.opening run.opening

pub run_on-requires-clause-begun : goal.run_on-requires-clause-begun
run_on-requires-clause-begun g c κs within =
    let is : c.deref.result.now ≡ declarations_text c.args.load.now.declarations = c.deref.ensures.value ∙ c.in-Ok.ensures in
    let run = subst (λ (f : Format). IsOpenRun g.D.Disk f c.args.choice.streams (declarations_text c.args.load.now.declarations) c.args.disks.now.items c.open_run.new.disks.items c.in-Ok-open_run.opening c.in-Ok-open_run.writers.items) c.format_of.ensures
    (subst (λ (text : List ℕ). IsOpenRun g.D.Disk c.format_of.result c.args.choice.streams text c.args.disks.now.items c.open_run.new.disks.items c.in-Ok-open_run.opening c.in-Ok-open_run.writers.items) is c.in-Ok-open_run.ensures.opened) in (
      opened_at c.args.load.now (on.start g.D.Disk (format_of c.args.choice.mode) c.args.choice.streams c.args.load.now c.args.disks.now.items (search rules) run.sizes run.starts run.begun),
      on.writers_begun g.D.Disk (format_of c.args.choice.mode) c.args.choice.streams c.args.load.now c.args.disks.now.items (search rules) run.sizes run.starts run.begun c.in-Ok-open_run.opening run.opening c.in-Ok-open_run.writers.items run.count run.writers,
    )

pub returns-clause-says : goal.returns-clause-says
returns-clause-says g c =
    let is : c.deref.result.now ≡ declarations_text c.args.load.now.declarations = c.deref.ensures.value ∙ c.in-Ok.ensures in
    let run = subst (λ (f : Format). IsOpenRun g.D.Disk f c.args.choice.streams (declarations_text c.args.load.now.declarations) c.args.disks.now.items c.open_run.new.disks.items c.in-Ok-open_run.opening c.in-Ok-open_run.writers.items) c.format_of.ensures
    (subst (λ (text : List ℕ). IsOpenRun g.D.Disk c.format_of.result c.args.choice.streams text c.args.disks.now.items c.open_run.new.disks.items c.in-Ok-open_run.opening c.in-Ok-open_run.writers.items) is c.in-Ok-open_run.ensures.opened) in
    says_run {D = g.row.D.Denot} {G = g.D.Disk} (g.met.D.Disk g.world.𝓛 g.world.𝓜 g.world.𝓡 ((λ s x. x), (λ x. x), (λ x. x), λ x. x)).only_now c.args.choice c.args.load.now c.requires.streams_low c.requires.streams_high c.requires.low
    (sound_of c.requires.meant.0 c.args.load.now c.requires.meant.1 c.requires.runnable) c.args.disks.now.items c.open_run.new.disks.items (search rules) c.in-Ok-open_run.opening c.in-Ok-open_run.writers.items run
    (record { hears = g.K.Sink.tells; held = g.K.Sink.held c.args.sink.now; held' = g.K.Sink.held c.run_on.new.sink; faults = g.K.Sink.faults c.args.sink.now; faults' = g.K.Sink.faults c.run_on.new.sink }) c.run_on.new.disks.items c.run_on.result
    (c.run_on.ensures.ran (opened_at c.args.load.now (on.start g.D.Disk (format_of c.args.choice.mode) c.args.choice.streams c.args.load.now c.args.disks.now.items (search rules) run.sizes run.starts run.begun))
    (on.writers_begun g.D.Disk (format_of c.args.choice.mode) c.args.choice.streams c.args.load.now c.args.disks.now.items (search rules) run.sizes run.starts run.begun c.in-Ok-open_run.opening run.opening c.in-Ok-open_run.writers.items run.count run.writers))

pub returns-in-Err-clause-says : goal.returns-in-Err-clause-says
returns-in-Err-clause-says g c =
    let is : c.deref.result.now ≡ declarations_text c.args.load.now.declarations = c.deref.ensures.value ∙ c.in-Ok.ensures in
    let refused = subst (λ (f : Format). RefusesRun g.D.Disk f c.args.choice.streams (declarations_text c.args.load.now.declarations) c.args.disks.now.items c.open_run.new.disks.items c.in-Err.refusal) c.format_of.ensures
    (subst (λ (text : List ℕ). RefusesRun g.D.Disk c.format_of.result c.args.choice.streams text c.args.disks.now.items c.open_run.new.disks.items c.in-Err.refusal) is c.in-Err.ensures.refused) in
    says_refused g.D.Disk (g.met.D.Disk g.world.𝓛 g.world.𝓜 g.world.𝓡 ((λ s x. x), (λ x. x), (λ x. x), λ x. x)).only_now c.args.choice c.args.load.now c.requires.streams_low c.requires.streams_high c.requires.low
    (sound_of c.requires.meant.0 c.args.load.now c.requires.meant.1 c.requires.runnable) c.args.disks.now.items c.open_run.new.disks.items (search rules) c.in-Err.ensures.rest
    (record { hears = g.K.Sink.tells; held = g.K.Sink.held c.args.sink.now; held' = g.K.Sink.held c.refuse_scan.new.sink; faults = g.K.Sink.faults c.args.sink.now; faults' = g.K.Sink.faults c.refuse_scan.new.sink })
    c.in-Err.refusal refused c.refuse_scan.result
    c.refuse_scan.ensures

pub returns-in_default-clause-says : goal.returns-in_default-clause-says
returns-in_default-clause-says g c =
    untouched g.D.Disk (g.met.D.Disk g.world.𝓛 g.world.𝓜 g.world.𝓡 ((λ s x. x), (λ x. x), (λ x. x), λ x. x)).only_now c.args.choice c.args.load.now c.args.disks.now.items
    (record { hears = g.K.Sink.tells; held = g.K.Sink.held c.args.sink.now; held' = g.K.Sink.held c.args.sink.now; faults = g.K.Sink.faults c.args.sink.now; faults' = g.K.Sink.faults c.args.sink.now }) status.NoMemory refl (λ e t. search rules)
