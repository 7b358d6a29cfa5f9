use Rattle.std.proofs.Common.{ℕ, ◌≡◌, inr, length, refl, subst, arith}
use Rattle.std.proofs.lemmas.Result.{err_from_is_err_and}
use Rattle.tau_disk.specs.Disk.{Rose}
use Rattle.tau_text.specs.Canonical.{declarations_text}
use Rattle.tau_core.specs.Opens.{OpenedFresh, catalogue_size}
use Rattle.tau_occ.specs.declared.style.Style.{Style}
use Rattle.tau_occ.specs.declared.style.Style.TheVariants.{Locking}
use Rattle.tau_run.specs.Gives.{GaveNew}
use Rattle.tau_run.specs.Start.{catalogue_of}
use Rattle.tau_run.proofs.Begun.{fresh_begun, fresh_there, gave_new}
use Rattle.tau_crew_facts.specs.Threads.{lasting}
use Rattle.tau_crew.proofs.Tops.{threads_plain}
use Rattle.tau_crew.proofs.top.run_threads.Goals as goal

pub go-requires-clause-begun : goal.go-requires-clause-begun
go-requires-clause-begun g c κs within =
    let long : c.len.result ≡ length c.args.writers.now.items = omega (arith, c.len.ensures) in
    let opened = subst (λ (n : ℕ). OpenedFresh c.args.load.now.declarations.procs c.args.load.now.calls c.args.mode c.args.workers n (catalogue_size (declarations_text c.args.load.now.declarations)) c.in_ok-desk.desk.table.shared.key.value) long c.in_ok-desk.ensures.0 in
    (λ j. catalogue_of c.args.load.now, (fresh_begun c.args.workers c.args.mode c.args.load.now c.args.writers.now.items c.args.writers.now.items g.K.Sink.tells (g.K.Sink.held c.args.sink.now) (g.K.Sink.held c.args.sink.now) (Rose (g.K.Sink.faults c.args.sink.now) (g.K.Sink.faults c.args.sink.now)) c.in_ok-desk.desk.table.shared.key.value opened c.requires.fresh))

pub returns-clause-lasts : goal.returns-clause-lasts
returns-clause-lasts g c =
    let long : c.len.result ≡ length c.args.writers.now.items = omega (arith, c.len.ensures) in
    let opened = subst (λ (n : ℕ). OpenedFresh c.args.load.now.declarations.procs c.args.load.now.calls c.args.mode c.args.workers n (catalogue_size (declarations_text c.args.load.now.declarations)) c.in_ok-desk.desk.table.shared.key.value) long c.in_ok-desk.ensures.0 in
    subst (λ (s : Style). GaveNew (lasting s c.go.new.writers.items) c.args.workers c.args.mode c.args.load.now c.args.writers.now.items c.go.new.writers.items g.K.Sink.tells (g.K.Sink.held c.args.sink.now) (g.K.Sink.held c.go.new.sink) (Rose (g.K.Sink.faults c.args.sink.now) (g.K.Sink.faults c.go.new.sink)) c.go.result) c.in_ok-desk.ensures.6
    (gave_new c.args.workers c.args.mode c.args.load.now c.args.writers.now.items c.go.new.writers.items g.K.Sink.tells (g.K.Sink.held c.args.sink.now) (g.K.Sink.held c.go.new.sink) (Rose (g.K.Sink.faults c.args.sink.now) (g.K.Sink.faults c.go.new.sink)) c.in_ok-desk.desk.table.shared.key.value opened (lasting c.in_ok-desk.desk.table.shared.key.style c.go.new.writers.items) c.go.result (c.go.ensures.ran (λ j. catalogue_of c.args.load.now) (fresh_begun c.args.workers c.args.mode c.args.load.now c.args.writers.now.items c.args.writers.now.items g.K.Sink.tells (g.K.Sink.held c.args.sink.now) (g.K.Sink.held c.args.sink.now) (Rose (g.K.Sink.faults c.args.sink.now) (g.K.Sink.faults c.args.sink.now)) c.in_ok-desk.desk.table.shared.key.value opened c.requires.fresh)))

pub returns-clause-ran : goal.returns-clause-ran
returns-clause-ran g c =
    threads_plain Locking c.args.workers c.args.mode c.args.load.now c.args.writers.now.items c.go.new.writers.items g.K.Sink.tells (g.K.Sink.held c.args.sink.now) (g.K.Sink.held c.go.new.sink) (Rose (g.K.Sink.faults c.args.sink.now) (g.K.Sink.faults c.go.new.sink)) c.go.result (returns-clause-lasts g c)

pub returns-in_err-desk-clause-ran : goal.returns-in_err-desk-clause-ran
returns-in_err-desk-clause-ran g c =
    let there = fresh_there (length c.args.writers.now.items) c.args.workers c.args.mode c.args.load.now in
    rw (err_from_is_err_and c.from_residual.result c.from_residual.ensures.1).1 (there.0, there.1, inr (refl, refl))

pub returns-in_err-desk-clause-lasts : goal.returns-in_err-desk-clause-lasts
returns-in_err-desk-clause-lasts g c =
    let there = fresh_there (length c.args.writers.now.items) c.args.workers c.args.mode c.args.load.now in
    rw (err_from_is_err_and c.from_residual.result c.from_residual.ensures.1).1 (there.0, there.1, inr (refl, refl))
