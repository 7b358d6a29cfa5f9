use Rattle.std.proofs.Common.{ℕ, ◌≡◌, inr, length, refl, subst, arith}
use Rattle.std.proofs.lemmas.Result.{err_from_is_err_and}
use Rattle.tau_disk.specs.Disk.{Rose}
use Rattle.tau_text.specs.Canonical.{declarations_text}
use Rattle.tau_core.specs.Opens.{OpenedFresh, catalogue_size}
use Rattle.tau_occ.specs.declared.style.Style.TheVariants.{Locking}
use Rattle.tau_run.specs.Start.{catalogue_of}
use Rattle.tau_run.proofs.Begun.{fresh_begun, fresh_there}
use Rattle.tau_step.proofs.Begun.{turns_new, turns_plain}
use Rattle.tau_step.proofs.top.run_turns.Goals as goal

pub go-requires-clause-begun : goal.go-requires-clause-begun
go-requires-clause-begun g c =
    let long : c.len.result ≡ length c.args.writers.now.items = omega (arith, c.len.ensures) in
    let opened = subst (λ (n : ℕ). OpenedFresh c.args.load.now.declarations.procs c.args.load.now.calls c.args.mode c.args.m n (catalogue_size (declarations_text c.args.load.now.declarations)) c.in_ok-core.core) long c.in_ok-core.ensures in
    (λ j. catalogue_of c.args.load.now, fresh_begun c.args.m c.args.mode c.args.load.now c.args.writers.now.items c.args.writers.now.items g.K.Sink.tells (g.K.Sink.held c.args.sink.now) (g.K.Sink.held c.args.sink.now) (Rose (g.K.Sink.faults c.args.sink.now) (g.K.Sink.faults c.args.sink.now)) c.in_ok-core.core opened c.requires.fresh)

pub returns-clause-ran : goal.returns-clause-ran
returns-clause-ran g c =
    let long : c.len.result ≡ length c.args.writers.now.items = omega (arith, c.len.ensures) in
    let opened = subst (λ (n : ℕ). OpenedFresh c.args.load.now.declarations.procs c.args.load.now.calls c.args.mode c.args.m n (catalogue_size (declarations_text c.args.load.now.declarations)) c.in_ok-core.core) long c.in_ok-core.ensures in
    turns_plain Locking c.args.m c.args.mode c.args.load.now c.args.writers.now.items c.go.new.writers.items g.K.Sink.tells (g.K.Sink.held c.args.sink.now) (g.K.Sink.held c.go.new.sink) (Rose (g.K.Sink.faults c.args.sink.now) (g.K.Sink.faults c.go.new.sink)) c.go.result
    (turns_new Locking c.args.m c.args.mode c.args.load.now c.args.writers.now.items c.go.new.writers.items g.K.Sink.tells (g.K.Sink.held c.args.sink.now) (g.K.Sink.held c.go.new.sink) (Rose (g.K.Sink.faults c.args.sink.now) (g.K.Sink.faults c.go.new.sink)) c.in_ok-core.core opened c.go.result
    (c.go.ensures.ran (λ j. catalogue_of c.args.load.now) (fresh_begun c.args.m c.args.mode c.args.load.now c.args.writers.now.items c.args.writers.now.items g.K.Sink.tells (g.K.Sink.held c.args.sink.now) (g.K.Sink.held c.args.sink.now) (Rose (g.K.Sink.faults c.args.sink.now) (g.K.Sink.faults c.args.sink.now)) c.in_ok-core.core opened c.requires.fresh)))

pub returns-clause-counted : goal.returns-clause-counted
returns-clause-counted g c =
    let long : c.len.result ≡ length c.args.writers.now.items = omega (arith, c.len.ensures) in
    let opened = subst (λ (n : ℕ). OpenedFresh c.args.load.now.declarations.procs c.args.load.now.calls c.args.mode c.args.m n (catalogue_size (declarations_text c.args.load.now.declarations)) c.in_ok-core.core) long c.in_ok-core.ensures in
    turns_new Locking c.args.m c.args.mode c.args.load.now c.args.writers.now.items c.go.new.writers.items g.K.Sink.tells (g.K.Sink.held c.args.sink.now) (g.K.Sink.held c.go.new.sink) (Rose (g.K.Sink.faults c.args.sink.now) (g.K.Sink.faults c.go.new.sink)) c.in_ok-core.core opened c.go.result
    (c.go.ensures.ran (λ j. catalogue_of c.args.load.now) (fresh_begun c.args.m c.args.mode c.args.load.now c.args.writers.now.items c.args.writers.now.items g.K.Sink.tells (g.K.Sink.held c.args.sink.now) (g.K.Sink.held c.args.sink.now) (Rose (g.K.Sink.faults c.args.sink.now) (g.K.Sink.faults c.args.sink.now)) c.in_ok-core.core opened c.requires.fresh))

pub returns-in_err-core-clause-ran : goal.returns-in_err-core-clause-ran
returns-in_err-core-clause-ran g c =
    let there = fresh_there (length c.args.writers.now.items) c.args.m c.args.mode c.args.load.now in
    rw (err_from_is_err_and c.from_residual.result c.from_residual.ensures.1).1 (there.0, there.1, inr (refl, refl))

pub returns-in_err-core-clause-counted : goal.returns-in_err-core-clause-counted
returns-in_err-core-clause-counted g c =
    let there = fresh_there (length c.args.writers.now.items) c.args.m c.args.mode c.args.load.now in
    rw (err_from_is_err_and c.from_residual.result c.from_residual.ensures.1).1 (there.0, there.1, inr (refl, refl))
