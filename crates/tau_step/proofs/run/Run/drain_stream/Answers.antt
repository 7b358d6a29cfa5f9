use Rattle.std.proofs.Common.{refl, ap, arith, ◌∙◌}
use Rattle.std.specs.Prelude.{Ok}
use Rattle.std.proofs.lemmas.Result.{err_from_is_err_and}
use Rattle.tau_step.proofs.Draining.{idles_none, idles_more, idles_end, idles_cut}
use Rattle.tau_step.proofs.run.Run.drain_stream.Goals as goal

pub flushes-init : goal.flushes-init
flushes-init g c = record { manages = idles_none g.met.D.Disk.seen_now c.args.stream c.args.self.now c.args.writers.now.items c.requires.on }

pub flushed-requires : goal.flushed-requires
flushed-requires g c = record { on = c.flushes.invariant.manages.on refl; there = omega (arith, c.requires.there, c.flushes.invariant.manages.streams) }

pub flushes-preserved : goal.flushes-preserved
flushes-preserved g c = record { manages = idles_more g.met.D.Disk.seen_now c.args.stream c.args.self.now c.flushes.self c.flushed.new.self c.args.writers.now.items c.flushes.writers.items c.flushed.new.writers.items c.flushes.invariant.manages (rw c.if-branch.true at c.in_ok-flushed.ensures.manages) }

pub flushes-smaller : goal.flushes-smaller
flushes-smaller g c = c.flushed.ensures.fewer (c.in_ok-flushed.was ∙ ap Ok c.if-branch.true)

pub returns : goal.returns
returns g c = record { manages = idles_end g.met.D.Disk.seen_now c.args.stream c.args.self.now c.flushes.self c.flushed.new.self c.args.writers.now.items c.flushes.writers.items c.flushed.new.writers.items c.flushes.invariant.manages (rw c.if-branch.false at c.in_ok-flushed.ensures.manages) }

pub returns-in_err-flushed : goal.returns-in_err-flushed
returns-in_err-flushed g c = record { manages = rw (err_from_is_err_and c.from_residual.result c.from_residual.ensures.1).1 (idles_cut g.met.D.Disk.seen_now c.args.stream c.args.self.now c.flushes.self c.flushed.new.self c.args.writers.now.items c.flushes.writers.items c.flushed.new.writers.items c.flushes.invariant.manages _ c.in_err-flushed.ensures.manages) }
