use Rattle.std.proofs.Common.{refl, sym, subst, arith}
use Rattle.std.specs.Prelude.{is_ok}
use Rattle.std.proofs.lemmas.Result.{err_from_is_err_and}
use Rattle.tau_step.specs.RunEffects.{Manages}
use Rattle.tau_step.specs.Rounding.{all_idled}
use Rattle.tau_step.proofs.Draining.{drains_none, drains_more, drains_cut, drains_all}
use Rattle.tau_step.proofs.run.Run.drain_streams.Goals as goal

pub loop-stream-init : goal.loop-stream-init
loop-stream-init g c = record { manages = drains_none g.met.D.Disk.seen_now c.args.self.now c.args.writers.now.items c.requires.on }

pub drain_stream-requires : goal.drain_stream-requires
drain_stream-requires g c = record { on = c.loop-stream.invariant.manages.on refl; there = omega (arith, c.loop-stream-test.true, c.loop-stream.invariant.manages.streams) }

pub returns-in_err-drain_stream : goal.returns-in_err-drain_stream
returns-in_err-drain_stream g c = record {
  manages = subst (λ r. Manages all_idled (is_ok r) c.args.self.now c.drain_stream.new.self c.args.writers.now.items c.drain_stream.new.writers.items) (sym (err_from_is_err_and c.from_residual.result c.from_residual.ensures.1).1)
      (drains_cut g.met.D.Disk.seen_now c.loop-stream.stream c.args.self.now c.loop-stream.self c.drain_stream.new.self c.args.writers.now.items c.loop-stream.writers.items c.drain_stream.new.writers.items
      (omega (arith, c.loop-stream-test.true, c.requires.on.streams)) c.loop-stream.invariant.manages c.in_err-drain_stream.ensures.manages);
}

pub loop-stream-preserved : goal.loop-stream-preserved
loop-stream-preserved g c = record {
  manages = drains_more g.met.D.Disk.seen_now c.loop-stream.stream c.args.self.now c.loop-stream.self c.drain_stream.new.self c.args.writers.now.items c.loop-stream.writers.items c.drain_stream.new.writers.items c.loop-stream.invariant.manages c.in_ok-drain_stream.ensures.manages;
}

pub returns : goal.returns
returns g c = record { manages = drains_all g.met.D.Disk.seen_now c.loop-stream.stream c.args.self.now c.loop-stream.self c.args.writers.now.items c.loop-stream.writers.items (omega (arith, c.loop-stream-test.false, c.loop-stream.auto.stream-end, c.requires.on.streams)) c.loop-stream.invariant.manages }
