use Rattle.std.proofs.Common.{refl}
use Rattle.std.specs.Prelude.{is_ok}
use Rattle.std.proofs.lemmas.Result.{err_from_is_err_and}
use Rattle.tau_step.proofs.Draining.{drain_whole, drain_managers}
use Rattle.tau_step.proofs.EffectsInTurn.{clerk_moves}
use Rattle.tau_step.proofs.run.Run.drain.Goals as goal

pub drain_streams-requires : goal.drain_streams-requires
drain_streams-requires g c = record { on = c.requires.on }

pub clerk-requires-clause-stood : goal.clerk-requires-clause-stood
clerk-requires-clause-stood g c = let a = (c.in_ok-drain_streams.ensures.manages.on refl).along in (a.order, a.hidden, a.stands)

pub clerk-requires-clause-workers : goal.clerk-requires-clause-workers
clerk-requires-clause-workers g c = (c.in_ok-drain_streams.ensures.manages.on refl).workers

pub returns : goal.returns
returns g c = record {
  moves = drain_whole g.met.D.Disk.seen_now g.K.Sink.tells (is_ok c.clerk.result) c.args.self.now c.drain_streams.new.self c.clerk.new.self c.args.writers.now.items c.drain_streams.new.writers.items
      (g.K.Sink.held c.args.sink.now) (g.K.Sink.held c.clerk.new.sink) (g.K.Sink.faults c.args.sink.now) (g.K.Sink.faults c.clerk.new.sink) c.in_ok-drain_streams.ensures.manages
      (clerk_moves g.met.D.Disk.seen_now g.K.Sink.tells c.drain_streams.new.self c.clerk.new.self c.drain_streams.new.writers.items (g.K.Sink.held c.args.sink.now) (g.K.Sink.held c.clerk.new.sink) (g.K.Sink.faults c.args.sink.now) (g.K.Sink.faults c.clerk.new.sink)
      (c.in_ok-drain_streams.ensures.manages.on refl) c.clerk.ensures.faults c.clerk.ensures.cause c.clerk.ensures.load c.clerk.ensures.failed c.clerk.ensures.workers c.clerk.ensures.streams c.clerk.ensures.flushes _ c.clerk.result c.clerk.ensures.passed c.clerk.ensures.heard);
}

pub returns-in_err-drain_streams : goal.returns-in_err-drain_streams
returns-in_err-drain_streams g c = record { moves = rw (err_from_is_err_and c.from_residual.result c.from_residual.ensures.1).1 (drain_managers g.met.D.Disk.seen_now g.K.Sink.tells c.args.self.now c.drain_streams.new.self c.args.writers.now.items c.drain_streams.new.writers.items (g.K.Sink.held c.args.sink.now) (g.K.Sink.faults c.args.sink.now) c.in_err-drain_streams.ensures.manages) }
