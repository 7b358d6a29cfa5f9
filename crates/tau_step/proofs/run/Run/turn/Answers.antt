use Rattle.std.specs.Prelude.{Ok, Result, is_ok}
use Rattle.tau_base.specs.declared.value.NoMemory.{NoMemory}
use Rattle.tau_text.specs.declared.load.Turn.TheVariants as turn
use Rattle.tau_step.proofs.EffectsInTurn.{clerk_moves}
use Rattle.tau_step.specs.Optimists.{peeks_of}
use Rattle.tau_step.proofs.Running.{anchor_quiet, removal_quiet}
use Rattle.tau_step.proofs.Silent.{anchor_silent, removal_silent}
use Rattle.tau_step.proofs.StyleFits.{fit_clerk, fit_manages, fit_works}
use Rattle.tau_step.proofs.Words.{word_moves, worker_moves, manager_moves, clerk_word}
use Rattle.std.proofs.Common.{true}
use Rattle.tau_step.proofs.run.Run.turn.Goals as goal

pub returns-in-Worker : goal.returns-in-Worker
returns-in-Worker g c = record {
  moves = worker_moves g.met.D.Disk.seen_now g.K.Sink.tells c.args.style (peeks_of c.args.peekers.now.items) (peeks_of c.worker_word.new.peekers.items) c.args.turn c.in-Worker.worker (is_ok c.worker_word.result) c.args.self.now c.worker_word.new.self c.args.writers.now.items (g.K.Sink.held c.args.sink.now) (g.K.Sink.faults c.args.sink.now)
      c.in-Worker.is c.requires.on c.worker_word.ensures.works;
  fit = c.worker_word.ensures.fit;
}

pub returns-in-Manager : goal.returns-in-Manager
returns-in-Manager g c = record {
  moves = manager_moves g.met.D.Disk.seen_now g.K.Sink.tells c.args.style (peeks_of c.args.peekers.now.items) c.args.turn (turn.Manager c.in-Manager.stream) tt (is_ok c.manager_word.result) c.args.self.now c.manager_word.new.self c.args.writers.now.items c.manager_word.new.writers.items
      (g.K.Sink.held c.args.sink.now) (g.K.Sink.faults c.args.sink.now) c.in-Manager.is c.manager_word.ensures.manages;
  fit = fit_manages (turn.Manager c.in-Manager.stream) tt c.args.self.now c.manager_word.new.self c.args.style c.args.load.now c.args.peekers.now.items c.requires.fit c.manager_word.result c.args.writers.now.items c.manager_word.new.writers.items c.requires.on c.manager_word.ensures.manages;
}

pub returns-in-Anchor : goal.returns-in-Anchor
returns-in-Anchor g c = record {
  moves = word_moves g.met.D.Disk.seen_now g.K.Sink.tells c.args.style (peeks_of c.args.peekers.now.items) c.args.turn (turn.Anchor c.in-Anchor.stream) tt (is_ok c.anchor_word.result) c.args.self.now c.anchor_word.new.self c.args.writers.now.items (g.K.Sink.held c.args.sink.now) (g.K.Sink.faults c.args.sink.now)
      c.in-Anchor.is c.requires.on (anchor_quiet c.in-Anchor.stream (is_ok c.anchor_word.result)) (anchor_silent c.in-Anchor.stream (is_ok c.anchor_word.result)) c.anchor_word.ensures.works;
  fit = fit_works (turn.Anchor c.in-Anchor.stream) tt c.args.self.now c.anchor_word.new.self c.args.style c.args.load.now c.args.peekers.now.items c.requires.fit c.anchor_word.result (let a = c.requires.on.along in (a.order, a.hidden, a.stands)) c.anchor_word.ensures.works;
}

pub returns-in-Clerk : goal.returns-in-Clerk
returns-in-Clerk g c = record {
  moves = clerk_word g.met.D.Disk.seen_now g.K.Sink.tells c.args.style (peeks_of c.args.peekers.now.items) c.args.turn (is_ok c.clerk.result) c.args.self.now c.clerk.new.self c.args.writers.now.items (g.K.Sink.held c.args.sink.now) (g.K.Sink.held c.clerk.new.sink) (g.K.Sink.faults c.args.sink.now) (g.K.Sink.faults c.clerk.new.sink)
      c.in-Clerk.is
      (clerk_moves g.met.D.Disk.seen_now g.K.Sink.tells c.args.self.now c.clerk.new.self c.args.writers.now.items (g.K.Sink.held c.args.sink.now) (g.K.Sink.held c.clerk.new.sink) (g.K.Sink.faults c.args.sink.now) (g.K.Sink.faults c.clerk.new.sink)
      c.requires.on c.clerk.ensures.faults c.clerk.ensures.cause c.clerk.ensures.load c.clerk.ensures.failed c.clerk.ensures.workers c.clerk.ensures.streams c.clerk.ensures.flushes _ c.clerk.result c.clerk.ensures.passed c.clerk.ensures.heard);
  fit = fit_clerk c.args.style c.args.load.now c.args.peekers.now.items c.args.self.now c.clerk.new.self g.K.Sink.tells (g.K.Sink.held c.args.sink.now) (g.K.Sink.held c.clerk.new.sink) c.clerk.result (let a = c.requires.on.along in (a.order, a.hidden, a.stands)) c.requires.fit c.clerk.ensures.passed;
}

pub returns-in-Drop : goal.returns-in-Drop
returns-in-Drop g c = record {
  moves = word_moves g.met.D.Disk.seen_now g.K.Sink.tells c.args.style (peeks_of c.args.peekers.now.items) c.args.turn turn.Drop tt true c.args.self.now c.removal_word.new.self c.args.writers.now.items (g.K.Sink.held c.args.sink.now) (g.K.Sink.faults c.args.sink.now)
      c.in-Drop.is c.requires.on (removal_quiet true) (removal_silent true) c.removal_word.ensures.works;
  fit = (let yes : Result (Unit {0}) NoMemory = Ok tt in fit_works turn.Drop tt c.args.self.now c.removal_word.new.self c.args.style c.args.load.now c.args.peekers.now.items c.requires.fit yes (let a = c.requires.on.along in (a.order, a.hidden, a.stands)) c.removal_word.ensures.works);
}
