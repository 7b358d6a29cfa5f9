use Rattle.std.proofs.Common.{ap, []}
use Rattle.std.specs.Prelude.{unwrap_or, Option}
use Rattle.tau_run.specs.RunFacts.{turns_of}
use Rattle.tau_step.specs.Optimists.{peeks_of}
use Rattle.tau_step.proofs.Staged.{named_none}
use Rattle.tau_step.proofs.run.Run.named.Goals as goal

pub words-requires : goal.words-requires
words-requires g c = record { on = c.requires.on; fit = c.requires.fit }

pub returns-in-None : goal.returns-in-None
returns-in-None g c = record {
  moves = named_none g.met.D.Disk.seen_now g.K.Sink.tells c.args.style (turns_of c.args.load.now) (peeks_of c.args.peekers.now.items) c.args.self.now c.args.writers.now.items (g.K.Sink.held c.args.sink.now) (g.K.Sink.faults c.args.sink.now)
      (ap (λ (o : Option _). unwrap_or o []) c.in-None.is) c.requires.on;
  fit = c.requires.fit;
}
