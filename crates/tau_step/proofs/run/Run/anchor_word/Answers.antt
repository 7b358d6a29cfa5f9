use Rattle.std.proofs.Common.{refl, arith}
use Rattle.tau_step.proofs.Running.{no_anchor, anchor_works}
use Rattle.tau_step.proofs.run.Run.anchor_word.Goals as goal

pub returns-then-stream-self : goal.returns-then-stream-self
returns-then-stream-self c = record { works = no_anchor c.args.stream c.args.self.now c.requires.stood (omega (arith, c.if-stream-self.true, c.requires.streams)) }

pub anchor_turn-requires : goal.anchor_turn-requires
anchor_turn-requires c = record { there = omega (arith, c.if-stream-self.false, c.requires.streams) }

pub returns : goal.returns
returns c = record { works = anchor_works c.args.self.now _ refl refl refl refl refl c.requires.stood c.args.stream c.anchor_turn.result c.anchor_turn.ensures.ok c.anchor_turn.ensures.short }
