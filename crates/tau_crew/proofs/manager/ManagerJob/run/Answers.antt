use Rattle.std.proofs.Common.{◌∙◌}
use Rattle.tau_crew.proofs.manager.ManagerJob.run.Goals as goal

pub turn-requires-clause-manages : goal.turn-requires-clause-manages
turn-requires-clause-manages g c =
    let q = c.requires.manages in record {
      format = q.format;
      n = q.n;
      j = q.j;
      base = q.base;
      w0 = q.w0;
      manager = c.loop.invariant.0 q.format q.n q.j q.base q.w0 q.manager;
    }

pub loop-preserved-then-turn : goal.loop-preserved-then-turn
loop-preserved-then-turn g c = (
  λ format n j base w0 m. c.turn.ensures.keeps format n j base w0 (c.loop.invariant.0 format n j base w0 m),
  record {
    table = c.turn.ensures.own.table ∙ c.loop.invariant.1.table;
    opened = c.turn.ensures.own.opened ∙ c.loop.invariant.1.opened;
    at = c.turn.ensures.own.at ∙ c.loop.invariant.1.at;
    stream = c.turn.ensures.own.stream ∙ c.loop.invariant.1.stream;
  },
)

pub returns-then-left-clause-keeps : goal.returns-then-left-clause-keeps
returns-then-left-clause-keeps g c = λ format n j base w0 m. c.turn.ensures.keeps format n j base w0 (c.loop.invariant.0 format n j base w0 m)

pub loop-preserved : goal.loop-preserved
loop-preserved g c = (
  λ format n j base w0 m. c.turn.ensures.keeps format n j base w0 (c.loop.invariant.0 format n j base w0 m),
  record {
    table = c.turn.ensures.own.table ∙ c.loop.invariant.1.table;
    opened = c.turn.ensures.own.opened ∙ c.loop.invariant.1.opened;
    at = c.turn.ensures.own.at ∙ c.loop.invariant.1.at;
    stream = c.turn.ensures.own.stream ∙ c.loop.invariant.1.stream;
  },
)
