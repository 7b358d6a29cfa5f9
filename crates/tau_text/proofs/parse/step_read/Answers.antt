use Rattle.std.proofs.Common.{arith}
use Rattle.tau_text.specs.Lines.{words}
use Rattle.tau_text.proofs.Begins.{opens_more}
use Rattle.tau_text.proofs.parse.step_read.Goals as goal

pub returns-clause-within : goal.returns-clause-within
returns-clause-within c =
    let s = c.args.s.now in
    let b = c.args.b in
    let h = c.requires.begun in
    let w = c.requires.within in
    let p = c.in_ok-proc.ensures in
    record {
      tables = w.tables;
      size = c.in_ok-s.ensures.small;
      begun = (
        record {
          room = h.room;
          args = omega (arith, h.args, p.more);
          steps = omega (arith, p.more);
          names = p.names;
          depth = omega (arith, p.more, h.depth, c.in_ok-depth.ensures.small);
          whens = opens_more s.tables b.proc c.in_ok-proc.proc c.args.h (words c.args.rest.now) b.depth c.in_ok-depth.depth (rw c.as_slice.ensures at p.given) c.in_ok-depth.ensures.given h.whens;
        },
        c.requires.first,
      );
      calls = w.calls;
      turns = w.turns;
    }
