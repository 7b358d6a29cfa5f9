use Rattle.std.proofs.Common.{arith}
use Rattle.tau_step.proofs.Ending.{begun_along, count_is}
use Rattle.tau_step.proofs.top.go.Goals as goal

pub run_and_tell-requires : goal.run_and_tell-requires
run_and_tell-requires g c =
    let (bases, begun) = c.requires.begun in
    record {
      on = record {
        along = begun_along bases c.args.writers.now.items c.args.core c.requires.opened begun;
        workers = c.requires.workers;
        streams = omega (arith, c.len.ensures, count_is bases c.args.writers.now.items c.args.core c.requires.opened begun);
      };
      opened = c.requires.opened;
      acks = c.new.ensures.acks;
      works = c.new.ensures.works;
      procs = c.requires.procs;
      calls = c.requires.calls;
      begun = c.requires.begun;
    }
