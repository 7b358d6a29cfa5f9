-- The stream's records, and its stages, are those that were got.
use Rattle.tau_follow.proofs.Feeding.{got_of}
use Rattle.tau_follow.proofs.Reaching.{reached_at}
use Rattle.tau_follow.proofs.reach.reach_at.Goals as goal

pub returns-else-len : goal.returns-else-len
returns-else-len c =
    let read = c.in-Some.ensures.lookup in
    let got = c.in-Some-get.ensures.lookup in
    record {
      some = reached_at c.args.streams.now c.args.stages.now c.args.firsts.now c.args.j c.in-Some.records.now c.in-Some-get.of_stream.now c.as_slice.result.now c.as_slice-in-Some-get.result.now
          c.first_at.result c.reach_of.result.first c.reach_of.result.at
          (got_of c.args.streams.now c.args.j c.in-Some.records.now read.0 read.1) (got_of c.args.stages.now c.args.j c.in-Some-get.of_stream.now got.0 got.1)
          c.as_slice.ensures c.as_slice-in-Some-get.ensures c.first_at.ensures c.reach_of.ensures.passed c.reach_of.ensures.at;
    }
