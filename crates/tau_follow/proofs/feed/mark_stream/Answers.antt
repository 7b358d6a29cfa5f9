-- The records and the reader are those that were got.
use Rattle.tau_follow.proofs.Feeding.{got_of, marked_at}
use Rattle.tau_follow.proofs.feed.mark_stream.Goals as goal

pub returns : goal.returns
returns c =
    let read = c.in-Some.ensures.lookup in
    let got = c.in-Some-get.ensures.lookup in
    marked_at c.args.stream c.args.streams.now c.args.readers.now c.in-Some.reader.now c.in-Some-get.records.now c.mark.result
    (got_of c.args.readers.now c.args.stream c.in-Some.reader.now read.0 read.1) (got_of c.args.streams.now c.args.stream c.in-Some-get.records.now got.0 got.1) c.mark.ensures
