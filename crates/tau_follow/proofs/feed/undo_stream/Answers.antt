-- The stream is as it was.
use Rattle.tau_follow.proofs.Undoing.{undone}
use Rattle.tau_follow.proofs.feed.undo_stream.Goals as goal

pub returns : goal.returns
returns c = λ f n fed before by lt a m l.
    undone f n fed before by c.args.stream lt a c.args.mark m c.args.streams.now.items c.args.readers.now.items l c.index_mut-2.result.now c.undo.new.records c.index_mut.result.now c.undo.new.self
    c.index_mut-2.ensures.value c.index_mut.ensures.value c.undo.ensures.records c.undo.ensures.read
