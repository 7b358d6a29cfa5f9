use Rattle.std.proofs.Common.{◌≤◌, arith}
use Rattle.tau_outbox.specs.Pieces.{end_of}
use Rattle.tau_outbox.proofs.Orders.{put_last}
use Rattle.tau_outbox.proofs.Outbox.post.Goals as goal

pub invariant_of-self : goal.invariant_of-self
invariant_of-self c =
    let at : end_of 0 c.self.inside.pieces.items ≤ c.args.start = rw (← c.self.view_is) at c.requires.order in
    rw (c.push_back_reserved.ensures.items, c.of.ensures) (put_last 0 c.self.inside.pieces.items _ c.self.invariant at (omega arith))
