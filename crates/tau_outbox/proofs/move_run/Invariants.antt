use Rattle.std.proofs.Common.{◌+◌, ◌≤◌, ◌≡◌, ◌++◌, length, vec_len}
use Rattle.std.specs.Prelude.{vec_capacity}
use Rattle.std.specs.VecDeque.{deque_len, deque_capacity}
use Rattle.tau_outbox.specs.Pieces.{bytes_of, InOrder}
use Rattle.tau_outbox.specs.Gather.{run, left}
use Rattle.tau_outbox.proofs.move_run.Given as goal

abbrev pub invariant-loop-piece : goal.invariant-loop-piece
invariant-loop-piece l = record {
  pieces : left l.to (vec_len l.body) l.pieces.items ≡ left l.fn.next (vec_len l.fn.body) l.fn.pieces.items;
  body : l.body.items ++ bytes_of (run l.to (vec_len l.body) l.pieces.items) ≡ l.fn.body.items ++ bytes_of (run l.fn.next (vec_len l.fn.body) l.fn.pieces.items);
  past : l.to + length (bytes_of (run l.to (vec_len l.body) l.pieces.items)) ≡ l.fn.next + length (bytes_of (run l.fn.next (vec_len l.fn.body) l.fn.pieces.items));
  room : vec_len l.body + length (bytes_of (run l.to (vec_len l.body) l.pieces.items)) ≤ vec_capacity l.body;
  order : InOrder 0 l.pieces.items;
  kept : vec_capacity l.fn.body ≤ vec_capacity l.body;
  spare : deque_capacity l.fn.pieces + deque_len l.pieces ≤ deque_capacity l.pieces + deque_len l.fn.pieces;
}

abbrev pub decreases-loop-piece : goal.decreases-loop-piece
decreases-loop-piece l = length l.pieces.items
