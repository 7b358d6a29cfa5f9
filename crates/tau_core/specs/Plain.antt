-- The parts of the core as plain data.
use Rattle.std.specs.Prelude.{ℕ, Option, List}
use Rattle.tau_txn.specs.Txn.{PlainTxn}
use Rattle.tau_outbox.specs.Pieces.{PlainOutbox}
use Rattle.tau_ack.specs.Pending.{PlainPending}

-- a worker: the number of its next call, a call left over that comes before, the call in hand, where its record starts while it is not posted, the numbers of the calls left over and how many more
-- are put there without memory, and what it shares with managers and the clerk
pub record PlainSeat : Type 0 where
  pub next : ℕ
  pub again : Option ℕ
  pub txn : PlainTxn
  pub start : ℕ
  pub left : List ℕ
  pub room : ℕ
  pub outbox : PlainOutbox
  pub pending : PlainPending

-- the numbers of the calls that a worker left over, in the order in which it did, and how many more are put there without memory
pub record PlainLeft : Type 0 where
  pub numbers : List ℕ
  pub room : ℕ

-- what the manager of a stream has: the anchors that it placed and has not gathered, the vectors of all its anchors, where the stream was stopped,
-- the bytes that were gathered since the body was taken, and how many more it takes without memory
pub record PlainStream : Type 0 where
  pub own : PlainOutbox
  pub anchors : List (List ℕ)
  pub stop : Option ℕ
  pub body : List ℕ
  pub room : ℕ
