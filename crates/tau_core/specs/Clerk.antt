-- What shards drop, and what the clerk acknowledges.
use Rattle.std.specs.Prelude.{ℕ, ◌≡◌, ◌≤◌, Some, slice_get, slice_set}
use Rattle.tau_shard.specs.Shard.{Dropped}
use Rattle.tau_shard.specs.Plain.{PlainShard}
use Rattle.tau_shard.specs.Read.{shard_of}
use Rattle.tau_ack.specs.Pending.{PlainPending, NoneCovered, TakesFirst}
use Rattle.tau_core.specs.declared.event.Outcome.{Outcome}
use Rattle.tau_core.specs.declared.event.Outcome.TheVariants.{Acked, NothingCovered}
use Rattle.tau_core.specs.Plain.{PlainSeat}
use Rattle.tau_core.specs.State.{Plain}

-- a shard drops what is persisted
pub record Swept (p : Plain) (i : ℕ) (p' : Plain) : Type 0 where
  pub shard : PlainShard
  pub left : PlainShard
  pub is : slice_get p.shards i ≡ Some shard
  pub dropped : Dropped p.plv (shard_of shard) (shard_of left)
  pub after : p' ≡ record p { shards = slice_set p.shards i left }

-- the worker's pending calls are others
pub record Pends (p : Plain) (w : ℕ) (p' : Plain) : Type 0 where
  pub seat : PlainSeat
  pub pending : PlainPending
  pub is : slice_get p.seats w ≡ Some seat
  pub room : seat.pending.room ≤ pending.room
  pub after : p' ≡ record p { seats = slice_set p.seats w (record seat { pending = pending }) }

-- the first pending call that is persisted is taken out; nothing covered exactly where there is none
abbrev pub AckedBy : Plain → ℕ → Outcome → Plain → Type 0
AckedBy p w (Acked number lv) p' = (q : Pends p w p') × TakesFirst p.plv q.seat.pending.calls (record { number = number; lv = lv }) q.pending.calls
AckedBy p w NothingCovered p' = (q : Pends p w p') × NoneCovered p.plv q.seat.pending.calls × (q.pending.calls ≡ q.seat.pending.calls)
AckedBy p w _ p' = ⊥
