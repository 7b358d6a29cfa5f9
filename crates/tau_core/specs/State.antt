-- The state of the core as plain data.
use Rattle.std.specs.Prelude.{ℕ, List}
use Rattle.tau_model.specs.declared.committed.Committed.{Committed}
use Rattle.tau_shard.specs.Plain.{PlainShard}
use Rattle.tau_core.specs.declared.state.Load.{Load}
use Rattle.tau_core.specs.declared.state.State.{State}
use Rattle.tau_core.specs.Plain.{PlainSeat, PlainStream}

pub record Plain : Type 0 where
  pub load : Load
  pub shards : List PlainShard
  pub seats : List PlainSeat
  pub streams : List PlainStream
  pub committed : List Committed
  -- how many more calls commit without memory
  pub room : ℕ
  pub ends : List ℕ
  pub gathered : List ℕ
  pub plv : List ℕ

abbrev pub plain : State → Plain
plain s = record {
  load = s.load;
  shards = s.shards.items;
  seats = s.seats.items;
  streams = s.streams.items;
  committed = s.committed.items;
  room = s.committed.room;
  ends = s.ends;
  gathered = s.gathered;
  plv = s.plv;
}
