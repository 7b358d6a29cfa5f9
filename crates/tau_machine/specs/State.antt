-- A state of the core, and what it shows.
use Rattle.std.specs.Prelude.{ℕ, Option, List}
use Rattle.tau_base.specs.declared.value.Key.{Key}
use Rattle.tau_base.specs.declared.value.Call.{Call}
use Rattle.tau_base.specs.Database.{Db}
use Rattle.tau_proc.specs.declared.proc.Proc.{Proc}
use Rattle.tau_model.specs.declared.committed.Committed.{Committed}
use Rattle.tau_model.specs.History.{Act}
use Rattle.tau_machine.specs.Hands.{Txn, lv_of, Hand}
use Rattle.tau_shard.specs.Shard.{Shard, entry_in}
use Rattle.tau_machine.specs.Worker.{Worker}
use Rattle.tau_machine.specs.Sight.{Sight}

-- what a run stands on: the procedures, the number of streams, the stream of each worker, the shard of each key; the worker of each number, and the call
-- that has it, where there is one; and the opening, with its database and the ends of its streams
pub record Setting : Type 0 where
  pub procs : List Proc
  pub width : ℕ
  pub stream_of : ℕ → ℕ
  pub shard_of : Key → ℕ
  pub worker_of : ℕ → ℕ
  pub call_of : ℕ → Option Call
  pub base : Db
  pub opening : List ℕ
  -- how many anchors each stream had when it was opened
  pub anchored : ℕ → ℕ

-- a call that is to be acknowledged, or is
pub record Ticket : Type 0 where
  pub number : ℕ
  pub lv : List ℕ

-- a record with its place: that of a call, or an anchor
pub data Item : Type 0 where
  Record : Act Txn → Item
  Anchor : ℕ → ℕ → List ℕ → Item

abbrev pub start_of : Item → ℕ
start_of (Record t) = t.call.place.start
start_of (Anchor start past v) = start

abbrev pub past_of : Item → ℕ
past_of (Record t) = t.call.place.past
past_of (Anchor start past v) = past

-- what a worker shares with the managers and the clerk
pub record Outbox : Type 0 where
  pub posted : List Item
  pub pending : List Ticket

-- what the manager of a stream has: the anchor records that it placed and did not gather, all that it gathered, the vectors of its anchors, and where the stream was stopped
pub record Stream : Type 0 where
  pub posted : List Item
  pub moved : List Item
  pub anchors : List (List ℕ)
  pub stop : Option ℕ

-- the shards, the workers with what each of them shares, the streams, and the acknowledged calls of each worker; and of each stream the placed end, the gathered end and the persisted position
pub record Core : Type 0 where
  pub shards : ℕ → Shard
  pub workers : ℕ → Worker
  pub outboxes : ℕ → Outbox
  pub streams : ℕ → Stream
  pub acked : ℕ → List Ticket
  pub ends : List ℕ
  pub gathered : List ℕ
  pub plv : List ℕ

abbrev pub ticket : Act Txn → Ticket
ticket t = record { number = t.call.call.number; lv = lv_of t }

abbrev pub hand_of : Core → ℕ → Option Hand
hand_of s w = (s.workers w).hand

abbrev pub ticket_of : Committed → Ticket
ticket_of c = record { number = c.number; lv = c.lv }

module _ (set : Setting) where
  abbrev pub shard_at : Core → Key → Shard
  shard_at s x = s.shards (set.shard_of x)

  abbrev pub sight : Core → Sight
  sight s = record {
    row = λ x. (shard_at s x).rows x;
    write_lv = λ x. (entry_in (shard_at s x) x).write_lv;
    read_lv = λ x. (entry_in (shard_at s x) x).read_lv;
    ends = s.ends;
    plv = s.plv;
  }
