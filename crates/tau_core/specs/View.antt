-- What the core is in the words of the machine: the setting of a run, and the state that its parts are.
use Rattle.std.specs.Prelude.{ℕ, zero, suc, ◌+◌, ◌-◌, ◌%◌, ◌==◌, if◌then◌else◌, Option, Some, None, List, [], ◌∷◌, ◌++◌, map, drop, slice_get, slice_index}
use Rattle.std.specs.List.{filter}
use Rattle.tau_base.specs.declared.value.Call.{Call}
use Rattle.tau_base.specs.declared.value.Value.TheVariants.{Absent}
use Rattle.tau_base.specs.Shards.{shard_number}
use Rattle.tau_model.specs.Tables.{db_of_rows}
use Rattle.tau_model.specs.History.{Numbered}
use Rattle.tau_model.specs.declared.committed.Committed.{Committed}
use Rattle.tau_shard.specs.Shard as machine
use Rattle.tau_machine.specs.Worker.{Worker}
use Rattle.tau_machine.specs.State.{Setting, Ticket, Item, Core}
use Rattle.tau_shard.specs.Plain.{PlainShard}
use Rattle.tau_shard.specs.Read.{shard_of}
use Rattle.tau_txn.specs.Txn.{hand_in}
use Rattle.tau_ack.specs.declared.Waiting.{Waiting}
use Rattle.tau_core.specs.declared.state.Load.{Load}
use Rattle.tau_core.specs.Plain.{PlainSeat, PlainStream}
use Rattle.tau_core.specs.State.{Plain}

-- calls are numbered from 1
abbrev pub call_of : List Call → ℕ → Option Call
call_of calls n = if n == 0 then None else slice_get calls (n - 1)

-- the worker of a call, among so many
abbrev pub worker_of : ℕ → ℕ → ℕ
worker_of workers n = (n - 1) % workers

abbrev pub setting_of : Load → Setting
setting_of l = record {
  procs = l.procs;
  width = l.streams;
  stream_of = λ w. w % l.streams;
  shard_of = shard_number;
  worker_of = worker_of l.workers;
  call_of = call_of l.calls;
  base = db_of_rows l.opening.rows;
  opening = l.opening.ends;
  anchored = λ j. slice_index l.opening.anchors.items j;
}

-- what no data of the core holds: the items that are posted and those that were gathered, the acknowledged calls, and the bytes of each stream that were given away
pub record Hidden : Type 0 where
  pub posted : ℕ → List Item
  pub own : ℕ → List Item
  pub moved : ℕ → List Item
  pub acked : ℕ → List Ticket
  pub taken : ℕ → List ℕ

abbrev pub shard_in : Option PlainShard → machine.Shard
shard_in None = record { rows = λ x. Absent; entries = λ x. None; floor = [] }
shard_in (Some s) = shard_of s

abbrev pub numbered_by : ℕ → Option Call → List Numbered
numbered_by n None = []
numbered_by n (Some c) = record { number = n; call = c } ∷ []

-- the call of this number, where there is one
abbrev pub numbered : List Call → ℕ → List Numbered
numbered calls n = numbered_by n (call_of calls n)

abbrev pub all_numbered : List Call → List ℕ → List Numbered
all_numbered calls [] = []
all_numbered calls (n ∷ ns) = numbered calls n ++ all_numbered calls ns

-- every step-th of these calls, which are numbered from n on, after the first skip ones
abbrev pub every : ℕ → ℕ → ℕ → List Call → List Numbered
every step skip n [] = []
every step zero n (c ∷ cs) = record { number = n; call = c } ∷ every step (step - 1) (n + 1) cs
every step (suc skip) n (c ∷ cs) = every step skip (n + 1) cs

-- the calls of one of so many workers from the call n on
abbrev pub from_on : List Call → ℕ → ℕ → List Numbered
from_on calls workers n = every workers 0 n (drop (n - 1) calls)

abbrev pub again_in : List Call → Option ℕ → List Numbered
again_in calls None = []
again_in calls (Some n) = numbered calls n

-- the committed calls of a worker
abbrev pub committed_by : ℕ → ℕ → List Committed → List Committed
committed_by workers w committed = filter (λ c. worker_of workers c.number == w) committed

abbrev pub seat_worker : Load → PlainSeat → List Committed → Worker
seat_worker l s committed = record {
  waiting = again_in l.calls s.again ++ from_on l.calls l.workers s.next;
  hand = hand_in l.procs s.txn;
  left = all_numbered l.calls s.left;
  committed = committed;
}

abbrev pub worker_in : Load → Option PlainSeat → List Committed → Worker
worker_in l None committed = record { waiting = []; hand = None; left = []; committed = committed }
worker_in l (Some s) committed = seat_worker l s committed

abbrev pub tickets : List Waiting → List Ticket
tickets calls = map (λ c. record { number = c.number; lv = c.lv }) calls

abbrev pub pending_in : Option PlainSeat → List Ticket
pending_in None = []
pending_in (Some s) = tickets s.pending.calls

abbrev pub anchors_in : Option PlainStream → List (List ℕ)
anchors_in None = []
anchors_in (Some s) = s.anchors

abbrev pub stop_in : Option PlainStream → Option ℕ
stop_in None = None
stop_in (Some s) = s.stop

abbrev pub worker_at : Plain → ℕ → Worker
worker_at p w = worker_in p.load (slice_get p.seats w) (committed_by p.load.workers w p.committed)

abbrev pub core_of : Plain → Hidden → Core
core_of p h = record {
  shards = λ i. shard_in (slice_get p.shards i);
  workers = λ w. worker_at p w;
  outboxes = λ w. record { posted = h.posted w; pending = pending_in (slice_get p.seats w) };
  streams = λ j. record { posted = h.own j; moved = h.moved j; anchors = anchors_in (slice_get p.streams j); stop = stop_in (slice_get p.streams j) };
  acked = h.acked;
  ends = p.ends;
  gathered = p.gathered;
  plv = p.plv;
}
