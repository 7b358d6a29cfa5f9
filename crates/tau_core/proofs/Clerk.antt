-- Drop and Ack.
use Rattle.std.proofs.Common.{ℕ, ◌<◌, ◌≡◌, List, [], ◌∷◌, ◌++◌, length, refl, sym, ap, subst, ◌∙◌, Option, arith, length-set}
use Rattle.std.specs.Prelude.{Some, slice_get, slice_set}
use Rattle.std.proofs.lemmas.Option.{slice_get_within}
use Rattle.tau_model.specs.History.{Act}
use Rattle.tau_machine.specs.Hands.{Txn}
use Rattle.tau_shard.specs.Shard.{at, Shard, Dropped}
use Rattle.tau_machine.specs.State.{Ticket, Core, Outbox, Record}
use Rattle.tau_machine.specs.Shapes.{ShardShape}
use Rattle.tau_machine.specs.Worker.{Worker}
use Rattle.tau_machine.specs.Events.{with_shard, with_outbox, Leads, Drop, Ack}
use Rattle.tau_base.proofs.Vectors.{at_most_itself}
use Rattle.tau_ack.specs.Pending.{TakesFirst}
use Rattle.tau_ack.specs.declared.Waiting.{Waiting}
use Rattle.tau_shard.specs.Plain.{PlainShard}
use Rattle.tau_shard.specs.Read.{shard_of}
use Rattle.tau_core.specs.Plain.{PlainSeat}
use Rattle.tau_core.specs.State.{Plain}
use Rattle.tau_core.specs.View.{setting_of, Hidden, tickets, shard_in, core_of}
use Rattle.tau_core.specs.Stands.{Stands, SoundSeat, anchors_at}
use Rattle.tau_core.specs.Pieces.{IsPieceOf, Paired}
use Rattle.tau_machine.specs.Pieces.{placed_in}
use Rattle.tau_txn.specs.Txn.{hand_in, bytes_in}
use Rattle.tau_core.specs.Clerk.{Pends}
use Rattle.tau_core.proofs.Lists.{reads_got, each_got}
use Rattle.tau_core.proofs.Seats.{seat_core, outbox_of_seat, same_worker, seat_sound, seat_inside}
use Rattle.tau_core.proofs.PersistLeads.{kept}
use Rattle.tau_base.proofs.Lists.{map_append}

module _ (p : Plain) (K : List (Act Txn)) (h : Hidden) (g : Stands p K h) where
  -- a shard drops free entries
  module _ (i : ℕ) (shard left : PlainShard) (is : slice_get p.shards i ≡ Some shard) (dropped : Dropped p.plv (shard_of shard) (shard_of left)) where
    abbrev pub swept : Plain
    swept = record p { shards = slice_set p.shards i left }

    swept_inside : i < length p.shards
    swept_inside = slice_get_within p.shards i shard is

    swept_core : core_of swept h ≡ with_shard (core_of p h) i (shard_of left)
    swept_core = ap (λ (l : ℕ → Shard). record (core_of p h) { shards = l }) (reads_got (λ k (o : Option PlainShard). shard_in o) p.shards i left swept_inside)

    pub sweep_leads : Leads (setting_of p.load) (Drop i p.plv) (core_of p h) (core_of swept h) []
    sweep_leads = (
      record {
        covered = at_most_itself p.plv;
        shard = shard_of left;
        dropped = subst (λ (x : Shard). Dropped p.plv x (shard_of left)) (sym (ap shard_in is)) dropped;
        after = swept_core;
      },
      refl,
    )

    pub sweep_stands : Stands swept K h
    sweep_stands =
        let inv = kept (setting_of p.load) K (Drop i p.plv) (core_of p h) (core_of swept h) g.inv sweep_leads in
        let o = g.sound in
        record {
          sound = record {
            workers_low = o.workers_low;
            workers_high = o.workers_high;
            streams_low = o.streams_low;
            streams_high = o.streams_high;
            few = o.few;
            takes = o.takes;
            opened = o.opened;
            shards = length-set p.shards i left ∙ o.shards;
            seats = o.seats;
            streams = o.streams;
            ends = o.ends;
            gathered = o.gathered;
            plv = o.plv;
            seat = o.seat;
            wide = o.wide;
            narrow = λ k sh e. subst (λ (x : Shard). ShardShape (setting_of p.load) x) (ap shard_in e) (inv.shapes.shards k);
            room = o.room;
          };
          inv = inv;
          order = g.order;
          posted = g.posted;
          own = g.own;
          placed = g.placed;
          gathered = g.gathered;
        }

  -- the first covered call of a worker is acknowledged
  module _ (w : ℕ) (p' : Plain) (q : Pends p w p') (taken : Waiting) (t : TakesFirst p.plv q.seat.pending.calls taken q.pending.calls) where
    abbrev waits : PlainSeat
    waits = record q.seat { pending = q.pending }

    abbrev pub less : Plain
    less = record p { seats = slice_set p.seats w waits }

    abbrev acked_ticket : Ticket
    acked_ticket = record { number = taken.number; lv = taken.lv }

    abbrev pub acked : Hidden
    acked = record h { acked = at w (h.acked w ++ acked_ticket ∷ []) h.acked }

    before : ((core_of p h).outboxes w).pending ≡ tickets t.front ++ acked_ticket ∷ tickets t.back
    before = ap (λ (o : Outbox). o.pending) (outbox_of_seat p h w q.seat waits q.is) ∙ ap tickets t.is
        ∙ map_append (λ (c : Waiting). record { number = c.number; lv = c.lv }) t.front (taken ∷ t.back)

    behind : tickets q.pending.calls ≡ tickets t.front ++ tickets t.back
    behind = ap tickets t.left ∙ map_append (λ (c : Waiting). record { number = c.number; lv = c.lv }) t.front t.back

    ack_core : core_of less acked ≡ record (with_outbox (core_of p h) w (record ((core_of p h).outboxes w) { pending = tickets t.front ++ tickets t.back })) { acked = at w (h.acked w ++ acked_ticket ∷ []) h.acked }
    ack_core =
        ap (λ (c : Core). record c { acked = at w (h.acked w ++ acked_ticket ∷ []) h.acked }) (seat_core p h w q.seat waits q.is)
        ∙ ap (λ (x : (ℕ → Worker) × List Ticket). record (core_of p h) { workers = x.0; outboxes = at w (record { posted = h.posted w; pending = x.1 }) (core_of p h).outboxes; acked = at w (h.acked w ++ acked_ticket ∷ []) h.acked })
        (λ i. (same_worker p h w q.seat waits q.is refl i, behind i))

    pub ack_leads : Leads (setting_of p.load) (Ack w p.plv) (core_of p h) (core_of less acked) []
    ack_leads = (
      record {
        licensed = at_most_itself p.plv;
        front = tickets t.front;
        ticket = acked_ticket;
        back = tickets t.back;
        is = before;
        covered = t.covered;
        after = ack_core;
      },
      refl,
    )

    pub ack_stands : Stands less K acked
    ack_stands =
        let o : SoundSeat p.load w q.seat = g.sound.seat w q.seat q.is in
        record {
          sound = seat_sound p h w q.seat waits q.is g.sound (record {
            txn = o.txn;
            store = record {
              ends = λ e. (let a = o.store.ends e in let b = q.room in omega arith);
              leaves = o.store.leaves;
              posts = o.store.posts;
              low = o.store.low;
              high = o.store.high;
              again = o.store.again;
              left = o.store.left;
            };
          }) (omega arith);
          inv = kept (setting_of p.load) K (Ack w p.plv) (core_of p h) (core_of less acked) g.inv ack_leads;
          order = g.order;
          posted = each_got (λ k (x : PlainSeat). Paired (IsPieceOf p.load (anchors_at p)) x.outbox.pieces (h.posted k)) p.seats w waits (seat_inside p h w q.seat waits q.is) (g.posted w q.seat q.is) g.posted;
          own = g.own;
          placed = λ k x a e f. (each_got (λ l (y : PlainSeat). (b : Act Txn) → placed_in (hand_in p.load.procs y.txn) ≡ Some b → IsPieceOf p.load (anchors_at p) (record { start = y.start; bytes = bytes_in y.txn }) (Record b))
              p.seats w waits (seat_inside p h w q.seat waits q.is) (λ b d. g.placed w q.seat b q.is d) (λ l y d b c. g.placed l y b d c)) k x e a f;
          gathered = g.gathered;
        }
