-- The part of one worker is another one.
use Rattle.std.proofs.Common.{ℕ, zero, suc, ◌+◌, ◌<◌, ◌≤◌, ◌≡◌, List, [], ◌∷◌, length, sym, ap, ◌∙◌, Option, arith, length-set}
use Rattle.std.specs.Prelude.{Some, None, slice_get, slice_set, if◌then◌else◌}
use Rattle.std.proofs.lemmas.Option.{slice_get_within}
use Rattle.tau_shard.specs.Shard.{at}
use Rattle.tau_machine.specs.Worker.{Worker}
use Rattle.tau_machine.specs.State.{Outbox}
use Rattle.tau_shard.proofs.At.{at_itself}
use Rattle.tau_txn.specs.Txn.{hand_in}
use Rattle.tau_core.specs.declared.state.Load.{Load}
use Rattle.tau_core.specs.Plain.{PlainSeat}
use Rattle.tau_core.specs.State.{Plain}
use Rattle.tau_core.specs.View.{Hidden, committed_by, seat_worker, worker_in, tickets, pending_in, core_of}
use Rattle.tau_core.specs.Stands.{is_open, open_calls, Sound, SoundSeat}
use Rattle.tau_core.proofs.Lists.{reads_got, each_got}

abbrev pub one_open : Load → PlainSeat → ℕ
one_open l s = if is_open (hand_in l.procs s.txn) then 1 else 0

pub open_set : (l : Load) (xs : List PlainSeat) (i : ℕ) (s s' : PlainSeat) → slice_get xs i ≡ Some s → open_calls l (slice_set xs i s') + one_open l s ≡ open_calls l xs + one_open l s'
open_set l [] i s s' is = absurd (let bad : None ≡ Some s = is in cc)
open_set l (x ∷ xs) zero s s' is =
    let same : x ≡ s = cc in
    let e : one_open l x ≡ one_open l s = ap (one_open l) same in
    omega arith
open_set l (x ∷ xs) (suc i) s s' is = let e = open_set l xs i s s' is in omega arith

-- the worker and its outbox
abbrev pub seat_outbox : Hidden → ℕ → PlainSeat → Outbox
seat_outbox h w s = record { posted = h.posted w; pending = tickets s.pending.calls }

module _ (p : Plain) (h : Hidden) (w : ℕ) (s s' : PlainSeat) (is : slice_get p.seats w ≡ Some s) where
  abbrev pub reseated : Plain
  reseated = record p { seats = slice_set p.seats w s' }

  pub seat_inside : w < length p.seats
  seat_inside = slice_get_within p.seats w s is

  pub worker_of_seat : (core_of p h).workers w ≡ seat_worker p.load s (committed_by p.load.workers w p.committed)
  worker_of_seat = ap (λ (o : Option PlainSeat). worker_in p.load o (committed_by p.load.workers w p.committed)) is

  pub outbox_of_seat : (core_of p h).outboxes w ≡ seat_outbox h w s
  outbox_of_seat = ap (λ (o : Option PlainSeat). record { posted = h.posted w; pending = pending_in o }) is

  pub seat_core : core_of reseated h ≡ record (core_of p h) {
    workers = at w (seat_worker p.load s' (committed_by p.load.workers w p.committed)) (core_of p h).workers;
    outboxes = at w (seat_outbox h w s') (core_of p h).outboxes;
  }
  seat_core =
      let f : ℕ → Option PlainSeat → Worker = λ k o. worker_in p.load o (committed_by p.load.workers k p.committed) in
      let b : ℕ → Option PlainSeat → Outbox = λ k o. record { posted = h.posted k; pending = pending_in o } in
      ap (λ (x : (ℕ → Worker) × (ℕ → Outbox)). record (core_of p h) { workers = x.0; outboxes = x.1 })
      (λ i. (reads_got f p.seats w s' seat_inside i, reads_got b p.seats w s' seat_inside i))

  -- where the worker is the same
  pub same_worker : seat_worker p.load s' (committed_by p.load.workers w p.committed) ≡ seat_worker p.load s (committed_by p.load.workers w p.committed) →
      at w (seat_worker p.load s' (committed_by p.load.workers w p.committed)) (core_of p h).workers ≡ (core_of p h).workers
  same_worker e = ap (λ (x : Worker). at w x (core_of p h).workers) (e ∙ sym worker_of_seat) ∙ at_itself w (core_of p h).workers

  pub same_outbox : tickets s'.pending.calls ≡ tickets s.pending.calls → at w (seat_outbox h w s') (core_of p h).outboxes ≡ (core_of p h).outboxes
  same_outbox e = ap (λ (x : Outbox). at w x (core_of p h).outboxes) (ap (λ l. record { posted = h.posted w; pending = l }) e ∙ sym outbox_of_seat) ∙ at_itself w (core_of p h).outboxes

  -- the other parts stay sound
  pub seat_sound : Sound p → SoundSeat p.load w s' → one_open p.load s' ≤ one_open p.load s → Sound reseated
  seat_sound g new e = record {
    workers_low = g.workers_low;
    workers_high = g.workers_high;
    streams_low = g.streams_low;
    streams_high = g.streams_high;
    few = g.few;
    takes = g.takes;
    opened = g.opened;
    shards = g.shards;
    seats = length-set p.seats w s' ∙ g.seats;
    streams = g.streams;
    ends = g.ends;
    gathered = g.gathered;
    plv = g.plv;
    seat = each_got (SoundSeat p.load) p.seats w s' seat_inside new g.seat;
    wide = g.wide;
    narrow = g.narrow;
    room = (let o = open_set p.load p.seats w s s' is in let r = g.room in omega arith);
  }
