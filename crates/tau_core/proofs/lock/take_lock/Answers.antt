use Rattle.std.proofs.Common.{ℕ, ◌≡◌, ◌<◌, List, length, refl, sym, ap, subst, ◌∙◌, arith}
use Rattle.std.specs.Prelude.{Some, slice_get, slice_set}
use Rattle.tau_base.specs.declared.value.Value.{Value}
use Rattle.tau_base.specs.declared.value.Value.TheVariants.{Absent}
use Rattle.tau_base.specs.declared.limits.TheConstants.{SHARDS}
use Rattle.tau_base.specs.Shards.{shard_number}
use Rattle.tau_txn.specs.declared.action.Action.{Action}
use Rattle.tau_txn.specs.declared.action.Action.TheVariants as action
use Rattle.tau_txn.specs.Next.{IsLock, next_action}
use Rattle.tau_txn.specs.Txn.{PlainTxn, dep_in, hand_in, worker_of}
use Rattle.tau_shard.specs.Shard.{Entry, entry_in}
use Rattle.tau_machine.specs.Hands.{Hand}
use Rattle.tau_machine.specs.Worker.{Worker, hand_busy, hand_locked, settled}
use Rattle.tau_machine.specs.Pieces.{placed_of}
use Rattle.tau_shard.specs.Read.{shard_of}
use Rattle.tau_shard.specs.Blocks.{dep_locked, IsLowest, RefusedBy}
use Rattle.tau_shard.specs.declared.entry.ShardRefusal.{ShardRefusal}
use Rattle.tau_core.specs.Plain.{PlainSeat}
use Rattle.tau_core.specs.State.{Plain, plain}
use Rattle.tau_core.proofs.Found.{seat_in, found_seat, found_shard}
use Rattle.tau_core.proofs.Lists.{set_got}
use Rattle.tau_core.proofs.Hands.{shown_dep, some_hand, locked_alike, locked_wide, sound_on, entry_narrow}
use Rattle.tau_core.proofs.Leaving.{leaving}
use Rattle.tau_core.proofs.PhaseLaws.{means_phase}
use Rattle.tau_core.proofs.lock.take_lock.Goals as goal
use Rattle.tau_machine.proofs.Leads.{locked_call, locked_phase}

pub dep_ref-wide-requires : goal.dep_ref-wide-requires
dep_ref-wide-requires c =
    let is = found_seat c.args.state.now c.args.worker c.index_mut-seat.result.now c.seat.inside c.requires.sound c.requires.there c.index_mut-seat.ensures.value c.seat.view_is in
    let m = (c.requires.wants (seat_in c.seat.inside) is).1 in
    some_hand c.args.state.now.load.procs c.seat.inside.txn m.hand m.is

pub lock_on-requires-clause-lock : goal.lock_on-requires-clause-lock
lock_on-requires-clause-lock c =
    let is = found_seat c.args.state.now c.args.worker c.index_mut-seat.result.now c.seat.inside c.requires.sound c.requires.there c.index_mut-seat.ensures.value c.seat.view_is in
    (c.requires.wants (seat_in c.seat.inside) is).0

pub lock_on-requires-clause-wide : goal.lock_on-requires-clause-wide
lock_on-requires-clause-wide c =
    let is = found_seat c.args.state.now c.args.worker c.index_mut-seat.result.now c.seat.inside c.requires.sound c.requires.there c.index_mut-seat.ensures.value c.seat.view_is in
    let o = c.requires.sound.seat c.args.worker (seat_in c.seat.inside) is in
    let wants = c.requires.wants (seat_in c.seat.inside) is in
    let m = wants.1 in
    let below : c.from.result < SHARDS = (let e = c.from.ensures in let f = c.shard_of.ensures.small in omega arith) in
    let shard = found_shard c.args.state.now c.from.result c.index_mut-part.result.now c.requires.sound below c.index_mut-part.ensures.value in
    let number : c.from.result ≡ shard_number c.args.key = c.from.ensures ∙ c.shard_of.ensures.same in
    let shard_is = subst (λ (n : ℕ). slice_get c.args.state.now.shards.items n ≡ Some c.index_mut-part.result.now) number shard in
    let entry : Entry = entry_in (shard_of c.index_mut-part.result.now) c.args.key in
    let narrow = entry_narrow c.args.state.now.load (shard_of c.index_mut-part.result.now) c.args.key (c.requires.sound.narrow c.from.result c.index_mut-part.result.now shard) in
    let wide : length (dep_in c.seat.inside.txn) ≡ c.seat.inside.txn.width = ap length (sym c.dep_ref-wide.ensures.dep) ∙ c.dep_ref-wide.ensures.wide in
    locked_wide c.args.mode c.seat.inside.txn.width (dep_in c.seat.inside.txn) entry wide (let a = narrow.0 in let b = o.txn.width in omega arith) (let a = narrow.1 in let b = o.txn.width in omega arith)

pub busy-requires-clause-lock : goal.busy-requires-clause-lock
busy-requires-clause-lock c =
    let is = found_seat c.args.state.now c.args.worker c.index_mut-seat.result.now c.seat.inside c.requires.sound c.requires.there c.index_mut-seat.ensures.value c.seat.view_is in
    let before : IsLock (next_action c.seat.inside.txn) = subst (λ (a : Action). IsLock a) (sym (c.requires.wants (seat_in c.seat.inside) is).0) tt in
    subst (λ (t : PlainTxn). IsLock (next_action t)) (sym c.in-Err-Busy.ensures.as_before) before

pub busy-requires-clause-run : goal.busy-requires-clause-run
busy-requires-clause-run c =
    let is = found_seat c.args.state.now c.args.worker c.index_mut-seat.result.now c.seat.inside c.requires.sound c.requires.there c.index_mut-seat.ensures.value c.seat.view_is in
    let o = c.requires.sound.seat c.args.worker (seat_in c.seat.inside) is in
    c.lock_on.ensures.runs c.args.state.now.load.procs o.txn.runs

pub leave-requires-clause-room : goal.leave-requires-clause-room
leave-requires-clause-room c =
    let is = found_seat c.args.state.now c.args.worker c.index_mut-seat.result.now c.seat.inside c.requires.sound c.requires.there c.index_mut-seat.ensures.value c.seat.view_is in
    let o = c.requires.sound.seat c.args.worker (seat_in c.seat.inside) is in
    let wants = c.requires.wants (seat_in c.seat.inside) is in
    let m = wants.1 in
    λ e. o.store.leaves (some_hand c.args.state.now.load.procs c.seat.inside.txn m.hand m.is)

pub returns-in-Ok : goal.returns-in-Ok
returns-in-Ok c =
    let is = found_seat c.args.state.now c.args.worker c.index_mut-seat.result.now c.seat.inside c.requires.sound c.requires.there c.index_mut-seat.ensures.value c.seat.view_is in
    let o = c.requires.sound.seat c.args.worker (seat_in c.seat.inside) is in
    let wants = c.requires.wants (seat_in c.seat.inside) is in
    let m = wants.1 in
    let below : c.from.result < SHARDS = (let e = c.from.ensures in let f = c.shard_of.ensures.small in omega arith) in
    let shard = found_shard c.args.state.now c.from.result c.index_mut-part.result.now c.requires.sound below c.index_mut-part.ensures.value in
    let number : c.from.result ≡ shard_number c.args.key = c.from.ensures ∙ c.shard_of.ensures.same in
    let shard_is = subst (λ (n : ℕ). slice_get c.args.state.now.shards.items n ≡ Some c.index_mut-part.result.now) number shard in
    let entry : Entry = entry_in (shard_of c.index_mut-part.result.now) c.args.key in
    let p : Plain = plain c.args.state.now in
    let row : Value = (shard_of c.index_mut-part.result.now).rows c.args.key in
    let new : PlainSeat = record (seat_in c.seat.inside) { txn = c.lock_on.new.self } in
    let dep : dep_locked c.args.mode (dep_in c.seat.inside.txn) entry ≡ dep_locked c.args.mode m.hand.dep entry =
    ap (λ (d : List ℕ). dep_locked c.args.mode d entry) (shown_dep c.args.state.now.load.procs c.seat.inside.txn m.hand m.is) in
    let granted = c.in-Ok.ensures.step.is c.args.state.now.load.procs m.hand o.txn.runs m.is ∙ ap Some (locked_alike m.hand c.args.key c.args.mode row (dep_locked c.args.mode (dep_in c.seat.inside.txn) entry) entry dep) in
    record {
      value = row;
      is = record {
        seat = seat_in c.seat.inside;
        shard = c.index_mut-part.result.now;
        hand = m.hand;
        key = c.args.key;
        mode = c.args.mode;
        new = new;
        locked = c.lock_on.new.shard;
        is = is;
        shard_is = shard_is;
        wants = record { is = m.is; phase = m.phase; next = m.next };
        free = c.in-Ok.ensures.step.free;
        value_is = refl;
        locks = c.in-Ok.ensures.step.locked;
        granted = granted;
        others = refl;
        sound = sound_on c.args.state.now.load c.args.worker (seat_in c.seat.inside) new m.hand (hand_locked m.hand c.args.key c.args.mode row entry.write_lv entry.read_lv) o m.is refl c.lock_on.ensures.same granted
            (locked_call m.hand c.args.key c.args.mode row entry.write_lv entry.read_lv) (c.lock_on.ensures.runs c.args.state.now.load.procs o.txn.runs) (c.lock_on.ensures.stays o.txn.leaving)
            (ap placed_of (locked_phase m.hand c.args.key c.args.mode row entry.write_lv entry.read_lv ∙ m.phase));
        after = ap (λ (n : ℕ). record p { seats = slice_set p.seats c.args.worker new; shards = slice_set p.shards n c.lock_on.new.shard }) number;
      };
    }

pub returns-in-Err-Busy : goal.returns-in-Err-Busy
returns-in-Err-Busy c =
    let is = found_seat c.args.state.now c.args.worker c.index_mut-seat.result.now c.seat.inside c.requires.sound c.requires.there c.index_mut-seat.ensures.value c.seat.view_is in
    let o = c.requires.sound.seat c.args.worker (seat_in c.seat.inside) is in
    let wants = c.requires.wants (seat_in c.seat.inside) is in
    let m = wants.1 in
    let below : c.from.result < SHARDS = (let e = c.from.ensures in let f = c.shard_of.ensures.small in omega arith) in
    let shard = found_shard c.args.state.now c.from.result c.index_mut-part.result.now c.requires.sound below c.index_mut-part.ensures.value in
    let number : c.from.result ≡ shard_number c.args.key = c.from.ensures ∙ c.shard_of.ensures.same in
    let shard_is = subst (λ (n : ℕ). slice_get c.args.state.now.shards.items n ≡ Some c.index_mut-part.result.now) number shard in
    let entry : Entry = entry_in (shard_of c.index_mut-part.result.now) c.args.key in
    let p : Plain = plain c.args.state.now in
    let kept = c.in-Err-Busy.ensures.as_before in
    let same : c.busy.new.self ≡ record c.seat.inside.txn { hand = c.busy.new.self.hand } = subst (λ (t : PlainTxn). c.busy.new.self ≡ record t { hand = c.busy.new.self.hand }) kept c.busy.ensures.same in
    let busy = subst (λ (t : PlainTxn). (x : Worker) (h : Hand) → hand_in c.args.state.now.load.procs t ≡ Some h → worker_of c.args.state.now.load.procs x c.busy.new.self ≡ settled t.width x (hand_busy h)) kept c.busy.ensures.busy in
    let settles = leaving c.args.state.now.load c.args.worker (seat_in c.seat.inside) c.leave.new.seat m.hand (hand_busy m.hand) c.busy.new.self o m.is refl refl same
    (λ wk. busy wk m.hand m.is ∙ ap (λ (n : ℕ). settled n wk (hand_busy m.hand)) o.txn.width) c.busy.ensures.runs (c.busy.ensures.stays (c.lock_on.ensures.stays o.txn.leaving)) c.leave.ensures in
    let refused = c.in-Err-Busy.ensures.refused in
    record {
      value = Absent;
      is = record {
        seat = seat_in c.seat.inside;
        shard = c.index_mut-part.result.now;
        hand = m.hand;
        key = c.args.key;
        mode = c.args.mode;
        new = c.leave.new.seat;
        kept = c.lock_on.new.shard;
        is = is;
        shard_is = shard_is;
        kept_is = c.in-Err-Busy.ensures.unchanged;
        wants = record { is = m.is; phase = m.phase; next = m.next };
        lowest = subst (λ (n : ℕ). IsLowest entry c.args.worker c.args.mode n) (sym c.in-Err-Busy.holder-is) (subst (λ (r : ShardRefusal). RefusedBy entry c.args.worker c.args.mode r) c.in-Err-Busy.field-0-is refused);
        settles = settles.worker;
        keeps = settles.keeps;
        sound = settles.sound;
        after = ap (λ (n : ℕ). record p { seats = slice_set p.seats c.args.worker c.leave.new.seat; shards = slice_set p.shards n c.lock_on.new.shard }) number;
      };
    }

pub returns-in-Err-NoMemory : goal.returns-in-Err-NoMemory
returns-in-Err-NoMemory c =
    let p : Plain = plain c.args.state.now in
    let is = found_seat c.args.state.now c.args.worker c.index_mut-seat.result.now c.seat.inside c.requires.sound c.requires.there c.index_mut-seat.ensures.value c.seat.view_is in
    let below : c.from.result < SHARDS = (let e = c.from.ensures in let f = c.shard_of.ensures.small in omega arith) in
    let shard = found_shard c.args.state.now c.from.result c.index_mut-part.result.now c.requires.sound below c.index_mut-part.ensures.value in
    let number : c.from.result ≡ shard_number c.args.key = c.from.ensures ∙ c.shard_of.ensures.same in
    let shard_is = subst (λ (n : ℕ). slice_get c.args.state.now.shards.items n ≡ Some c.index_mut-part.result.now) number shard in
    let entry : Entry = entry_in (shard_of c.index_mut-part.result.now) c.args.key in
    record {
      value = Absent;
      is = (
        record {
          i = c.from.result;
          shard = c.index_mut-part.result.now;
          kept = c.lock_on.new.shard;
          is = shard;
          kept_is = c.in-Err-NoMemory.ensures.unchanged;
          after = ap (λ (t : PlainTxn). record p { seats = slice_set p.seats c.args.worker (record (seat_in c.seat.inside) { txn = t }); shards = slice_set p.shards c.from.result c.lock_on.new.shard }) c.in-Err-NoMemory.ensures.as_before
              ∙ ap (λ (l : List PlainSeat). record p { seats = l; shards = slice_set p.shards c.from.result c.lock_on.new.shard }) (set_got c.args.state.now.seats.items c.args.worker (seat_in c.seat.inside) is);
        },
        λ s e.
            let o = c.requires.sound.seat c.args.worker s e in
            means_phase c.args.state.now.load.procs s.txn (action.Lock c.args.key c.args.mode) (c.requires.wants s e).1 o.txn.leaving o.txn.stays,
      );
    }
